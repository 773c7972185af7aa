-- The list's length is the check before the gate's.
use Rattle.model.proofs.Prelude.{rules}
use Rattle.gate.proofs.Judging.{short_list, long_list}
use Rattle.gate.proofs.filling.Goals as goal

pub returns-then-words-lt-LIST_WORDS : goal.returns-then-words-lt-LIST_WORDS
returns-then-words-lt-LIST_WORDS c = search (rules, short_list)

pub returns : goal.returns
returns c = search (rules, long_list)
