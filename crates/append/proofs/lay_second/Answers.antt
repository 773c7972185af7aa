-- No entries, or the log and its head.
use Rattle.model.proofs.Prelude.{rules}
use Rattle.append.proofs.Parts.{second_none, second_laid}
use Rattle.append.proofs.lay_second.Goals as goal

pub returns-then-n-eq0 : goal.returns-then-n-eq0
returns-then-n-eq0 c = search (rules, second_none)

pub returns : goal.returns
returns c = search (rules, second_laid)
