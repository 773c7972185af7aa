-- The tail's word, or 0.
use Rattle.model.proofs.Prelude.{rules}
use Rattle.append.proofs.Parts.{tail_anew, tail_old}
use Rattle.append.proofs.old_tail.Goals as goal

pub returns-then-anew : goal.returns-then-anew
returns-then-anew c = search (rules, tail_anew)

pub returns : goal.returns
returns c = search (rules, tail_old)
