-- The state decides.
use Rattle.model.proofs.Prelude.{rules}
use Rattle.tree.proofs.Numbers.{often_none, often_not}
use Rattle.tree.proofs.released.Goals as goal

pub returns-in-FileOften : goal.returns-in-FileOften
returns-in-FileOften c = search (rules, often_none)

pub returns-in_default : goal.returns-in_default
returns-in_default c = search (rules, often_not)
