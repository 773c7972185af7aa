-- Each turn is one step of the climb.
use Rattle.model.proofs.Prelude.{rules}
use Rattle.tree.proofs.Ways.{above_here, above_next, above_last}
use Rattle.tree.proofs.Tree.is_beneath.Goals as goal

pub returns-then-g-f : goal.returns-then-g-f
returns-then-g-f c = search (rules, above_here)

pub loop-preserved : goal.loop-preserved
loop-preserved c = search (rules, above_next)

pub returns : goal.returns
returns c = search (rules, above_last)
