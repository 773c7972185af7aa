-- Each turn is one step of the climb.
use Rattle.model.proofs.Prelude.{rules}
use Rattle.tree.proofs.Ways.{meets_here, meets_next, meets_last}
use Rattle.tree.proofs.Tree.meets.Goals as goal

pub returns-then-is_reached : goal.returns-then-is_reached
returns-then-is_reached c = search (rules, meets_here)

pub loop-preserved : goal.loop-preserved
loop-preserved c = search (rules, meets_next)

pub returns : goal.returns
returns c = search (rules, meets_last)
