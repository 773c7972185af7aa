-- Each turn is one step of the way.
use Rattle.model.proofs.Prelude.{rules}
use Rattle.tree.proofs.Ways.{way_stops, way_next, way_done}
use Rattle.tree.proofs.Tree.mark_way.Goals as goal

pub returns-in_default : goal.returns-in_default
returns-in_default c = search (rules, way_stops)

pub loop-preserved : goal.loop-preserved
loop-preserved c = search (rules, way_next)

pub returns : goal.returns
returns c = search (rules, way_done)
