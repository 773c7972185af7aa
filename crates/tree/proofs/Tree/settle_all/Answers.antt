-- Each turn is the next inode below.
use Rattle.model.proofs.Prelude.{rules}
use Rattle.tree.proofs.Settling.{settling_stops, settling_next}
use Rattle.tree.proofs.Tree.settle_all.Goals as goal

pub returns-then-not-settle : goal.returns-then-not-settle
returns-then-not-settle c = search (rules, settling_stops)

pub loop-k-preserved : goal.loop-k-preserved
loop-k-preserved c = search (rules, settling_next)
