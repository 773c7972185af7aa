-- A node read is its number taken apart.
use Rattle.model.proofs.Prelude.{arith}
use Rattle.tree.proofs.Nodes.{state_at}
use Rattle.tree.proofs.Tree.state.Goals as goal

pub returns : goal.returns
returns c = state_at _ _ c.self.view_is _ (omega (arith, c.self.invariant.0, c.requires)) _ c.self.invariant.1 (omega arith)
