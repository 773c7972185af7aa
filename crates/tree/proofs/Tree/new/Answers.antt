-- Every parent of a new table is inode 0.
use Rattle.model.proofs.Prelude.{arith}
use Rattle.tree.proofs.Nodes.{new_fits}
use Rattle.tree.proofs.Tree.new.Goals as goal

pub invariant_of-result : goal.invariant_of-result
invariant_of-result c = (λ i. 256, new_fits 256 _ (omega arith))
