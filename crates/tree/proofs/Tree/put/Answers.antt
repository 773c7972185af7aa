-- A node put is its number put.
use Rattle.std.proofs.lemmas.List.{map-set}
use Rattle.tree.specs.Node.{node_number}
use Rattle.tree.proofs.Tree.put.Goals as goal

pub returns : goal.returns
returns c = rw (← c.self.view_is) (map-set node_number _ _ _)
