-- The ways up in the table made of the array are those of the array.
use Rattle.model.proofs.Prelude.{rules}
use Rattle.tree.proofs.Numbers.{beneath_known}
use Rattle.tree.proofs.is_beneath.Goals as goal

pub returns : goal.returns
returns c = search (rules, beneath_known)
