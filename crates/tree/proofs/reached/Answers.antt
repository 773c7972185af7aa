-- The state decides.
use Rattle.model.proofs.Prelude.{rules, arith}
use Rattle.tree.proofs.Numbers.{named_state, named_more, named_same}
use Rattle.tree.proofs.reached.Goals as goal

pub overflow_add-result : goal.overflow_add-result
overflow_add-result c = omega (arith, named_state _ _ c.from.ensures c.in-FolderNamed.is)

pub returns-in-FolderNamed : goal.returns-in-FolderNamed
returns-in-FolderNamed c = search (rules, named_more)

pub returns-in_default : goal.returns-in_default
returns-in_default c = search (rules, named_same)
