-- The state decides, or the climb.
use Rattle.model.proofs.Prelude.{rules}
use Rattle.tree.proofs.Notes.{no_note}
use Rattle.tree.proofs.Ways.{stop_nameless, pass_named, pass_marked, pass_other, pass_list}
use Rattle.tree.proofs.Tree.settle.Goals as goal

pub returns-in-File : goal.returns-in-File
returns-in-File c = (search (rules, stop_nameless), no_note)

pub returns-in-FolderNamed : goal.returns-in-FolderNamed
returns-in-FolderNamed c = (search (rules, pass_named), search (rules, pass_marked))

pub returns-in-Free : goal.returns-in-Free
returns-in-Free c = (search (rules, pass_other), search (rules, pass_list))
