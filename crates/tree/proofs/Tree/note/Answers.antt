-- The state after one name more decides.
use Rattle.model.proofs.Prelude.{rules}
use Rattle.tree.proofs.Notes.{note_bad, note_good, note_list, no_note}
use Rattle.tree.proofs.Nodes.{some_state}
use Rattle.tree.proofs.Tree.note.Goals as goal

pub returns-in_default : goal.returns-in_default
returns-in_default c = search (rules, note_bad, no_note)

pub returns : goal.returns
returns c = search (rules, note_good, note_list, some_state)
