-- An add and a remove are noted as the index notes them; another entry leaves it.
use Rattle.directory.proofs.Indexing.{note_add, note_remove, note_other}
use Rattle.directory.proofs.index_entry.Goals as goal

pub returns-in-Add : goal.returns-in-Add
returns-in-Add c = search note_add

pub returns-in-Remove : goal.returns-in-Remove
returns-in-Remove c = search note_remove

pub returns-in_default : goal.returns-in_default
returns-in_default c = note_other _ _ _ _ c.args.e c.in_default.not-Add c.in_default.not-Remove (search)
