-- Each answer is one kind of an entry.
use Rattle.model.proofs.Prelude.{arith}
use Rattle.dentry.proofs.Fields.{ok_write, ok_size, ok_add, ok_remove, ok_none}
use Rattle.dentry.proofs.entry_ok.Goals as goal

pub returns-in-Write : goal.returns-in-Write
returns-in-Write c = grind (arith, c.in-Write.is, ok_write, ok_size, ok_none)

pub returns-in-Add : goal.returns-in-Add
returns-in-Add c = search ok_add

pub returns-in-Remove : goal.returns-in-Remove
returns-in-Remove c = search ok_remove
