-- A turn notes one name, and what is left of the others comes to the same.
use Rattle.model.proofs.Prelude.{arith}
use Rattle.directory.proofs.Table.{next_in}
use Rattle.names.proofs.Inodes.{inodes_start, next_below, rest_below, note_not, note_next, note_end, table_next, table_end, none_noted}
use Rattle.names.proofs.note_names.Goals as goal

pub loop-p-init : goal.loop-p-init
loop-p-init c = rw (inodes_start _ _ _ _ c.requires.0) (search)

pub inode_at-k-requires : goal.inode_at-k-requires
inode_at-k-requires c = (search (arith, next_in), search arith)

pub note-requires : goal.note-requires
note-requires c = (search next_below, search next_below)

pub returns-then-not-note : goal.returns-then-not-note
returns-then-not-note c = search (note_not, none_noted)

pub loop-p-preserved : goal.loop-p-preserved
loop-p-preserved c = search (rest_below, note_next, table_next)

pub returns : goal.returns
returns c = search (note_end, table_end)
