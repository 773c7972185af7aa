-- The line of a name, with what its entry says and its inode counts.
use Rattle.model.proofs.Prelude.{rules}
use Rattle.listing.proofs.Names.{few_left, inode_below, inode_valid, file_room}
use Rattle.listing.proofs.put_file.Goals as goal

pub name_total-size-requires : goal.name_total-size-requires
name_total-size-requires c = (search, search few_left, search rules, search inode_below, search inode_valid)

pub put_line-requires : goal.put_line-requires
put_line-requires c = (search rules, search file_room)
