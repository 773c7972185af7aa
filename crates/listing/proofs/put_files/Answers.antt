-- Each turn puts the line of the first of the names that are left.
use Rattle.model.proofs.Prelude.{rules}
use Rattle.listing.proofs.Names.{here_ok, here_inode, next_inodes, here_room, next_lines, lines_end}
use Rattle.listing.proofs.put_files.Goals as goal

pub put_file-next-requires : goal.put_file-next-requires
put_file-next-requires c =
    (search, search, search rules, search (rules, here_ok), search (rules, here_inode), search (rules, here_room))

pub loop-place-preserved : goal.loop-place-preserved
loop-place-preserved c = (search (rules, next_inodes), search (rules, next_lines))

pub returns : goal.returns
returns c = search (rules, lines_end)
