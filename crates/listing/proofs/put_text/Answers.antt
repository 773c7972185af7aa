-- The sizes are read, the free pages counted, and the first line and those of the names put one after the other.
use Rattle.model.proofs.Prelude.{rules}
use Rattle.listing.proofs.Fits.{first_room}
use Rattle.names.proofs.Listing.{good_long}
use Rattle.listing.proofs.Text.{text_pages, text_places, text_inodes, lines_room, text_put}
use Rattle.listing.proofs.put_text.Goals as goal

pub of-sizes-requires : goal.of-sizes-requires
of-sizes-requires c = search good_long

pub free_count-free-requires : goal.free_count-free-requires
free_count-free-requires c = search (rules, text_pages)

pub put_first-at-requires : goal.put_first-at-requires
put_first-at-requires c = search (rules, first_room)

pub put_files-requires : goal.put_files-requires
put_files-requires c = (search, search, search text_places, search text_inodes, search (rules, lines_room))

pub returns : goal.returns
returns c = search (rules, text_put)
