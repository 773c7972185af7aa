-- The names that stand in the table of places are those of the folder.
use Rattle.names.proofs.Listing.{turned_long}
use Rattle.totals.proofs.Tables.{filled_there, below_there, laid_there}
use Rattle.totals.proofs.inodes_of.Goals as goal

pub lay_inodes-requires : goal.lay_inodes-requires
lay_inodes-requires c = (search filled_there, search below_there)

pub returns : goal.returns
returns c = (search laid_there, search turned_long)
