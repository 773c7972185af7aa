-- The last entry stands before the log's end.
use Rattle.inode_log.proofs.Viewed.{inode_in_lem}
use Rattle.files.proofs.States.{log_ends}
use Rattle.files.proofs.Sizes.{nothing_written, last_here, last_there, last_low, last_sets}
use Rattle.files.proofs.last_size.Goals as goal

pub log_of-log-requires : goal.log_of-log-requires
log_of-log-requires c = (search, search inode_in_lem, search log_ends)

pub returns-then-log-eq0 : goal.returns-then-log-eq0
returns-then-log-eq0 c = search nothing_written

pub log_step-s-requires : goal.log_step-s-requires
log_step-s-requires c = (search last_here, search last_there, search last_low)

pub returns : goal.returns
returns c = search last_sets
