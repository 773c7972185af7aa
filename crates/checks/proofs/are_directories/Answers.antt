-- Both inodes are below the inode count.
use Rattle.model.proofs.Prelude.{rules}
use Rattle.names.proofs.Listing.{good_reads}
use Rattle.checks.proofs.are_directories.Goals as goal

pub is_directory-requires : goal.is_directory-requires
is_directory-requires c = search (rules, good_reads)

pub is_directory-requires-then-is_directory : goal.is_directory-requires-then-is_directory
is_directory-requires-then-is_directory c = search (rules, good_reads)
