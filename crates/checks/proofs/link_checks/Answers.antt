-- All inodes asked are below the inode count.
use Rattle.model.proofs.Prelude.{rules}
use Rattle.names.proofs.Listing.{good_reads}
use Rattle.checks.proofs.link_checks.Goals as goal

pub is_absent-requires : goal.is_absent-requires
is_absent-requires c = search (rules, good_reads)

pub is_directory-requires : goal.is_directory-requires
is_directory-requires c = search (rules, good_reads)
