-- The folder of the old name is below the inode count.
use Rattle.model.proofs.Prelude.{rules}
use Rattle.names.proofs.Listing.{good_reads}
use Rattle.checks.proofs.rename_checks.Goals as goal

pub is_absent-requires : goal.is_absent-requires
is_absent-requires c = search (rules, good_reads)
