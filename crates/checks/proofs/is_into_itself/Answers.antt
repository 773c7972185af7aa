-- Of a folder the way up in the table decides.
use Rattle.model.proofs.Prelude.{rules}
use Rattle.names.proofs.Listing.{good_reads, good_long}
use Rattle.checks.proofs.Volumes.{good_low}
use Rattle.checks.proofs.Cases.{into_folder}
use Rattle.checks.proofs.is_into_itself.Goals as goal

pub is_directory-requires : goal.is_directory-requires
is_directory-requires c = search (rules, good_reads)

pub of-requires : goal.of-requires
of-requires c = search (rules, good_long)

pub is_beneath-requires : goal.is_beneath-requires
is_beneath-requires c = search (rules, good_low)

pub returns-then-is_directory : goal.returns-then-is_directory
returns-then-is_directory c = search (rules, into_folder)
