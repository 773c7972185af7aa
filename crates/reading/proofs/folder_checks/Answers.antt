-- Each answer is one case of the checks.
use Rattle.model.proofs.Prelude.{rules}
use Rattle.names.proofs.Listing.{good_long, good_readable, good_reads}
use Rattle.checks.proofs.Volumes.{valid_below}
use Rattle.reading.proofs.Folders.{folder_none, folder_file, folder_is}
use Rattle.reading.proofs.folder_checks.Goals as goal

pub of-sizes-requires : goal.of-sizes-requires
of-sizes-requires c = search (rules, good_long)

pub is_valid-requires : goal.is_valid-requires
is_valid-requires c = search (rules, good_readable)

pub returns-then-not-is_valid : goal.returns-then-not-is_valid
returns-then-not-is_valid c = search (rules, folder_none)

pub is_directory-requires : goal.is_directory-requires
is_directory-requires c = search (rules, good_reads, valid_below)

pub returns-then-not-is_directory : goal.returns-then-not-is_directory
returns-then-not-is_directory c = search (rules, folder_file)

pub returns : goal.returns
returns c = search (rules, folder_is)
