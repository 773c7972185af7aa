-- Each answer is one case of the checks.
use Rattle.model.proofs.Prelude.{rules}
use Rattle.names.proofs.Listing.{good_long, good_readable, good_reads}
use Rattle.checks.proofs.Volumes.{valid_below}
use Rattle.checks.proofs.Cases.{create_bad, create_none, create_taken, create_file, create_no_inode, create_full, create_is}
use Rattle.checks.proofs.create_checks.Goals as goal

pub returns-then-not-is_new_name : goal.returns-then-not-is_new_name
returns-then-not-is_new_name c = search (rules, create_bad)

pub of-sizes-requires : goal.of-sizes-requires
of-sizes-requires c = search (rules, good_long)

pub is_valid-requires : goal.is_valid-requires
is_valid-requires c = search (rules, good_readable)

pub returns-then-not-is_valid : goal.returns-then-not-is_valid
returns-then-not-is_valid c = search (rules, create_none)

pub returns-then-is_some : goal.returns-then-is_some
returns-then-is_some c = search (rules, create_taken)

pub is_directory-requires : goal.is_directory-requires
is_directory-requires c = search (rules, good_reads, valid_below)

pub returns-then-not-is_directory : goal.returns-then-not-is_directory
returns-then-not-is_directory c = search (rules, create_file)

pub free_inode-requires : goal.free_inode-requires
free_inode-requires c = search (rules, good_readable)

pub returns-in_err-inode : goal.returns-in_err-inode
returns-in_err-inode c = search (rules, create_no_inode, c.in_err-inode.ensures)

pub returns-then-n-ge-MOST_NAMES : goal.returns-then-n-ge-MOST_NAMES
returns-then-n-ge-MOST_NAMES c = search (rules, create_full, c.in_ok-inode.ensures)

pub returns : goal.returns
returns c = search (rules, create_is, c.in_ok-inode.ensures)
