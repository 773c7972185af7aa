-- Each answer is one case of the checks.
use Rattle.model.proofs.Prelude.{ap, not, rules}
use Rattle.names.proofs.Listing.{good_long, good_readable, good_reads, turned_long}
use Rattle.checks.proofs.Volumes.{valid_below, lists_long}
use Rattle.checks.proofs.Cases.{find_bad, find_none, find_file, find_last}
use Rattle.checks.proofs.find_checks.Goals as goal

pub returns-then-not-is_name : goal.returns-then-not-is_name
returns-then-not-is_name c = search (rules, find_bad, lists_long)

pub of-sizes-requires : goal.of-sizes-requires
of-sizes-requires c = search (rules, good_long)

pub is_valid-requires : goal.is_valid-requires
is_valid-requires c = search (rules, good_readable)

pub returns-then-not-is_valid : goal.returns-then-not-is_valid
returns-then-not-is_valid c = search (rules, find_none, lists_long)

pub is_directory-requires : goal.is_directory-requires
is_directory-requires c =
    let l = valid_below _ _ _ _ c.of-sizes.ensures.1 c.is_valid.ensures (ap not c.if-not-is_valid.false) in search (rules, good_reads, l)

pub returns-then-not-is_directory : goal.returns-then-not-is_directory
returns-then-not-is_directory c = search (rules, find_file, lists_long)

pub returns : goal.returns
returns c = search (rules, find_last, turned_long)
