-- Each answer is one case of the checks.
use Rattle.model.proofs.Prelude.{rules}
use Rattle.names.proofs.Listing.{good_long, good_readable}
use Rattle.checks.proofs.Cases.{given_no_old, given_no_new, given_is}
use Rattle.checks.proofs.given.Goals.{then-not-is_valid-via-then-not-is_valid, then-not-is_valid-via-else-not-is_valid+then-not-is_valid-2}
use Rattle.checks.proofs.given.Goals as goal

pub of-sizes-requires : goal.of-sizes-requires
of-sizes-requires c = search (rules, good_long)

pub is_valid-requires : goal.is_valid-requires
is_valid-requires c = search (rules, good_readable)

pub is_valid-requires-else-not-is_valid : goal.is_valid-requires-else-not-is_valid
is_valid-requires-else-not-is_valid c = search (rules, good_readable)

pub returns-then-not-is_valid : goal.returns-then-not-is_valid
returns-then-not-is_valid c =
    elim c.then-not-is_valid.branch [
      | then-not-is_valid-via-then-not-is_valid w ↦ search (rules, given_no_old)
      | then-not-is_valid-via-else-not-is_valid+then-not-is_valid-2 w ↦ search (rules, given_no_new)
    ]

pub returns : goal.returns
returns c = search (rules, given_is)
