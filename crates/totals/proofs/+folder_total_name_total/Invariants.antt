-- A folder's total is the sum over its names, and what a name counts is a size or a folder's total: the measure falls at both calls. The
-- loop's invariant: the sum so far, and what the names that are left count, are the total.
use Rattle.model.proofs.Prelude.{◌+◌, ◌*◌, ◌-◌, ◌≡◌, length}
use Rattle.totals.specs.Totals.{beneath_in}
use Rattle.totals.proofs.Beneath.{rest}
use Rattle.totals.proofs.+folder_total_name_total.Given as goal

abbrev pub decreases-folder_total : goal.decreases-folder_total
decreases-folder_total l = 2 * l.left

abbrev pub decreases-name_total : goal.decreases-name_total
decreases-name_total l = 2 * l.left + 1

abbrev pub invariant-folder_total-loop-k : goal.invariant-folder_total-loop-k
invariant-folder_total-loop-k l =
    (length l.places ≡ 224) × (l.sum + rest l.v (l.left - 1) l.d l.k-index ≡ beneath_in l.v l.left l.d)
