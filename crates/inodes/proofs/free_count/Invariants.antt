-- The loop's invariant: n is the count of the pages below p.
use Rattle.model.proofs.Prelude.{◌≤◌, ◌≡◌}
use Rattle.inodes.proofs.Unmarked.{counted_below}
use Rattle.inodes.proofs.free_count.Given as goal

abbrev pub invariant-loop-p : goal.invariant-loop-p
invariant-loop-p l = (l.n ≤ l.p) × (l.n ≡ counted_below l.marks l.sizes.pages l.sizes.inodes l.p)
