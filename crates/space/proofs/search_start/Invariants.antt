-- The loop's invariant: the `len` pages before page `p` are not marked, and the search from the first of them on finds what the whole search
-- finds.
use Rattle.model.proofs.Prelude.{◌<◌}
use Rattle.marks.specs.Marks.{unmarked}
use Rattle.space.proofs.Runs.{Begun}
use Rattle.space.proofs.search_start.Given as goal

abbrev pub invariant-loop-p : goal.invariant-loop-p
invariant-loop-p l = (l.len < l.n) × Begun (unmarked l.marks l.sizes.pages l.sizes.inodes) l.sizes.pages l.n l.p l.len
