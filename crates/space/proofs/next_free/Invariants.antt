-- The loop's invariant: the search from page `p` on finds what the whole search finds.
use Rattle.model.proofs.Prelude.{◌-◌, ◌≡◌}
use Rattle.model.specs.Lists.{lowest}
use Rattle.marks.specs.Marks.{unmarked}
use Rattle.space.proofs.next_free.Given as goal

abbrev pub invariant-loop-p : goal.invariant-loop-p
invariant-loop-p l =
    lowest (unmarked l.marks l.sizes.pages l.sizes.inodes) (l.sizes.pages - l.p) l.p
    ≡ lowest (unmarked l.marks l.sizes.pages l.sizes.inodes) (l.sizes.pages - l.from) l.from
