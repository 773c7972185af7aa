-- The loop's invariant: the elements up to the loop's are pages found, and the others are sought from `next` on.
use Rattle.marks.specs.Marks.{unmarked}
use Rattle.space.proofs.Taken.{Finding}
use Rattle.space.proofs.find_pages.Given as goal

abbrev pub invariant-loop-page : goal.invariant-loop-page
invariant-loop-page l =
    Finding (unmarked l.marks l.sizes.pages l.sizes.inodes) l.sizes.pages l.from l.initial.pages l.pages l.next l.page-index
