-- The loop's invariant: the pages passed are not marked.
use Rattle.marks.specs.Marks.{unmarked}
use Rattle.gaps.proofs.Found.{Running}
use Rattle.gaps.proofs.run_length.Given as goal

abbrev pub invariant-loop-q : goal.invariant-loop-q
invariant-loop-q l = Running (unmarked l.marks l.sizes.pages l.sizes.inodes) l.sizes.pages l.p l.q
