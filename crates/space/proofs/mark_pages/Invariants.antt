-- The loop's invariant: the marks with the pages from the loop's on marked too are the first marks with all marked.
use Rattle.model.proofs.Prelude.{◌≡◌, drop}
use Rattle.marks.specs.Marks.{marked}
use Rattle.space.proofs.mark_pages.Given as goal

abbrev pub invariant-loop-p : goal.invariant-loop-p
invariant-loop-p l = marked l.marks (drop l.p-index l.pages) ≡ marked l.initial.marks l.pages
