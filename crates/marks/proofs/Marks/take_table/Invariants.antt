-- The loop's invariant: to mark the data pages that are left, on the marks so far, is to mark all on the marks at first.
use Rattle.model.proofs.Prelude.{◌≡◌, true, length}
use Rattle.marks.specs.Marks.{fresh, marked, mapped, have_marks}
use Rattle.marks.proofs.Turns.{left}
use Rattle.marks.proofs.Marks.take_table.Given as goal

abbrev pub invariant-loop-d : goal.invariant-loop-d
invariant-loop-d l =
    (have_marks (left l.table l.d-index) ≡ true)
    × (fresh l.self (left l.table l.d-index) ≡ fresh l.initial.self (mapped l.table 0 (length l.table)))
    × (marked l.self (left l.table l.d-index) ≡ marked l.initial.self (mapped l.table 0 (length l.table)))
