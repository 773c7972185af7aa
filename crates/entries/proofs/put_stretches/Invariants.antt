-- The loop's invariant: the entries put, then those of the stretches from element i on, are those of all stretches; each has a page
-- at least, so that n is at most i.
use Rattle.model.proofs.Prelude.{◌-◌, ◌≤◌}
use Rattle.entries.proofs.Entries.{Filling}
use Rattle.entries.proofs.Stretches.{left}
use Rattle.entries.proofs.put_stretches.Given as goal

abbrev pub invariant-loop-i : goal.invariant-loop-i
invariant-loop-i l =
    (l.i ≤ l.len) × (l.n ≤ l.i) × Filling l.initial.words l.words l.n (left l.table l.file l.size l.i) (left l.table l.file l.size 0)

abbrev pub decreases-loop-i : goal.decreases-loop-i
decreases-loop-i l = l.len - l.i
