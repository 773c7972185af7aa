-- The loop's invariant: the entries from the i-th on are left to be laid.
use Rattle.model.proofs.Prelude.{◌+◌, ◌*◌, ◌-◌, ◌/◌, ◌≤◌, ◌≡◌, length}
use Rattle.laying.proofs.Steps.{Going}
use Rattle.laying.proofs.lay_entries.Given as goal

abbrev pub invariant-loop-i : goal.invariant-loop-i
invariant-loop-i l =
    (l.h.end + 18 * (length l.entries / 8 - l.i) ≤ l.initial.h.end + 18 * (length l.entries / 8)) × (length l.list ≡ length l.initial.list)
    × Going l.marks l.sizes l.initial.list l.initial.h l.entries l.list l.h l.i
