-- The loop's invariant: what is left to add gives, added from here on, what was to add.
use Rattle.model.proofs.Prelude.{◌+◌, ◌*◌, ◌-◌, ◌≤◌, length}
use Rattle.model.specs.Stores.{run}
use Rattle.stores.specs.Added.{Adding, element, element_from}
use Rattle.stores.proofs.put_each.Given as goal

abbrev pub invariant-loop-i : goal.invariant-loop-i
invariant-loop-i l =
    (l.e + 2 * (length l.words - l.i) ≤ l.end + 2 * length l.words)
    × Adding l.initial.list 0 l.end (run l.w (length l.words) (element l.words)) l.list l.e
    (run (l.w + l.i) (length l.words - l.i) (element_from l.words l.i))
