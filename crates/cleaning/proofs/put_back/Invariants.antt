-- The loop's invariant: the old values that are left give, added from here on, all old values.
use Rattle.model.proofs.Prelude.{◌+◌, ◌-◌, ◌*◌, ◌≤◌, ◌<◌, ◌≡◌, length}
use Rattle.cleaning.proofs.Back.{Backing}
use Rattle.cleaning.proofs.put_back.Given as goal

abbrev pub invariant-loop : goal.invariant-loop
invariant-loop l =
    (l.p.at < 16) × (l.e + 2 * (l.end - l.counter) ≤ 30) × (length l.list ≡ length l.initial.list)
    × Backing l.v l.initial.list l.list l.e (l.end - l.counter) l.p.at
