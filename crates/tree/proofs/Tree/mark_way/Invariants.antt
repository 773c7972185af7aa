-- The way that is left, marked in this table, gives what the whole way gives.
use Rattle.model.proofs.Prelude.{◌-◌, ◌<◌, ◌≡◌}
use Rattle.tree.specs.Way.{way_marked}
use Rattle.tree.proofs.Tree.mark_way.Given as goal

abbrev pub invariant-loop : goal.invariant-loop
invariant-loop l = (l.f < 256) × (way_marked l.self (l.steps - l.counter) l.f ≡ way_marked l.initial.self l.steps l.k)
