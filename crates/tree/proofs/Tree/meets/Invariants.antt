-- The climb that is left meets what the whole climb meets.
use Rattle.model.proofs.Prelude.{◌-◌, ◌<◌, ◌≡◌}
use Rattle.tree.specs.Way.{meets_in}
use Rattle.tree.proofs.Tree.meets.Given as goal

abbrev pub invariant-loop : goal.invariant-loop
invariant-loop l = (l.f < 256) × (meets_in l.self (l.steps - l.counter) l.f ≡ meets_in l.self l.steps l.k)
