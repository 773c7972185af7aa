-- The climb that is left comes to what the whole climb comes to.
use Rattle.model.proofs.Prelude.{◌-◌, ◌<◌, ◌≡◌}
use Rattle.tree.specs.Table.{above_in}
use Rattle.tree.proofs.Tree.is_beneath.Given as goal

abbrev pub invariant-loop : goal.invariant-loop
invariant-loop l = (l.g < 256) × (above_in l.self (l.inodes - l.counter) l.f l.g ≡ above_in l.self l.inodes l.f l.k)
