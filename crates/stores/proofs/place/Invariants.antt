-- The loop's invariant: the place among the pairs that are left is the place among all.
use Rattle.model.proofs.Prelude.{◌≡◌}
use Rattle.stores.specs.Added.{place_of}
use Rattle.stores.proofs.place.Given as goal

abbrev pub invariant-loop-k : goal.invariant-loop-k
invariant-loop-k l = place_of l.list l.from l.k l.i ≡ place_of l.list l.from l.n l.i
