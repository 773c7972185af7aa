-- The loop's invariant: the pairs that are left, moved up, give all pairs moved up.
use Rattle.model.proofs.Prelude.{◌≤◌}
use Rattle.stores.proofs.Texts.{Moving}
use Rattle.stores.proofs.move_up.Given as goal

abbrev pub invariant-loop-k : goal.invariant-loop-k
invariant-loop-k l = (l.at ≤ l.to) × Moving l.initial.list l.at l.n l.to l.list l.k
