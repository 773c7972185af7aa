-- The loop's invariant: what is left to put gives, put from here on, what was to put.
use Rattle.model.proofs.Prelude.{◌+◌, ◌*◌, ◌≤◌}
use Rattle.commit.proofs.Commits.{Putting}
use Rattle.commit.proofs.put_targets.Given as goal

abbrev pub invariant-loop-t : goal.invariant-loop-t
invariant-loop-t l = (l.at ≤ l.e) × (l.e ≤ l.at + 2 * l.t-index) × Putting l.initial.list l.changes l.at l.list l.e l.t-index
