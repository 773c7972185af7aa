-- The loop's invariant: what is left to log gives, logged from here on, what was to log.
use Rattle.model.proofs.Prelude.{◌+◌, ◌*◌, ◌≤◌, ◌<◌}
use Rattle.model.specs.Words.{word}
use Rattle.commit.proofs.Commits.{Logging}
use Rattle.commit.proofs.log_targets.Given as goal

abbrev pub invariant-loop-t : goal.invariant-loop-t
invariant-loop-t l =
    (l.e ≤ l.end + 4 * l.t-index) × (l.q.at < 16)
    × Logging (word l.v) l.initial.list l.changes l.end l.initial.q.at l.list l.e l.q.at l.t-index
