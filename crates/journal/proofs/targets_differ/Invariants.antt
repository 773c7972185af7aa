-- The loop's invariant: the targets that are left differ if and only if all do, since each passed stands not among those after it.
use Rattle.model.proofs.Prelude.{◌<◌, ◌≡◌}
use Rattle.model.specs.Words.{word}
use Rattle.model.specs.Lists.{distinct}
use Rattle.model.specs.Journal.{open_targets}
use Rattle.journal.specs.Targets.{targets}
use Rattle.journal.proofs.targets_differ.Given as goal

abbrev pub invariant-loop-left : goal.invariant-loop-left
invariant-loop-left l = (l.p.at < 16) × (distinct (targets (word l.v) l.left l.p.at) ≡ distinct (open_targets (word l.v)))
