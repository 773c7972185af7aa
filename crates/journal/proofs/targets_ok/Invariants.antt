-- The loop's invariant: the targets that are left are all good if and only if all are.
use Rattle.model.proofs.Prelude.{◌-◌, ◌<◌, ◌≡◌}
use Rattle.model.specs.Words.{word}
use Rattle.model.specs.Lists.{all}
use Rattle.model.specs.Journal.{open_targets, target_ok}
use Rattle.journal.specs.Targets.{targets}
use Rattle.journal.proofs.targets_ok.Given as goal

abbrev pub invariant-loop : goal.invariant-loop
invariant-loop l =
    (l.p.at < 16)
    × (all (target_ok l.inodes) (targets (word l.v) (l.end - l.counter) l.p.at) ≡ all (target_ok l.inodes) (open_targets (word l.v)))
