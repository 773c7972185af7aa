-- The loop's invariant: t stands among the targets that are left if and only if it stands among all.
use Rattle.model.proofs.Prelude.{◌-◌, ◌<◌, ◌≡◌}
use Rattle.model.specs.Words.{word}
use Rattle.model.specs.Lists.{has}
use Rattle.journal.specs.Targets.{targets}
use Rattle.journal.proofs.has_target.Given as goal

abbrev pub invariant-loop : goal.invariant-loop
invariant-loop l =
    (l.p.at < 16) × (has l.t (targets (word l.v) (l.count - l.counter) l.p.at) ≡ has l.t (targets (word l.v) l.count l.initial.p.at))
