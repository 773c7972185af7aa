-- The loop's invariant: whether the file pages so far are unmapped or start below the size.
use Rattle.model.proofs.Prelude.{◌+◌, ◌/◌, ◌≡◌}
use Rattle.files.specs.State.{starts_ok}
use Rattle.files.proofs.starts_ok.Given as goal

abbrev pub invariant-loop-d : goal.invariant-loop-d
invariant-loop-d l = l.ok ≡ starts_ok l.table l.size ((l.size + 511) / 512 + l.d-index)
