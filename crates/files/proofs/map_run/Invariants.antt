-- The loop's invariant: what is left to map, mapped from i pages behind the first, gives the table with the whole run mapped.
use Rattle.model.proofs.Prelude.{◌+◌, ◌-◌, ◌≡◌}
use Rattle.files.specs.State.{filled}
use Rattle.files.proofs.map_run.Given as goal

abbrev pub invariant-loop-i : goal.invariant-loop-i
invariant-loop-i l =
    filled (λ j. l.page + (j - l.file)) l.table (l.file + l.i) (l.count - l.i)
    ≡ filled (λ j. l.page + (j - l.file)) l.initial.table l.file l.count
