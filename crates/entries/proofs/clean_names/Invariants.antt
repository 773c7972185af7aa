-- The loop's invariant: the entries put, then those of the names from the i-th on, are those of all names.
use Rattle.model.proofs.Prelude.{◌-◌, ◌≤◌, take, slice}
use Rattle.model.specs.Words.{word}
use Rattle.model.specs.Calls.{clean_names}
use Rattle.directory.specs.Places.{standing}
use Rattle.entries.proofs.Entries.{Filling}
use Rattle.entries.proofs.clean_names.Given as goal

abbrev pub invariant-loop-i : goal.invariant-loop-i
invariant-loop-i l =
    (l.i ≤ l.count)
    × Filling l.initial.words l.words l.i (clean_names (standing (word l.v) (slice l.i l.count l.places)))
    (clean_names (standing (word l.v) (take l.count l.places)))

abbrev pub decreases-loop-i : goal.decreases-loop-i
decreases-loop-i l = l.count - l.i
