-- The invariant: the look-up from the slot reached ends where the whole look-up does.
use Rattle.model.proofs.Prelude.{◌<◌, ◌≡◌, ◌-◌, length}
use Rattle.model.specs.Words.{word}
use Rattle.index.specs.Index.{ends_at, seek, slot_of}
use Rattle.index.proofs.slot_of.Given as goal

abbrev pub invariant-loop : goal.invariant-loop
invariant-loop l =
    (l.s < length l.index)
    × (seek (ends_at (word l.v) l.index l.name) (length l.index) (l.slots - l.counter) l.s ≡ slot_of (word l.v) l.index l.name)
