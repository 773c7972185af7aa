-- The loop's invariant: the file's bytes that are left, laid from here on, give all of them, laid from the start on.
use Rattle.model.proofs.Prelude.{◌+◌, ◌-◌, ◌≤◌, ◌≡◌, length}
use Rattle.model.specs.Words.{word}
use Rattle.contents.specs.Laid.{laid, table_byte}
use Rattle.contents.proofs.lay_file.Given as goal

abbrev pub invariant-loop-at : goal.invariant-loop-at
invariant-loop-at l =
    (length l.buffer ≡ length l.initial.buffer) × (l.at ≤ l.count)
    × (laid l.buffer l.at (table_byte (word l.v) l.table) (l.start + l.at) (l.count - l.at)
    ≡ laid l.initial.buffer 0 (table_byte (word l.v) l.table) l.start l.count)

abbrev pub decreases-loop-at : goal.decreases-loop-at
decreases-loop-at l = l.count - l.at
