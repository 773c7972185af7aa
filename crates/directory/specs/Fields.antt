-- Names as they stand in a directory's log.
-- The entry at word w has its name's length in word w + 2 and the name's 32 bytes from word w + 3 on.
use Rattle.std.specs.Prelude.{ℕ, ◌+◌, Bool, List, take}
use Rattle.model.specs.Words.{Mem}
use Rattle.model.specs.Entry.{name_field, field_ok}

-- the name of the entry at word w
unfoldable pub name_at : Mem → ℕ → List ℕ
name_at m w = take (m (w + 2)) (name_field m (w + 3))

-- whether the entry at word w has a name field as it should be
abbrev pub field_at : Mem → ℕ → Bool
field_at m w = field_ok (m (w + 2)) (name_field m (w + 3))
