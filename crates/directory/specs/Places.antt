-- Names as they stand in a table of places. A place is the first word of a name's add entry divided by 8, so that it fits 16 bits.
-- A table has 224 places: as many as the names that a directory may have.
use Rattle.std.specs.Prelude.{ℕ, ◌+◌, ◌*◌, ◌≤◌, ◌≡◌, Bool, true, ◌&&◌, List, map, leb, take, get_or, length}
use Rattle.model.specs.Lists.{all, values_from}
use Rattle.model.specs.Words.{Mem}
use Rattle.model.specs.State.{Names}
use Rattle.directory.specs.Fields.{field_at, name_at}

-- n places of the table t from its i-th on
unfoldable pub places_from : List ℕ → ℕ → ℕ → List ℕ
places_from t i n = values_from (λ j. get_or t j 0) i n

-- the names, with their inodes, of the entries at these places
unfoldable pub standing : Mem → List ℕ → Names
standing m ps = map (λ (p : ℕ). (name_at m (8 * p), m (8 * p + 1))) ps

-- whether the entry at place p lies in L bytes and has a name field as it should be
abbrev pub place_ok : Mem → ℕ → ℕ → Bool
place_ok m L p = leb (64 * p + 64) L && field_at m (8 * p)

-- a table t whose first n places are those of names in L bytes
pub record Filled (m : Mem) (L n : ℕ) (t : List ℕ) : Type 0 where
  pub few : n ≤ 224
  pub long : length t ≡ 224
  pub oks : all (place_ok m L) (take n t) ≡ true
