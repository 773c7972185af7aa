-- What a set size that cuts a page keeps of it. t is the table of the file's data pages, s the file's size and z the new one.
use Rattle.std.specs.Prelude.{ℕ, ◌*◌, ◌/◌, ◌%◌, ◌<◌, ◌≡◌, Bool, not, ◌&&◌, List, ltb, eqb, length, get_or}
use Rattle.model.specs.Lists.{bit}
use Rattle.model.specs.Words.{Mem}
use Rattle.fresh.specs.Fresh.{zero_from, fresh_word}

-- whether z lies below s and inside a mapped page, not at its start
abbrev pub cuts : List ℕ → ℕ → ℕ → Bool
cuts t s z = ltb z s && not (eqb (z % 512) 0) && not (eqb (get_or t (z / 512) 0) 0)

-- n words were laid, and ds is the array afterwards
pub record Kept (m : Mem) (t : List ℕ) (s z n : ℕ) (ds : List ℕ) : Type 0 where
  pub count : n ≡ 64 * bit (cuts t s z)
  pub long : length ds ≡ 64
  pub words : (j : ℕ) → j < n → get_or ds j 0 ≡ fresh_word (zero_from m t z) z j
