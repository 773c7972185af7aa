-- The bytes and words of fresh data pages. m is the volume's memory, and t the table of the file's data pages.
use Rattle.std.specs.Prelude.{ℕ, ◌+◌, ◌-◌, ◌*◌, ◌/◌, cond, ◌&&◌, List, leb, ltb, length, get_or}
use Rattle.model.specs.Words.{Mem, le_from}
use Rattle.contents.specs.Laid.{table_byte}

-- byte x of the file after the bytes bs are written from offset o on
unfoldable pub written_over : Mem → List ℕ → ℕ → List ℕ → ℕ → ℕ
written_over m t o bs x = cond (leb o x && ltb x (o + length bs)) (get_or bs (x - o) 0) (table_byte m t x)

-- byte x of the file, zero from byte s on
unfoldable pub zero_from : Mem → List ℕ → ℕ → ℕ → ℕ
zero_from m t s x = cond (ltb x s) (table_byte m t x) 0

-- word j of pages whose bytes are f, from the page that holds byte o on
abbrev pub fresh_word : (ℕ → ℕ) → ℕ → ℕ → ℕ
fresh_word f o j = le_from f (512 * (o / 512) + 8 * j) 8
