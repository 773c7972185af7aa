-- Values laid into a list, and the bytes of a file whose data pages stand in a table.
use Rattle.std.specs.Prelude.{ℕ, zero, suc, ◌+◌, ◌*◌, ◌/◌, ◌%◌, ◌≤◌, ◌<◌, cond, List, get_or, set, eqb}
use Rattle.model.specs.Words.{Mem, byte_at}

-- the list l with n values laid from index i on: f x, f (x + 1), ..
unfoldable pub laid : List ℕ → ℕ → (ℕ → ℕ) → ℕ → ℕ → List ℕ
laid l i f x zero = l
laid l i f x (suc n) = laid (set l i (f x)) (i + 1) f (x + 1) n

-- Byte y of data page d. 0 stands for no data page: "An unmapped page reads as zeros."
unfoldable pub page_byte : Mem → ℕ → ℕ → ℕ
page_byte m d y = cond (eqb d 0) 0 (byte_at m (512 * d + y))

-- byte x of a file, from the table of its data pages
unfoldable pub table_byte : Mem → List ℕ → ℕ → ℕ
table_byte m t x = page_byte m (get_or t (x / 512) 0) (x % 512)

-- each data page of a table lies within n bytes
pub record Within (n : ℕ) (t : List ℕ) : Type 0 where
  pub page : (i : ℕ) → i < 128 → 512 * get_or t i 0 + 512 ≤ n
