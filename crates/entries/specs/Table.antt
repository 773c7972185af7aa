-- A table of log entries, eight words each: what the functions that lay entries into it leave.
use Rattle.std.specs.Prelude.{ℕ, zero, suc, ◌+◌, ◌-◌, ◌≤◌, ◌<◌, ◌≡◌, List, [], ◌∷◌, ◌++◌, length, get_or}
use Rattle.model.specs.Lists.{values_from}

-- element j of an array
abbrev pub element : List ℕ → ℕ → ℕ
element l j = get_or l j 0

-- n elements of an array from element k on
abbrev pub part : List ℕ → ℕ → ℕ → List ℕ
part l k n = values_from (element l) k n

-- n entries of eight words each, from element k on
unfoldable pub entries_of : List ℕ → ℕ → ℕ → List (List ℕ)
entries_of l k zero = []
entries_of l k (suc n) = part l k 8 ∷ entries_of l (k + 8) n

-- the table l became m, whose first n entries are es
pub record Holds (l m : List ℕ) (n : ℕ) (es : List (List ℕ)) : Type 0 where
  pub entries : entries_of m 0 n ≡ es
  pub long : length m ≡ length l

-- the table l became m: e was put behind its first n entries
abbrev pub Put : List ℕ → List ℕ → ℕ → List ℕ → Type 0
Put l m n e = Holds l m (n + 1) (entries_of l 0 n ++ (e ∷ []))

-- the data page of file page i, by a table t of the data pages of those from `file` on
abbrev pub data_page : List ℕ → ℕ → ℕ → ℕ
data_page t file i = get_or t (i - file) 0

-- c elements of the table t from element i on are consecutive pages, and no more are
pub record Runs (t : List ℕ) (i c : ℕ) : Type 0 where
  pub some : 1 ≤ c
  pub to : i + c ≤ length t
  pub on : (j : ℕ) → j < c → get_or t (i + j) 0 ≡ get_or t i 0 + j
  pub longest : i + c < length t → get_or t (i + c) 0 ≡ get_or t i 0 + c → ⊥
