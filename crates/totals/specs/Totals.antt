-- The table of a folder's inodes, one byte each, and what lies beneath a folder of the volume v.
use Rattle.std.specs.Prelude.{ℕ, ◌+◌, ◌≤◌, ◌<◌, ◌≡◌, List, [], ◌∷◌, length, get_or, set}
use Rattle.model.specs.Words.{word}
use Rattle.model.specs.Journal.{view}
use Rattle.model.specs.State.{inodes}
use Rattle.model.specs.Public.{beneath, counts}
use Rattle.names.specs.Listed.{names_in}

-- the table t with the numbers ks from its i-th element on
unfoldable pub laid_from : List ℕ → ℕ → List ℕ → List ℕ
laid_from t i [] = t
laid_from t i (k ∷ ks) = laid_from (set t i k) (i + 1) ks

-- the inodes that the names of folder d lead to
abbrev pub inodes_in : List ℕ → ℕ → List ℕ
inodes_in v d = inodes (names_in v d)

-- the first n elements of the table t are these
pub record InodesOf (v : List ℕ) (d n : ℕ) (t : List ℕ) : Type 0 where
  pub count : n ≡ length (inodes_in v d)
  pub few : n ≤ 224
  pub each : (i : ℕ) → i < n → get_or t i 0 ≡ get_or (inodes_in v d) i 0

-- the bytes beneath folder d, and what a name counts that leads to inode k; n inodes are still unvisited
abbrev pub beneath_in : List ℕ → ℕ → ℕ → ℕ
beneath_in v n d = beneath (view (word v)) (word v 0) (word v 1) n d

abbrev pub counts_in : List ℕ → ℕ → ℕ → ℕ
counts_in v n k = counts (view (word v)) (word v 0) (word v 1) n k
