-- The inodes that the names of a table lead to, and valid inodes and folders.
use Rattle.std.specs.Prelude.{ℕ, ◌+◌, ◌*◌, ◌≤◌, ◌<◌, ◌≡◌, Bool, true, ◌&&◌, List, map, ltb}
use Rattle.model.specs.Words.{Mem}
use Rattle.model.specs.Journal.{dequeue_word, enqueue_word, journal_ok}
use Rattle.model.specs.Accept.{is_valid, is_folder}
use Rattle.directory.specs.Places.{places_from}

-- What reading the words of N inodes asks for: m are the volume's words, L its length in bytes.
pub record Readable (m : Mem) (L N : ℕ) : Type 0 where
  pub journal : journal_ok m N ≡ true
  pub dequeue : m dequeue_word < 16
  pub enqueue : m enqueue_word < 16
  pub bytes : 512 + 64 * N ≤ L
  pub inodes : N ≤ 256

-- whether k is one of N inodes
unfoldable pub below : ℕ → ℕ → Bool
below N k = ltb k N

-- whether k is one of N inodes, and valid in the view u; and a folder too
unfoldable pub valid_in : Mem → ℕ → ℕ → Bool
valid_in u N k = below N k && is_valid u k

unfoldable pub folder_in : Mem → ℕ → ℕ → Bool
folder_in u N k = ltb k N && is_folder u k

-- the inodes that the names at n places of the table t lead to, from its i-th place on
unfoldable pub inodes_from : Mem → List ℕ → ℕ → ℕ → List ℕ
inodes_from m t i n = map (λ (p : ℕ). m (8 * p + 1)) (places_from t i n)
