-- What a function that puts words into a lent list leaves in it.
use Rattle.std.specs.Prelude.{ℕ, ◌+◌, ◌≡◌, List, length}
use Rattle.std.proofs.lemmas.List.Edits.{sets}

-- The words xs were put into the list l from index `at` on: r is the index behind them, and m the list afterwards. Where xs
-- has room in l, m is l up to `at`, then xs, then l from r on (proofs/Emitting.antt, `emitted_parts`).
pub record Emitted (l : List ℕ) (at : ℕ) (xs : List ℕ) (r : ℕ) (m : List ℕ) : Type 0 where
  pub end : r ≡ at + length xs
  pub list : m ≡ sets l at xs
