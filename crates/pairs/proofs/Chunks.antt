-- A list of words as the library gives its pairs: pair k is words 2 k and 2 k + 1. By induction on the count of pairs.
use Rattle.model.proofs.Prelude.{ℕ, zero, suc, ◌+◌, ◌*◌, ◌/◌, ◌<◌, ◌≡◌, refl, ◌∙◌, List, [], arith, add-zero, length, get_or, take, drop, get_or-take, get_or-drop}
use Rattle.std.specs.Simd.{first_chunks}
use Rattle.std.proofs.lemmas.List.{drop-drop}

chunk : (n k : ℕ) (l : List ℕ) → k < n → get_or (first_chunks 2 n l) k [] ≡ take 2 (drop (2 * k) l)
chunk zero k l h = absurd (omega arith)
chunk (suc n) zero l h = refl
chunk (suc n) (suc k) l h =
    let e : 2 + 2 * k ≡ 2 * suc k = omega arith in
    chunk n k (drop 2 l) (omega arith) ∙ rw (drop-drop, e)

-- ps are the pairs of the list l
module _ (l : List ℕ) (ps : List (List ℕ)) (k : ℕ) (f : ps ≡ first_chunks 2 (length l / 2) l) (h : k < length l / 2) where
  pair_word : (i : ℕ) → i < 2 → get_or (get_or ps k []) i 0 ≡ get_or l (2 * k + i) 0
  pair_word i g = rw (f, chunk (length l / 2) k l h) (get_or-take 2 (drop (2 * k) l) i 0 g ∙ get_or-drop (2 * k) l i 0)

  pub pair_index : get_or (get_or ps k []) 0 0 ≡ get_or l (2 * k) 0
  pair_index = rw add-zero at (pair_word 0 (omega arith))

  pub pair_value : get_or (get_or ps k []) 1 0 ≡ get_or l (2 * k + 1) 0
  pair_value = pair_word 1 (omega arith)
