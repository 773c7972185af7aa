-- The cases of the loops over pairs: in a list of even length the rest from pair k on is that pair and the rest after it.
use Rattle.model.proofs.Prelude.{ℕ, suc, ◌+◌, ◌-◌, ◌*◌, ◌/◌, ◌%◌, ◌≤◌, ◌<◌, ◌≡◌, Bool, true, false, List, [], ◌∷◌, arith, ltb-true, eq-eqb, ne_eqb, eqb, length, get_or, drop, drop_of_length-le, drop-cons}
use Rattle.std.specs.Simd.{first_chunks}
use Rattle.model.specs.Words.{put_word}
use Rattle.model.specs.Stores.{fence, carried}
use Rattle.model.specs.Public.{pairs_ok, ends_in_fence}
use Rattle.model.proofs.Tests.{cond_and}
use Rattle.pairs.specs.Pairs.{pair_ok, pair_stored}
use Rattle.pairs.proofs.Chunks.{pair_index, pair_value}

-- One pair.

module _ (v : List ℕ) (i x : ℕ) where
  pub store_fits : pair_ok (length v / 8) i x ≡ true → (i ≡ fence → ⊥) → 8 * i + 8 ≤ length v
  unfolding pair_ok
  store_fits h n = let l : i < length v / 8 = ltb-true i (length v / 8) (rw (ne_eqb i fence n) at h) in omega arith

  pub fence_stored : i ≡ fence → v ≡ pair_stored v i x
  unfolding pair_stored
  fence_stored e = rw (eq-eqb i fence e)

  pub word_stored : (w : List ℕ) → (i ≡ fence → ⊥) → w ≡ put_word v i x → w ≡ pair_stored v i x
  unfolding pair_stored
  word_stored w n e = rw (ne_eqb i fence n) e

-- The list l, whose n pairs are ps, at its pair k.

module _ (l : List ℕ) (ps : List (List ℕ)) (k : ℕ) (f : ps ≡ first_chunks 2 (length l / 2) l) (m : length ps ≡ length l / 2) where
  abbrev index : ℕ
  index = get_or (get_or ps k []) 0 0

  abbrev value : ℕ
  value = get_or (get_or ps k []) 1 0

  module _ (h : k < length ps) (e : length l % 2 ≡ 0) where
    one_pair : drop (2 * k) l ≡ index ∷ value ∷ drop (2 * (k + 1)) l
    one_pair =
        let a : 2 * k < length l = omega arith in
        let b : 2 * k + 1 < length l = omega arith in
        let i : 2 * (k + 1) ≡ suc (2 * k + 1) = omega arith in
        let o : 2 * k + 1 ≡ suc (2 * k) = omega arith in
        rw (pair_index l ps k f (omega arith), pair_value l ps k f (omega arith), i, drop-cons l (2 * k) 0 a, ← o, drop-cons l (2 * k + 1) 0 b)

    pairs_split : (W : ℕ) → pairs_ok W (drop (2 * k) l) ≡ true → (pair_ok W index value ≡ true) × (pairs_ok W (drop (2 * (k + 1)) l) ≡ true)
    unfolding pairs_ok pair_ok
    pairs_split W a = cond_and (pair_ok W index value) (pairs_ok W (drop (2 * (k + 1)) l)) (rw one_pair at a)

    -- r is what `pair_ok` answered
    module _ (W : ℕ) (z r : Bool) (a : pairs_ok W (drop (2 * k) l) ≡ z) (g : r ≡ pair_ok W index value) where
      pub pairs_next : r ≡ true → pairs_ok W (drop (2 * (k + 1)) l) ≡ z
      unfolding pairs_ok pair_ok
      pairs_next y = rw (one_pair, ← g, y) at a

      pub pairs_not : r ≡ false → false ≡ z
      unfolding pairs_ok pair_ok
      pairs_not y = rw (one_pair, ← g, y) at a

    -- v₀ and v are the bytes before the loop and before this turn
    module _ (v₀ v : List ℕ) where
      pub pair_here : pairs_ok (length v₀ / 8) (drop (2 * k) l) ≡ true → length v ≡ length v₀ → pair_ok (length v / 8) index value ≡ true
      pair_here a s = rw s (pairs_split (length v₀ / 8) a).0

      pub pairs_left : pairs_ok (length v₀ / 8) (drop (2 * k) l) ≡ true → pairs_ok (length v₀ / 8) (drop (2 * (k + 1)) l) ≡ true
      pairs_left a = (pairs_split (length v₀ / 8) a).1

      pub carried_next : (w z : List ℕ) → carried v (drop (2 * k) l) ≡ z → w ≡ pair_stored v index value → carried w (drop (2 * (k + 1)) l) ≡ z
      unfolding carried pair_stored
      carried_next w z a s = rw s (rw one_pair at a)

  module _ (h : length ps ≤ k) (e : length l % 2 ≡ 0) where
    none_left : drop (2 * k) l ≡ []
    none_left = drop_of_length-le l (omega arith)

    pub pairs_end : (W : ℕ) (z : Bool) → pairs_ok W (drop (2 * k) l) ≡ z → true ≡ z
    unfolding pairs_ok
    pairs_end W z a = rw none_left at a

    pub carried_end : (v z : List ℕ) → carried v (drop (2 * k) l) ≡ z → v ≡ z
    unfolding carried
    carried_end v z a = rw none_left at a

-- The end of a list.

module _ (l : List ℕ) where
  pub empty_ends : length l ≡ 0 → eqb (length l) 0 ≡ ends_in_fence l
  unfolding ends_in_fence
  empty_ends e = rw (eq-eqb (length l) 0 e)

  pub last_ends : (length l ≡ 0 → ⊥) → eqb (get_or l (length l - 2) 0) fence ≡ ends_in_fence l
  unfolding ends_in_fence
  last_ends n = rw (ne_eqb (length l) 0 n)
