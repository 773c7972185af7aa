-- A table filled from an index on: the turns of a loop, and what each element is, by induction on the count of values; and a list of which a
-- part was written over, by its elements.
use Rattle.model.proofs.Prelude.{ℕ, zero, suc, ◌+◌, ◌-◌, ◌≤◌, ◌≡◌, refl, sym, ◌∙◌, ap, cond, List, ◌++◌, arith, length, length-append, take, drop, length-take-le, length-drop, replicate, length-replicate, get_or-replicate, get_or, set, length-set, get_or-set_same, get_or-set_other, get_or-take, get_or-drop, ext_get_or}
use Rattle.std.proofs.lemmas.List.{get_or_append_left, get_or-append_right}
use Rattle.model.proofs.Tests.{within, inside, outside, by_eq, by_lt, by_range}
use Rattle.files.specs.State.{filled}

module _ (g : ℕ → ℕ) where
  pub fill_turn : (n k : ℕ) (t u z : List ℕ) (i j x : ℕ) → filled g t i n ≡ z → k + 1 ≡ n → j ≡ i + 1 → u ≡ set t i x → x ≡ g i
      → filled g u j k ≡ z
  unfolding filled
  fill_turn zero k t u z i j x e h l m d = absurd (omega arith)
  fill_turn (suc n) k t u z i j x e h l m d = let q : k ≡ n = omega arith in rw (q, l, m, d) e

  pub fill_end : (n : ℕ) (t z : List ℕ) (i : ℕ) → filled g t i n ≡ z → n ≤ 0 → t ≡ z
  unfolding filled
  fill_end zero t z i e h = e
  fill_end (suc n) t z i e h = absurd (omega arith)

  pub length_filled : (n : ℕ) (t : List ℕ) (i : ℕ) → length (filled g t i n) ≡ length t
  unfolding filled
  length_filled zero t i = refl
  length_filled (suc n) t i = length_filled n (set t i (g i)) (i + 1) ∙ length-set t i (g i)

  pub filled_at : (n : ℕ) (t : List ℕ) (i j : ℕ) → i + n ≤ length t → get_or (filled g t i n) j 0 ≡ cond (within i (i + n) j) (g j) (get_or t j 0)
  unfolding filled
  filled_at zero t i j l = rw (outside i (i + 0) j (λ p q. omega arith))
  filled_at (suc n) t i j l =
      let u = set t i (g i) in
      let r = filled_at n u (i + 1) j (rw length-set (omega arith)) in
      by_eq j i
      (λ e.
      let s = get_or-set_same t i (g i) 0 (omega arith) in
      r ∙ rw (e, outside (i + 1) (i + 1 + n) i (λ p q. omega arith), inside i (i + suc n) i (omega arith) (omega arith), s))
      (λ e. by_range i (i + suc n) j
      (λ y p q. r ∙ rw (y, inside (i + 1) (i + 1 + n) j (omega arith) (omega arith)))
      (λ y d. r ∙ rw (y, outside (i + 1) (i + 1 + n) j (λ p q. d (omega arith) (omega arith)), get_or-set_other t i j (g i) 0 e)))

-- the elements of the list xs in which ys were written over those from a on; zs are those behind
module _ (xs ys zs : List ℕ) (a n : ℕ) (long : length ys ≡ n) (room : a + n ≤ length xs) (behind : zs ≡ drop n (drop a xs)) where
  front : length (take a xs) ≡ a
  front = length-take-le a xs (omega arith)

  pub over_at : (j : ℕ) → get_or (take a xs ++ (ys ++ zs)) j 0 ≡ cond (within a (a + n) j) (get_or ys (j - a) 0) (get_or xs j 0)
  over_at j =
      by_lt j a
      (λ l. get_or_append_left (take a xs) (ys ++ zs) 0 j (rw front l) ∙ get_or-take a xs j 0 l ∙ sym (rw (outside a (a + n) j (λ p q. omega arith))))
      (λ l. get_or-append_right (take a xs) (ys ++ zs) a j 0 front l ∙ by_lt (j - a) n
      (λ h. get_or_append_left ys zs 0 (j - a) (rw long h) ∙ sym (rw (inside a (a + n) j l (omega arith))))
      (λ h.
      let e : a + (n + (j - a - n)) ≡ j = omega arith in
      get_or-append_right ys zs n (j - a) 0 long h
      ∙ rw (behind, get_or-drop n (drop a xs), get_or-drop a xs, e, outside a (a + n) j (λ p q. omega arith))))

  pub length_over : length (take a xs ++ (ys ++ zs)) ≡ length xs
  length_over = simp (length-append) (rw (front, behind, long, length-drop, length-drop) (omega arith))

-- n zeros written over the elements from a on
pub zeros_over : (xs ys zs : List ℕ) (a n : ℕ) → ys ≡ replicate n 0 → a + n ≤ length xs → zs ≡ drop n (drop a xs)
    → take a xs ++ (ys ++ zs) ≡ filled (λ i. 0) xs a n
zeros_over xs ys zs a n e room behind =
    let long : length ys ≡ n = ap length e ∙ length-replicate {A = ℕ} n 0 in
    ext_get_or 0 _ _ (length_over xs ys zs a n long room behind ∙ sym (length_filled (λ i. 0) n xs a))
    (λ j l.
    over_at xs ys zs a n long room behind j
    ∙ by_range a (a + n) j
    (λ w p q. rw (w, e, get_or-replicate {A = ℕ} n (j - a) 0 0 (omega arith)) (sym (filled_at (λ i. 0) n xs a j room ∙ rw w)))
    (λ w h. rw w (sym (filled_at (λ i. 0) n xs a j room ∙ rw w))))
