-- The end of a file: file pages are asked one after the other from the first that starts behind the size; and a word is 0 exactly if its
-- eight bytes are, so that bytes are asked by words.
use Rattle.model.proofs.Prelude.{ℕ, zero, suc, ◌+◌, ◌*◌, ◌-◌, ◌/◌, ◌%◌, ◌≤◌, ◌<◌, ◌≡◌, refl, sym, ◌∙◌, Bool, true, false, not, ◌&&◌, cond, or-true, List, arith, add-zero, zero-div, get_or, length, take, drop, get_or-take, get_or-drop, length-take-le, length-drop, eqb, eq-eqb, ne_eqb, eqb-true, le-ltb, lt-ltb}
use Rattle.model.specs.Words.{Mem, word, byte_at}
use Rattle.model.specs.Lists.{all_below}
use Rattle.model.specs.State.{file_byte}
use Rattle.model.specs.Accept.{end_ok}
use Rattle.model.proofs.Tests.{by_bool, by_eq, same_test}
use Rattle.model.proofs.Lists.{all_below_at, all_below_by, all_below_same}
use Rattle.model.proofs.Words.{le_from_same, byte_word}
use Rattle.std.proofs.lemmas.List.{length-take}
use Rattle.std.specs.Bool.{MatchBool}
use Rattle.std.specs.List.{AllWithin, HoldsAt}
use Rattle.words.proofs.Cond.{asked_true, asked_false}
use Rattle.files.specs.State.{file_from, starts_ok, zeros_at}

-- b says whether the elements so far are unmapped, where they are to be, and d is the next one
pub unmapped_too : (b : Bool) (d : ℕ) → d ≡ 0 → b ≡ b && eqb d 0
unmapped_too b d z = by_bool b (λ h. rw (h, eq-eqb d 0 z)) (λ h. rw h)

pub mapped_here : (b : Bool) (d : ℕ) → (d ≡ 0 → ⊥) → false ≡ b && eqb d 0
mapped_here b d z = by_bool b (λ h. rw (h, ne_eqb d 0 z)) (λ h. rw h)

-- an element of the slice from b on
part_at : (l : List ℕ) (b k i : ℕ) → i < length (take k (drop b l)) → get_or (take k (drop b l)) i 0 ≡ get_or l (b + i) 0
part_at l b k i h = get_or-take k (drop b l) i 0 (omega (arith, length-take k (drop b l))) ∙ get_or-drop b l i 0

-- The elements from w on are read, where w is the count of file pages that start below the size s.
module _ (t : List ℕ) (s w : ℕ) (q : w ≡ (s + 511) / 512) where
  pub start_first : true ≡ starts_ok t s w
  unfolding starts_ok
  start_first = sym (all_below_by w _ (λ i h. rw (lt-ltb (512 * i) s (omega arith), or-true)))

  -- b is whether the first i of the slice from element w on are good too
  pub start_next : (n i : ℕ) (b : Bool) → i < length (take n (drop w t)) → b ≡ starts_ok t s ((s + 511) / 512 + i)
      → b && eqb (get_or (take n (drop w t)) i 0) 0 ≡ starts_ok t s ((s + 511) / 512 + (i + 1))
  unfolding starts_ok all_below
  start_next n i b l h =
      let j = (s + 511) / 512 + i in
      let p : (s + 511) / 512 + (i + 1) ≡ suc j = omega arith in
      let f : w + i ≡ j = omega arith in
      by_eq (get_or t j 0) 0
      (λ z. rw (p, part_at t w n i l, f, eq-eqb (get_or t j 0) 0 z) (by_bool b (λ y. rw y (sym y ∙ h)) (λ y. rw y (sym y ∙ h))))
      (λ z. rw (p, part_at t w n i l, f, ne_eqb (get_or t j 0) 0 z, le-ltb (512 * j) s (omega arith)) (by_bool b (λ y. rw y) (λ y. rw y)))

pub start_end : (t : List ℕ) (s i : ℕ) (r : Bool) → r ≡ starts_ok t s i → i ≡ 128 → r ≡ starts_ok t s 128
start_end t s i r a h = rw h at a

pub zero_none : (f : ℕ → ℕ) (b : ℕ) → zeros_at f b 0 ≡ true
unfolding zeros_at all_below
zero_none f b = refl

-- Whether n numbers from b on are 0, asked one after the other: x is the number behind the first i.
module _ (f : ℕ → ℕ) (b i x : ℕ) (e : x ≡ f (b + i)) where
  pub zero_more : x ≡ 0 → zeros_at f b i ≡ true → zeros_at f b (i + 1) ≡ true
  unfolding zeros_at all_below
  zero_more z h = let p : i + 1 ≡ suc i = omega arith in rw (p, ← e, eq-eqb x 0 z) h

  pub zero_not : (n : ℕ) → i < n → (x ≡ 0 → ⊥) → false ≡ zeros_at f b n
  unfolding zeros_at
  zero_not n l z =
      by_bool (all_below n (λ j. eqb (f (b + j)) 0))
      (λ y. absurd (z (e ∙ eqb-true (f (b + i)) 0 (all_below_at n i (λ j. eqb (f (b + j)) 0) y l))))
      (λ y. sym y)

pub zero_end : (f : ℕ → ℕ) (b i n : ℕ) → zeros_at f b i ≡ true → i ≤ n → n ≤ i → true ≡ zeros_at f b n
zero_end f b i n h l k = let p : i ≡ n = omega arith in sym (rw p at h)

-- The bytes of a volume v by its words.

-- n numbers behind k others
zeros_split : (f : ℕ → ℕ) (b k n : ℕ) → zeros_at f b (k + n) ≡ cond (zeros_at f (b + k) n) (zeros_at f b k) false
unfolding zeros_at all_below
zeros_split f b k zero = rw add-zero
zeros_split f b k (suc n) =
    let s : k + suc n ≡ suc (k + n) = omega arith in
    let p : b + k + n ≡ b + (k + n) = omega arith in
    by_bool (eqb (f (b + (k + n))) 0) (λ e. rw (s, p, e) (zeros_split f b k n)) (λ e. rw (s, p, e))

module _ (v : List ℕ) (small : (i : ℕ) → get_or v i 0 < 256) where
  long : (b n k : ℕ) → b + n ≤ length v → k ≡ n → length (take k (drop b v)) ≡ k
  long b n k l e = length-take-le k (drop b v) (rw length-drop (omega arith))

  -- the bytes asked as the elements of a list, which is the slice from b on
  pub zeros_in : (b n k : ℕ) (r : Bool) → b + n ≤ length v → k ≡ n
      → MatchBool r (AllWithin (λ x. x ≡ 0) (take k (drop b v)) 0 (length (take k (drop b v))))
      ((i : ℕ) × (i < length (take k (drop b v))) × HoldsAt (λ x. x ≡ 0 → ⊥) (take k (drop b v)) i)
      → r ≡ zeros_at (byte_at (word v)) b n
  unfolding zeros_at
  zeros_in b n k true l e h =
      sym (all_below_by n _ (λ j g.
      let r : j < length (take k (drop b v)) = rw (long b n k l e) (omega arith) in
      eq-eqb (byte_at (word v) (b + j)) 0 (byte_word v (b + j) small ∙ sym (part_at v b k j r) ∙ h j 0 (omega arith) r)))
  zeros_in b n k false l e (i, g, d) =
      zero_not (byte_at (word v)) b i (byte_at (word v) (b + i)) refl n (rw (long b n k l e, e) at g)
      (λ z. d 0 (part_at v b k i g ∙ sym (byte_word v (b + i) small) ∙ z))

  -- a word is 0 exactly if its eight bytes are
  zero_word : (w : ℕ) → zeros_at (byte_at (word v)) (8 * w) 8 ≡ eqb (word v w) 0
  unfolding zeros_at byte_at word
  zero_word w = same_test _ _ to_word of_word
    where
      to_word : zeros_at (byte_at (word v)) (8 * w) 8 ≡ true → eqb (word v w) 0 ≡ true
      to_word h =
          eq-eqb (word v w) 0
          (le_from_same 8 (λ i. get_or v i 0) (λ i. 0) (8 * w)
          (λ k g l.
          let j = k - 8 * w in
          let e : k ≡ 8 * w + j = omega arith in
          rw e (sym (byte_word v (8 * w + j) small) ∙ eqb-true _ 0 (all_below_at 8 j (λ i. eqb (byte_at (word v) (8 * w + i)) 0) h (omega arith)))))

      of_word : eqb (word v w) 0 ≡ true → zeros_at (byte_at (word v)) (8 * w) 8 ≡ true
      of_word h =
          all_below_by 8 (λ j. eqb (byte_at (word v) (8 * w + j)) 0)
          (λ j l. let q : (8 * w + j) / 8 ≡ w = omega arith in eq-eqb (byte_at (word v) (8 * w + j)) 0 (rw (q, eqb-true (word v w) 0 h, zero-div)))

  words_bytes : (w n : ℕ) → zeros_at (byte_at (word v)) (8 * w) (8 * n) ≡ zeros_at (word v) w n
  unfolding zeros_at all_below
  words_bytes w zero = refl
  words_bytes w (suc n) =
      let s : 8 * suc n ≡ 8 * n + 8 = omega arith in
      let p : 8 * w + 8 * n ≡ 8 * (w + n) = omega arith in
      rw (s, zeros_split (byte_at (word v)) (8 * w) (8 * n) 8, p, zero_word (w + n), words_bytes w n)

  -- k bytes from b on, and n words from w on behind them
  bytes_then_words : (b k w n : ℕ) → b + k ≡ 8 * w
      → zeros_at (byte_at (word v)) b (k + 8 * n) ≡ cond (zeros_at (word v) w n) (zeros_at (byte_at (word v)) b k) false
  bytes_then_words b k w n e = zeros_split (byte_at (word v)) b k (8 * n) ∙ rw (e, words_bytes w n)

  -- c bytes from b on that end where a word ends: f is what the code was told of the words, and r of the bytes before them
  module _ (b c : ℕ) (e : (b + c) % 8 ≡ 0) (f : Bool) (g : f ≡ zeros_at (word v) ((b + c % 8) / 8) (c / 8)) where
    parts : zeros_at (byte_at (word v)) b c ≡ cond (zeros_at (word v) ((b + c % 8) / 8) (c / 8)) (zeros_at (byte_at (word v)) b (c % 8)) false
    parts =
        let s : c % 8 + 8 * (c / 8) ≡ c = omega arith in
        rw s at (bytes_then_words b (c % 8) ((b + c % 8) / 8) (c / 8) (omega arith))

    pub words_not : f ≡ false → f ≡ zeros_at (byte_at (word v)) b c
    words_not n = rw (parts, ← g, n)

    pub words_then : (r : Bool) → f ≡ true → r ≡ zeros_at (byte_at (word v)) b (c % 8) → r ≡ zeros_at (byte_at (word v)) b c
    words_then r n k = rw (parts, ← g, n) k

module _ (m : Mem) (t : List ℕ) (s : ℕ) (f : Bool) (e : f ≡ starts_ok t s 128) where
  pub end_starts : not f ≡ true → false ≡ end_ok m (file_from s t)
  unfolding end_ok starts_ok
  end_starts n = rw (end_ok, asked_false (starts_ok t s 128) f e n)

  module _ (n : not f ≡ false) where
    pub end_round : s % 512 ≡ 0 → true ≡ end_ok m (file_from s t)
    unfolding end_ok starts_ok
    end_round o = rw (end_ok, asked_true (starts_ok t s 128) f e n, eq-eqb (s % 512) 0 o)

    module _ (d : ℕ) (o : s % 512 ≡ 0 → ⊥) (g : d ≡ get_or t (s / 512) 0) where
      pub end_unmapped : d ≡ 0 → true ≡ end_ok m (file_from s t)
      unfolding end_ok starts_ok
      end_unmapped h = rw (end_ok, asked_true (starts_ok t s 128) f e n, ne_eqb (s % 512) 0 o, eq-eqb (get_or t (s / 512) 0) 0 (sym g ∙ h))

      pub end_zeros : (r : Bool) → (d ≡ 0 → ⊥) → r ≡ zeros_at (byte_at m) (512 * d + s % 512) (512 - s % 512) → r ≡ end_ok m (file_from s t)
      unfolding end_ok starts_ok zeros_at file_byte
      end_zeros r h k =
          let w : eqb (get_or t (s / 512) 0) 0 ≡ false = ne_eqb (get_or t (s / 512) 0) 0 (λ y. h (g ∙ y)) in
          let p : (j : ℕ) → j < 512 - s % 512 → eqb (byte_at m (512 * d + s % 512 + j)) 0 ≡ eqb (file_byte m (file_from s t) (s + j)) 0 =
          λ j l.
          let q : (s + j) / 512 ≡ s / 512 = omega arith in
          let x : (s + j) % 512 ≡ s % 512 + j = omega arith in
          let y : 512 * d + s % 512 + j ≡ 512 * get_or t (s / 512) 0 + (s % 512 + j) = omega arith in
          rw (file_byte, q, w, x, y) in
          k ∙ rw (end_ok, asked_true (starts_ok t s 128) f e n, ne_eqb (s % 512) 0 o, w) (all_below_same (512 - s % 512) _ _ p)
