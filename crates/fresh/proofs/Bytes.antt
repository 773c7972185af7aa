-- A word of a buffer is made of eight of its bytes; so where the buffer has the bytes of the pages, its words are theirs.
use Rattle.model.proofs.Prelude.{ℕ, ◌+◌, ◌-◌, ◌*◌, ◌/◌, ◌%◌, ◌≤◌, ◌<◌, ◌≡◌, ◌∙◌, sym, ap, List, ◌++◌, arith, add_assoc, zero-add, length, take, drop, ext_get_or, get_or, replicate, get_or-replicate, length-replicate, lt-ltb, le-ltb}
use Rattle.model.specs.Words.{Mem, word}
use Rattle.model.specs.Calls.{pages_covered}
use Rattle.model.proofs.Tests.{by_lt, by_range, inside, outside}
use Rattle.model.specs.Lists.{values_from}
use Rattle.model.proofs.Lists.{length_values, values_at}
use Rattle.model.proofs.Words.{le_from_same}
use Rattle.contents.specs.Laid.{laid, table_byte}
use Rattle.contents.proofs.Laying.{laid_same, laid_length, laid_beside, laid_at, laid_front, laid_part}
use Rattle.fresh.specs.Fresh.{written_over, zero_from, fresh_word}

-- c pages from the page of byte o on, whose bytes are f and stand in the buffer b
words_laid : (f : ℕ → ℕ) (b a : List ℕ) (o c : ℕ) → ((i : ℕ) → i < 512 * c → get_or b i 0 ≡ f (512 * (o / 512) + i))
    → laid a 0 (word b) 0 (64 * c) ≡ laid a 0 (fresh_word f o) 0 (64 * c)
unfolding word
words_laid f b a o c h = laid_same (word b) (fresh_word f o) (64 * c) a 0 0 0 same
  where
    same : (j : ℕ) → j < 64 * c → word b (0 + j) ≡ fresh_word f o (0 + j)
    same j l =
        rw (zero-add j)
        (le_from_same 8 (λ i. get_or b i 0) (λ i. f (512 * (o / 512) + i)) (8 * j) (λ k p q. h k (omega arith)) ∙ simp add_assoc)

-- `lay_over`: a slice copied into a part of the list l, from index i on
pub over_laid : (v p l : List ℕ) (i k : ℕ) → p ≡ v → k ≡ length v → i + length v ≤ length l
    → take i l ++ (p ++ drop k (drop i l)) ≡ laid l i (λ j. get_or v j 0) 0 (length v)
over_laid v p l i k a e room =
    rw (a, e, laid_part (λ j. get_or v j 0) (length v) l i 0 room)
    (ap (λ (r : List ℕ). take i l ++ (r ++ drop (length v) (drop i l))) (own v))
  where
    own : (v : List ℕ) → v ≡ values_from (λ j. get_or v j 0) 0 (length v)
    own v =
        ext_get_or 0 _ _ (sym (length_values (λ j. get_or v j 0) 0 (length v)))
        (λ j l. sym (values_at (λ j. get_or v j 0) 0 (length v) j l ∙ rw (zero-add j)))

-- `lay_write`: b is the buffer with the file's bytes, d the same with the bytes written, c the count of pages.
module _ (m : Mem) (t bs b d : List ℕ) (o c : ℕ) (e : b ≡ laid (replicate 4608 0) 0 (table_byte m t) (512 * (o / 512)) (512 * c))
    (g : d ≡ laid b (o % 512) (λ j. get_or bs j 0) 0 (length bs)) (h : c ≡ pages_covered o (o + length bs)) (some : 0 < length bs)
    (few : length bs ≤ 4096) where
  buffer_long : length b ≡ 4608
  buffer_long = ap length e ∙ laid_length (table_byte m t) (512 * c) (replicate 4608 0) 0 (512 * (o / 512)) ∙ length-replicate {A = ℕ} 4608 0

  written_byte_lem : (i : ℕ) → i < 512 * c → get_or d i 0 ≡ written_over m t o bs (512 * (o / 512) + i)
  unfolding written_over
  written_byte_lem i l =
      by_range (o % 512) (o % 512 + length bs) i
      (λ w p q.
      let z : o % 512 + (i - o % 512) ≡ i = omega arith in
      let y : 512 * (o / 512) + i - o ≡ i - o % 512 = omega arith in
      let at : get_or d (o % 512 + (i - o % 512)) 0 ≡ get_or bs (0 + (i - o % 512)) 0 =
      ap (λ (r : List ℕ). get_or r (o % 512 + (i - o % 512)) 0) g ∙ laid_at (λ j. get_or bs j 0) (length bs) b (o % 512) 0 (i - o % 512) (omega (arith, buffer_long)) (omega arith) in
      rw (inside o (o + length bs) (512 * (o / 512) + i) (omega arith) (omega arith), y)
      (rw (z, zero-add) at at))
      (λ w p.
      rw (outside o (o + length bs) (512 * (o / 512) + i) (λ x y. p (omega arith) (omega arith)))
      (ap (λ (r : List ℕ). get_or r i 0) g ∙ laid_beside (λ j. get_or bs j 0) (length bs) b (o % 512) 0 i p
      ∙ laid_front (table_byte m t) (512 * c) (replicate 4608 0) b (512 * (o / 512)) i e (rw (length-replicate {A = ℕ} 4608 0) (omega arith)) l))

  pub write_laid : (a z : List ℕ) → z ≡ laid a 0 (word d) 0 (64 * c)
      → z ≡ laid a 0 (fresh_word (written_over m t o bs) o) 0 (64 * pages_covered o (o + length bs))
  write_laid a z f = f ∙ words_laid (written_over m t o bs) d a o c written_byte_lem ∙ ap (λ (n : ℕ). laid a 0 (fresh_word (written_over m t o bs) o) 0 (64 * n)) h

-- `lay_cut`: b is the buffer with the file's bytes below the size s, and zeros behind them.
pub cut_laid : (m : Mem) (t b a z : List ℕ) (s : ℕ) → b ≡ laid (replicate 512 0) 0 (table_byte m t) (512 * (s / 512)) (s % 512)
    → z ≡ laid a 0 (word b) 0 64 → z ≡ laid a 0 (fresh_word (zero_from m t s) s) 0 64
unfolding zero_from
cut_laid m t b a z s e f = f ∙ words_laid (zero_from m t s) b a s 1 kept
  where
    kept : (i : ℕ) → i < 512 * 1 → get_or b i 0 ≡ zero_from m t s (512 * (s / 512) + i)
    kept i l =
        by_lt i (s % 512)
        (λ p.
        rw (lt-ltb (512 * (s / 512) + i) s (omega arith))
        (laid_front (table_byte m t) (s % 512) (replicate 512 0) b (512 * (s / 512)) i e (rw (length-replicate {A = ℕ} 512 0) (omega arith)) p))
        (λ p.
        rw (le-ltb (512 * (s / 512) + i) s (omega arith))
        (ap (λ (r : List ℕ). get_or r i 0) e ∙ laid_beside (table_byte m t) (s % 512) (replicate 512 0) 0 (512 * (s / 512)) i (λ x y. omega arith)
        ∙ get_or-replicate {A = ℕ} 512 i 0 0 (omega arith)))
