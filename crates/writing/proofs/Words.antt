-- The words that are laid into an array are those of the definitions' append: the table has the file's data pages, and the view is the
-- volume as it stands, since the journal is closed.
use Rattle.model.proofs.Prelude.{ℕ, ◌+◌, ◌*◌, ◌%◌, ◌/◌, ◌≤◌, ◌<◌, ◌≡◌, sym, ◌∙◌, ap, fun_ext, Bool, true, false, not, ◌&&◌, List, arith, zero-add, lt-ltb, le-ltb, eq-eqb, ne_eqb, ltb, eqb, length, get_or, take, replicate, length-replicate, length-take-le}
use Rattle.model.specs.Lists.{bit}
use Rattle.model.specs.Words.{Mem, word}
use Rattle.model.specs.Journal.{view}
use Rattle.model.specs.State.{File, file_of, file_byte}
use Rattle.model.specs.Calls.{pages_covered, written_byte, write_append, cuts_page, kept_byte, size_append}
use Rattle.model.proofs.Tests.{by_lt, no, bit_le}
use Rattle.model.proofs.Crash.Journal.{closed_view}
use Rattle.contents.specs.Laid.{laid, page_byte, table_byte}
use Rattle.contents.proofs.Laying.{laid_front, laid_length}
use Rattle.fresh.specs.Fresh.{written_over, zero_from, fresh_word}
use Rattle.state.specs.Stated.{FileState}
use Rattle.writing.specs.Kept.{cuts, Kept}

-- `lay_kept`: b is whether the size cuts a page, ds the array before and ds' after
module _ (m : Mem) (t : List ℕ) (s z : ℕ) (b : Bool) (e : b ≡ cuts t s z) (ds : List ℕ) (h : length ds ≡ 64) where
  pub kept_page : b ≡ true → (ds' : List ℕ) → ds' ≡ laid ds 0 (fresh_word (zero_from m t z) z) 0 64 → Kept m t s z 64 ds'
  unfolding bit
  kept_page y ds' g =
      let q = rw y at e in
      record {
        count = rw (← q);
        long = ap length g ∙ laid_length _ 64 ds 0 0 ∙ h;
        words = λ j i. laid_front _ 64 ds ds' 0 j g (omega arith) i ∙ rw (zero-add j);
      }

  pub kept_none : b ≡ false → Kept m t s z 0 ds
  unfolding bit
  kept_none y = let q = rw y at e in record { count = rw (← q); long = h; words = λ j i. absurd (omega arith) }

-- whole pages were laid, one at most
module _ (m : Mem) (t : List ℕ) (s z n : ℕ) (ds : List ℕ) (q : Kept m t s z n ds) where
  pub kept_few : (64 * (n / 64) ≡ n) × (n ≤ 64)
  kept_few = let c = q.count in let b = bit_le (cuts t s z) in (omega arith, omega arith)

  pub kept_fits : n ≤ length ds
  kept_fits = let l = q.long in omega (arith, kept_few)

  pub kept_taken : n ≡ length (take n ds)
  kept_taken = sym (length-take-le n ds kept_fits)

-- `lay_write`: bs are written from offset o on, which covers c pages; ds is the array afterwards
module _ (m : Mem) (t : List ℕ) (o : ℕ) (bs : List ℕ) (few : length bs ≤ 4096) (c : ℕ) (e : c ≡ pages_covered o (o + length bs)) (ds : List ℕ)
    (q : ds ≡ laid (replicate 576 0) 0 (fresh_word (written_over m t o bs) o) 0 (64 * pages_covered o (o + length bs))) where
  written_long : length ds ≡ 576
  written_long = ap length q ∙ laid_length _ _ (replicate 576 0) 0 0 ∙ length-replicate {A = ℕ} 576 0

  pub written_fits : 64 * c ≤ length ds
  written_fits = let l = written_long in omega arith

  pub written_taken : 64 * c ≡ length (take (64 * c) ds)
  written_taken = sym (length-take-le (64 * c) ds written_fits)

  pub written_at : (j : ℕ) → j < 64 * pages_covered o (o + length bs) → get_or ds j 0 ≡ fresh_word (written_over m t o bs) o j
  written_at j i = laid_front _ _ (replicate 576 0) ds 0 j q (rw (length-replicate {A = ℕ} 576 0) (omega arith)) i ∙ rw (zero-add j)

-- The file of an inode k, whose state was read.
module _ (v : List ℕ) (k s : ℕ) (marks t : List ℕ) (state : FileState v k s marks t) where
  file_byte_lem : (x : ℕ) → table_byte (word v) t x ≡ file_byte (view (word v)) (file_of (view (word v)) (word v 0) (word v 1) k) x
  unfolding table_byte page_byte file_byte
  file_byte_lem x =
      ap (λ (f : File). file_byte (word v) f x) state.file
      ∙ ap (λ (u : Mem). file_byte u (file_of (view (word v)) (word v 0) (word v 1) k) x) (sym (closed_view (word v) state.closed))

  written_is : (o : ℕ) (bs : List ℕ) → written_over (word v) t o bs ≡ written_byte (view (word v)) (word v 0) (word v 1) k o bs
  unfolding written_over written_byte
  written_is o bs = fun_ext (λ x. rw (file_byte_lem x))

  kept_is : (z : ℕ) → zero_from (word v) t z ≡ kept_byte (view (word v)) (word v 0) (word v 1) k z
  unfolding zero_from kept_byte
  kept_is z = fun_ext (λ x. rw (file_byte_lem x))

  -- `lay_write`
  pub write_words_lem : (o : ℕ) (bs : List ℕ) (j : ℕ) → fresh_word (written_over (word v) t o bs) o j ≡ (write_append (view (word v)) (word v 0) (word v 1) k o bs).words j
  unfolding write_append
  write_words_lem o bs j = rw (written_is o bs)

  -- `lay_kept`
  pub size_words_lem : (z n : ℕ) (ds : List ℕ) → Kept (word v) t s z n ds → (j : ℕ) → j < n
      → get_or ds j 0 ≡ (size_append (view (word v)) (word v 0) (word v 1) k z).words j
  unfolding size_append
  size_words_lem z n ds q j i = q.words j i ∙ rw (kept_is z)

  pub size_count : (z n : ℕ) (ds : List ℕ) → Kept (word v) t s z n ds → n ≡ 64 * (size_append (view (word v)) (word v 0) (word v 1) k z).count
  unfolding size_append cuts_page
  size_count z n ds q = q.count ∙ ap (λ (f : File). 64 * bit (ltb z f.size && not (eqb (z % 512) 0) && not (eqb (f.page (z / 512)) 0))) state.file
