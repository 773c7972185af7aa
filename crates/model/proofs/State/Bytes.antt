-- The bytes of a file: their count and each of them, where the file's end is as accepted; and those of a list cut, lengthened or laid over.
use Rattle.model.proofs.Prelude.{◌≡◌, sym, ◌∙◌, ap, ⊎_elim, ℕ, ◌+◌, ◌-◌, ◌*◌, ◌/◌, ◌%◌, ◌≤◌, ◌<◌, max, true, false, cond, ◌||◌, or-true, List, ◌++◌, append-nil, append_assoc, arith, sub_self, length, take, get_or, replicate, length-append, length-take, length-drop, length-replicate, get_or-replicate, get_or-eq_default, ext_get_or, get_or-take, get_or-drop, take-length, ltb, eqb, leb-true, ltb-true, eqb-true, lt-ltb, le-ltb, eq-eqb, ne_eqb}
use Rattle.model.specs.Lists.{all_below, all, foldl}
use Rattle.model.specs.Words.{Mem, byte_at}
use Rattle.model.specs.Entry.{Entry, write_entry, size_entry, add_entry, remove_entry, no_entry, file_entry_ok}
use Rattle.model.specs.State.{File, empty_file, file_step, file_byte, bytes_of}
use Rattle.model.specs.Accept.{end_ok}
use Rattle.model.specs.FileMap.{sized, laid_over}
use Rattle.model.proofs.Tests.{by_bool, by_eq, by_lt, ands, within, inside, outside}
use Rattle.model.proofs.Lists.{all_below_at, all_below_by, length_values, values_at, values_same, get_or_left, get_or_right, fold_keeps}
use Rattle.model.proofs.Frame.Placed.{Placed, SamePages, file_byte_same}

-- Lists of bytes.

pub length_sized : (s : ℕ) (l : List ℕ) → length (sized s l) ≡ s
unfolding sized
length_sized s l = simp (length-append, length-take, length-replicate) (omega arith)

pub get_or_sized : (s : ℕ) (l : List ℕ) (i : ℕ) → get_or (sized s l) i 0 ≡ cond (ltb i s) (get_or l i 0) 0
unfolding sized
get_or_sized s l i =
    by_lt i s
    (λ h. rw (lt-ltb i s h) (by_lt i (length l)
    (λ g. get_or_left 0 (take s l) _ i (rw length-take (omega arith)) ∙ get_or-take s l i 0 h)
    (λ g. get_or_right 0 (take s l) _ i (rw length-take (omega arith)) ∙ rw length-take (get_or-replicate (s - length l) _ 0 0 (omega arith))
    ∙ sym (get_or-eq_default l 0 g))))
    (λ h. rw (le-ltb i s h) (get_or-eq_default (take s l ++ replicate (s - length l) 0) 0
    (rw (length-append, length-take, length-replicate) (omega arith))))

pub sized_same : (l : List ℕ) (s : ℕ) → length l ≡ s → sized s l ≡ l
unfolding sized
sized_same l s e = rw (← e, take-length, sub_self, append-nil)

pub length_laid_over : (l : List ℕ) (o : ℕ) (bs : List ℕ) → length (laid_over l o bs) ≡ max (length l) (o + length bs)
unfolding laid_over
length_laid_over l o bs = rw (length-append, length-append, length_sized, length-drop) (omega arith)

pub get_or_laid_over : (l : List ℕ) (o : ℕ) (bs : List ℕ) (i : ℕ)
    → get_or (laid_over l o bs) i 0 ≡ cond (within o (o + length bs) i) (get_or bs (i - o) 0) (get_or l i 0)
unfolding laid_over
get_or_laid_over l o bs i =
    rw append_assoc (by_lt i o
    (λ h. rw (outside o (o + length bs) i (λ p q. omega arith)) (get_or_left 0 (sized o l) _ i (rw length_sized h) ∙ get_or_sized o l i ∙ rw (lt-ltb i o h)))
    (λ h. get_or_right 0 (sized o l) _ i (rw length_sized h) ∙ rw length_sized (by_lt i (o + length bs)
    (λ g. rw (inside o (o + length bs) i h g) (get_or_left 0 bs _ (i - o) (omega arith)))
    (λ g. rw (outside o (o + length bs) i (λ p q. omega arith)) (get_or_right 0 bs _ (i - o) (omega arith)
    ∙ get_or-drop (o + length bs) l (i - o - length bs) 0 ∙ ap (λ (k : ℕ). get_or l k 0) (omega arith))))))

-- Bytes of a file.

pub file_byte_lt : (u : Mem) (f : File) (x : ℕ) → file_byte u f x < 256
unfolding file_byte byte_at
file_byte_lt u f x = by_bool (eqb (f.page (x / 512)) 0) (λ e. rw e (omega arith)) (λ e. rw e (omega arith))

pub unmapped : (u : Mem) (f : File) (x : ℕ) → f.page (x / 512) ≡ 0 → file_byte u f x ≡ 0
unfolding file_byte
unmapped u f x e = rw e

-- An accepted end, said of every byte: no mapped page starts at or after the size, and from the size on there are zeros.
pub record Ended (u : Mem) (f : File) : Type 0 where
  pub starts : (i : ℕ) → (f.page i ≡ 0 → ⊥) → 512 * i < f.size
  pub zeros : (x : ℕ) → f.size ≤ x → file_byte u f x ≡ 0

module _ (u : Mem) (f : File) where
  pub end_ended : ((i : ℕ) → 128 ≤ i → f.page i ≡ 0) → end_ok u f ≡ true → Ended u f
  unfolding end_ok
  end_ended b e = record { starts = starts; zeros = zeros }
    where
      starts : (i : ℕ) → (f.page i ≡ 0 → ⊥) → 512 * i < f.size
      starts i n =
          let l : i < 128 = by_lt i 128 (λ l. l) (λ l. absurd (n (b i l))) in
          let a = all_below_at 128 i (λ i. eqb (f.page i) 0 || ltb (512 * i) f.size) (search ands) l in
          ltb-true (512 * i) f.size (rw (ne_eqb _ _ n) at a)

      zeros : (x : ℕ) → f.size ≤ x → file_byte u f x ≡ 0
      zeros x l =
          by_eq (f.page (x / 512)) 0 (unmapped u f x)
          (λ n.
          let g = starts (x / 512) n in
          let q : f.size / 512 ≡ x / 512 = omega arith in
          let h : eqb (f.size % 512) 0 ≡ false = ne_eqb (f.size % 512) 0 (omega arith) in
          let k : eqb (f.page (f.size / 512)) 0 ≡ false = rw q (ne_eqb _ _ n) in
          let rest = all_below (512 - f.size % 512) (λ j. eqb (file_byte u f (f.size + j)) 0) in
          let a : (eqb (f.size % 512) 0 || eqb (f.page (f.size / 512)) 0 || rest) ≡ true = search ands in
          let c = all_below_at (512 - f.size % 512) (x - f.size) (λ j. eqb (file_byte u f (f.size + j)) 0) (rw (h, k) at a) (omega arith) in
          let s : f.size + (x - f.size) ≡ x = omega arith in
          eqb-true _ _ (rw s at c))

  pub ended_end : Ended u f → end_ok u f ≡ true
  unfolding end_ok
  ended_end e =
      let a : all_below 128 (λ i. eqb (f.page i) 0 || ltb (512 * i) f.size) ≡ true =
      all_below_by 128 _ (λ i l. by_eq (f.page i) 0 (λ z. rw (eq-eqb _ _ z)) (λ z. rw (ne_eqb _ _ z, lt-ltb _ _ (e.starts i z)))) in
      let b : all_below (512 - f.size % 512) (λ j. eqb (file_byte u f (f.size + j)) 0) ≡ true =
      all_below_by _ _ (λ j l. eq-eqb _ _ (e.zeros (f.size + j) (omega arith))) in
      rw (a, b, or-true)

  pub length_bytes : length (bytes_of u f) ≡ f.size
  unfolding bytes_of
  length_bytes = length_values (file_byte u f) 0 f.size

  pub get_or_bytes : Ended u f → (x : ℕ) → get_or (bytes_of u f) x 0 ≡ file_byte u f x
  unfolding bytes_of
  get_or_bytes e x =
      by_lt x f.size (λ h. values_at (file_byte u f) 0 f.size x h ∙ ap (file_byte u f) (omega arith))
      (λ h. get_or-eq_default (bytes_of u f) 0 {n = x} (rw length_bytes h) ∙ sym (e.zeros x h))

  -- the bytes of a file are a list, if it has their count and each of them
  pub bytes_are_lem : Ended u f → (l : List ℕ) → length l ≡ f.size → ((x : ℕ) → file_byte u f x ≡ get_or l x 0) → bytes_of u f ≡ l
  bytes_are_lem e l h g = ext_get_or 0 (bytes_of u f) l (length_bytes ∙ sym h) (λ x _. get_or_bytes e x ∙ g x)

-- a file whose data pages have the words that they had
module _ (u u' : Mem) (f : File) (kept : SamePages u u' f) where
  kept_byte_lem : (x : ℕ) → file_byte u' f x ≡ file_byte u f x
  kept_byte_lem x = file_byte_same u u' f x (kept (x / 512) (x % 512 / 8) (omega arith))

  pub kept_bytes : bytes_of u' f ≡ bytes_of u f
  unfolding bytes_of
  kept_bytes = values_same (file_byte u' f) (file_byte u f) 0 f.size (λ x g l. kept_byte_lem x)

  pub kept_end : end_ok u' f ≡ end_ok u f
  unfolding end_ok
  kept_end = simp kept_byte_lem

-- the end of a file whose data pages lie where they may
pub placed_ended : (u : Mem) (P N : ℕ) (f : File) → Placed P N f → end_ok u f ≡ true → Ended u f
placed_ended u P N f p e = end_ended u f (λ i l. ⊎_elim (λ z. z) (λ h. absurd (omega arith)) (p i)) e

-- a file's size
step_small : (P N : ℕ) (f : File) (e : Entry) → file_entry_ok P N e ≡ true → f.size ≤ 65536 → (file_step f e).size ≤ 65536
unfolding file_step file_entry_ok
step_small P N f (write_entry a d c z) e h = leb-true z 65536 (search ands)
step_small P N f (size_entry z) e h = leb-true z 65536 e
step_small P N f (add_entry i l n) e h = h
step_small P N f (remove_entry l n) e h = h
step_small P N f no_entry e h = h

pub small_file : (P N : ℕ) (es : List Entry) → all (file_entry_ok P N) es ≡ true → (foldl file_step empty_file es).size ≤ 65536
unfolding empty_file
small_file P N es e = fold_keeps file_step (λ f. f.size ≤ 65536) (file_entry_ok P N) (step_small P N) es empty_file e (omega arith)
