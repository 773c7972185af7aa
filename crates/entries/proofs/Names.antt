-- Names as words: where a name field is as it should be, its four words are the name's, since the bytes after the name are 0.
use Rattle.model.proofs.Prelude.{ℕ, ◌+◌, ◌*◌, ◌≤◌, ◌<◌, ◌≡◌, sym, ◌∙◌, ap, true, List, [], ◌∷◌, arith, add-one, length, get_or, take, drop, get_or-eq_default, get_or-drop, get_or-take, length-take-le, replicate, get_or-replicate, min, ◌++◌, ◌-◌, slice, slice-cons, length-slice}
use Rattle.std.proofs.lemmas.List.{get_or_append_left, get_or-append_right}
use Rattle.model.proofs.Tests.{by_lt}
use Rattle.model.specs.Lists.{values_from}
use Rattle.model.specs.Words.{Mem, word, byte_at}
use Rattle.model.specs.Entry.{padded, name_field, name_words, add_words}
use Rattle.model.specs.Claim.{Bytes}
use Rattle.model.specs.Calls.{clean_names}
use Rattle.model.proofs.Lists.{length_values, values_at, no_length}
use Rattle.model.proofs.Words.{le_from_same, word_drop, byte_word}
use Rattle.model.proofs.Log.Decode.{padded_at}
use Rattle.directory.specs.Fields.{name_at, field_at}
use Rattle.directory.specs.Places.{standing, Filled}
use Rattle.lookup.proofs.Fields.{field_is, length_is}
use Rattle.entries.specs.Table.{Holds, Put}
use Rattle.entries.proofs.Entries.{Filling, filling_next, filling_end}

-- `name_words`: p are the bytes of the name n that were copied into a field of 32 zeros, k of them.
module _ (n p : List ℕ) (k : ℕ) (e : k ≡ min (length n) 32) (g : p ≡ take k n) where
  abbrev field : List ℕ
  field = p ++ drop k (replicate 32 0)

  field_at_lem : (i : ℕ) → i < 32 → get_or field i 0 ≡ get_or n i 0
  field_at_lem i b =
      let long : length p ≡ k = ap length g ∙ length-take-le k n (omega arith) in
      by_lt i k
      (λ c. get_or_append_left p (drop k (replicate 32 0)) 0 i (rw long c) ∙ rw g (get_or-take k n i 0 c))
      (λ c. get_or-append_right p (drop k (replicate 32 0)) k i 0 long c ∙ get_or-drop k (replicate 32 0) (i - k) 0
      ∙ get_or-replicate {A = ℕ} 32 (k + (i - k)) 0 0 (omega arith) ∙ sym (get_or-eq_default n 0 {n = i} (omega arith)))

  word_is : (j : ℕ) → j < 4 → word field j ≡ word n j
  unfolding word
  word_is j l = le_from_same 8 (λ i. get_or field i 0) (λ i. get_or n i 0) (8 * j) (λ i a b. field_at_lem i (omega arith))

  pub name_is : (kind inode x0 x1 x2 x3 : ℕ) → x0 ≡ word field 0 → x1 ≡ word field 1 → x2 ≡ word field 2 → x3 ≡ word field 3
      → kind ∷ inode ∷ length n ∷ x0 ∷ x1 ∷ x2 ∷ x3 ∷ 0 ∷ [] ≡ name_words kind inode n
  unfolding name_words
  name_is kind inode x0 x1 x2 x3 h0 h1 h2 h3 =
      rw (h0 ∙ word_is 0 (omega arith), h1 ∙ word_is 1 (omega arith), h2 ∙ word_is 2 (omega arith), h3 ∙ word_is 3 (omega arith))

-- `copied_add`: the entry at word w, whose name field is as it should be.

pub add_is : (v : List ℕ) (w i len a b c d : ℕ) → field_at (word v) w ≡ true → i ≡ word v (w + 1) → len ≡ word v (w + 2)
    → a ≡ word (name_at (word v) w) 0 → b ≡ word (name_at (word v) w) 1 → c ≡ word (name_at (word v) w) 2 → d ≡ word (name_at (word v) w) 3
    → 3 ∷ i ∷ len ∷ a ∷ b ∷ c ∷ d ∷ 0 ∷ [] ≡ add_words (word v (w + 1)) (name_at (word v) w)
unfolding add_words name_words
add_is v w i len a b c d ok e f x0 x1 x2 x3 = cc (length_is (word v) w len ok f)

-- Its words are those of the volume v.

module _ (v : List ℕ) (w : ℕ) (b : Bytes v) (ok : field_at (word v) w ≡ true) where
  name_byte : (i : ℕ) → i < 32 → get_or (name_at (word v) w) i 0 ≡ get_or (drop (8 * (w + 3)) v) i 0
  unfolding name_at name_field
  name_byte i h =
      let m = word v in
      let f = values_from (byte_at m) (8 * (w + 3)) 32 in
      let e : f ≡ padded (take (m (w + 2)) f) = field_is (m (w + 2)) f ok (length_values (byte_at m) (8 * (w + 3)) 32) in
      sym (padded_at (take (m (w + 2)) f) i) ∙ ap (λ (r : List ℕ). get_or r i 0) (sym e) ∙ values_at (byte_at m) (8 * (w + 3)) 32 i h
      ∙ byte_word v (8 * (w + 3) + i) b ∙ sym (get_or-drop (8 * (w + 3)) v i 0)

  -- `field_word`
  pub field_word : (j r : ℕ) → j < 4 → r ≡ word v (w + 3 + j) → r ≡ word (name_at (word v) w) j
  unfolding word
  field_word j r h e =
      e ∙ sym (le_from_same 8 (λ i. get_or (name_at (word v) w) i 0) (λ i. get_or (drop (8 * (w + 3)) v) i 0) (8 * j)
      (λ k g f. name_byte k (omega arith)) ∙ word_drop v (w + 3) j)

-- The loop of `clean_names`: the table of places t has c places; the code read p, the i-th of them, and put its entry e.

module _ (m : Mem) (L c i : ℕ) (t l ws : List ℕ) (es : List (List ℕ)) (q : Filling l ws i (clean_names (standing m (slice i c t))) es)
    (filled : Filled m L c t) where
  pub names_next : (p : ℕ) (us e : List ℕ) → i < c → p ≡ get_or t i 0 → Put ws us i e → e ≡ add_words (m (8 * p + 1)) (name_at m (8 * p))
      → Filling l us (i + 1) (clean_names (standing m (slice (i + 1) c t))) es
  unfolding clean_names standing
  names_next p us e g f put a =
      let h = filled.few in
      let k = filled.long in
      let s : slice i c t ≡ p ∷ slice (i + 1) c t = rw (f, add-one) (slice-cons i c t 0 g (omega arith)) in
      filling_next l ws i _ es q us e _ _ put a (rw s)

  pub names_end : c ≤ i → Holds l ws i es
  unfolding clean_names standing
  names_end g =
      let h = filled.few in
      let k = filled.long in
      filling_end l ws i _ es q (rw (no_length (slice i c t) (length-slice i c t (omega arith) ∙ omega arith)))
