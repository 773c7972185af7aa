-- Entries as words, read back: an entry depends on its eight words alone, and the words of an entry mean that entry.
use Rattle.model.proofs.Prelude.{◌≡◌, refl, sym, ◌∙◌, ap, ℕ, zero, suc, ◌+◌, ◌-◌, ◌*◌, ◌/◌, ◌%◌, ◌≤◌, ◌<◌, true, List, arith, add-zero, add_assoc, length, get_or, take, replicate, length-append, length-replicate, length-take, get_or-replicate, get_or-eq_default, ext_get_or, get_or-take, take-append_seam, drop-append_seam, lt-ltb, le-leb, leb-true}
use Rattle.model.specs.Lists.{values_from}
use Rattle.model.specs.Words.{Mem, word, byte_at}
use Rattle.model.specs.Entry.{Entry, write_entry, size_entry, add_entry, remove_entry, padded, name_field, entry_at, name_ok, is_zero, field_ok, file_entry_ok, name_entry_ok, write_words, size_words, name_words, add_words, remove_words}
use Rattle.model.specs.Claim.{Bytes}
use Rattle.model.proofs.Tests.{by_lt, ands}
use Rattle.model.proofs.Lists.{length_values, values_at, get_or_left, get_or_right, all_replicate}
use Rattle.model.proofs.Words.{byte_word}

-- the bytes of a memory depend on its words
byte_same : (m m' : Mem) (v w i : ℕ) → m' (w + i / 8) ≡ m (v + i / 8) → byte_at m' (8 * w + i) ≡ byte_at m (8 * v + i)
unfolding byte_at
byte_same m m' v w i h =
    let a : (8 * w + i) / 8 ≡ w + i / 8 = omega arith in
    let b : (8 * v + i) / 8 ≡ v + i / 8 = omega arith in
    let c : (8 * w + i) % 8 ≡ i % 8 = omega arith in
    let d : (8 * v + i) % 8 ≡ i % 8 = omega arith in
    rw (a, b, c, d, h)

pub field_same : (m m' : Mem) (v w : ℕ) → ((j : ℕ) → j < 4 → m' (w + j) ≡ m (v + j)) → name_field m' w ≡ name_field m v
unfolding name_field
field_same m m' v w h =
    ext_get_or 0 (values_from (byte_at m') (8 * w) 32) (values_from (byte_at m) (8 * v) 32)
    (length_values (byte_at m') (8 * w) 32 ∙ sym (length_values (byte_at m) (8 * v) 32))
    (λ i l.
    let k : i < 32 = rw (length_values (byte_at m') (8 * w) 32) at l in
    values_at (byte_at m') (8 * w) 32 i k ∙ byte_same m m' v w i (h (i / 8) (omega arith)) ∙ sym (values_at (byte_at m) (8 * v) 32 i k))

-- an entry depends on its eight words
pub entry_same : (m m' : Mem) (v w : ℕ) → ((o : ℕ) → o < 8 → m' (w + o) ≡ m (v + o)) → entry_at m' w ≡ entry_at m v
unfolding entry_at
entry_same m m' v w h =
    let e : m' w ≡ m v = ap m' (sym (add-zero w)) ∙ h 0 (omega arith) ∙ ap m (add-zero v) in
    let f : name_field m' (w + 3) ≡ name_field m (v + 3) = field_same m m' (v + 3) (w + 3) (λ j l. rw (add_assoc, add_assoc) (h (3 + j) (omega arith))) in
    rw (e, h 1 (omega arith), h 2 (omega arith), h 3 (omega arith), h 4 (omega arith), f)

-- the entry that eight words stand for
unfoldable pub decode : List ℕ → Entry
decode e = entry_at (λ o. get_or e o 0) 0

pub entry_decode : (m : Mem) (w : ℕ) (e : List ℕ) → ((o : ℕ) → o < 8 → m (w + o) ≡ get_or e o 0) → entry_at m w ≡ decode e
unfolding decode
entry_decode m w e h = entry_same (λ o. get_or e o 0) m 0 w (λ o k. h o k ∙ ap (λ (x : ℕ). get_or e x 0) (omega arith))

pub decode_write : (f d c s : ℕ) → decode (write_words f d c s) ≡ write_entry f d c s
unfolding decode entry_at write_words
decode_write f d c s = refl

pub decode_size : (s : ℕ) → decode (size_words s) ≡ size_entry s
unfolding decode entry_at size_words
decode_size s = refl

-- a padded name has the name's bytes, and zeros
pub length_padded : (n : List ℕ) → length n ≤ 32 → length (padded n) ≡ 32
unfolding padded
length_padded n h = rw (length-append, length-replicate) (omega arith)

pub padded_at : (n : List ℕ) (i : ℕ) → get_or (padded n) i 0 ≡ get_or n i 0
unfolding padded
padded_at n i =
    by_lt i (length n) (λ h. get_or_left 0 n (replicate (32 - length n) 0) i h)
    (λ h. get_or_right 0 n (replicate (32 - length n) 0) i h ∙ by_lt (i - length n) (32 - length n)
    (λ l. get_or-replicate (32 - length n) (i - length n) 0 0 l)
    (λ l. get_or-eq_default (replicate (32 - length n) 0) 0 (rw length-replicate l))
    ∙ sym (get_or-eq_default n 0 h))

pub take_padded : (n : List ℕ) → take (length n) (padded n) ≡ n
unfolding padded
take_padded n = take-append_seam n (replicate (32 - length n) 0)

pub name_short : (n : List ℕ) → name_ok n ≡ true → length n ≤ 32
unfolding name_ok
name_short n h = leb-true (length n) 32 (search ands)

-- the four words of a name read as the padded name
field_padded : (n : List ℕ) → length n ≤ 32 → Bytes n → (m : Mem) (w : ℕ) → ((j : ℕ) → j < 4 → m (w + j) ≡ word n j) → name_field m w ≡ padded n
unfolding name_field
field_padded n s b m w h =
    ext_get_or 0 (values_from (byte_at m) (8 * w) 32) (padded n) (length_values (byte_at m) (8 * w) 32 ∙ sym (length_padded n s))
    (λ i l.
    let k : i < 32 = rw (length_values (byte_at m) (8 * w) 32) at l in
    let z : 8 * 0 + i ≡ i = omega arith in
    let y : 0 + i / 8 ≡ i / 8 = omega arith in
    values_at (byte_at m) (8 * w) 32 i k ∙ byte_same (word n) m 0 w i (rw y (h (i / 8) (omega arith))) ∙ rw z (byte_word n i b ∙ sym (padded_at n i)))

module _ (n : List ℕ) (s : length n ≤ 32) (b : Bytes n) where
  field_of : (kind i : ℕ) → name_field (λ o. get_or (name_words kind i n) o 0) (0 + 3) ≡ padded n
  unfolding name_words
  field_of kind i = field_padded n s b (λ o. get_or (name_words kind i n) o 0) (0 + 3) (λ j l. four j l)
    where
      four : (j : ℕ) → j < 4 → get_or (name_words kind i n) (0 + 3 + j) 0 ≡ word n j
      four zero l = refl
      four (suc zero) l = refl
      four (suc (suc zero)) l = refl
      four (suc (suc (suc zero))) l = refl
      four (suc (suc (suc (suc j)))) l = absurd (omega arith)

  pub decode_add : (i : ℕ) → decode (add_words i n) ≡ add_entry i (length n) (padded n)
  unfolding decode entry_at add_words name_words
  decode_add i = ap (add_entry i (length n)) (field_of 3 i)

  pub decode_remove : decode (remove_words n) ≡ remove_entry (length n) (padded n)
  unfolding decode entry_at remove_words name_words
  decode_remove = ap (remove_entry (length n)) (field_of 4 0)

-- Entries that are written are entries that a log may hold.

module _ (n : List ℕ) (ok : name_ok n ≡ true) where
  field_ok_lem : field_ok (length n) (padded n) ≡ true
  unfolding field_ok padded
  field_ok_lem =
      rw (take-append_seam, drop-append_seam, ok, le-leb (length n) 32 (name_short n ok)) (all_replicate is_zero (32 - length n) 0 refl)

  pub add_ok : (N i : ℕ) → 1 ≤ i → i < N → name_entry_ok N (add_entry i (length n) (padded n)) ≡ true
  unfolding name_entry_ok
  add_ok N i g h = rw (le-leb 1 i g, lt-ltb i N h) field_ok_lem

  pub remove_ok : (N : ℕ) → name_entry_ok N (remove_entry (length n) (padded n)) ≡ true
  unfolding name_entry_ok
  remove_ok N = field_ok_lem

pub write_ok : (P N f d c s : ℕ) → 1 ≤ c → f + c ≤ 128 → N / 8 < d → d + c ≤ P → s ≤ 65536 → file_entry_ok P N (write_entry f d c s) ≡ true
unfolding file_entry_ok
write_ok P N f d c s h1 h2 h3 h4 h5 =
    rw (le-leb 1 c h1, le-leb c 128 (omega arith), le-leb (f + c) 128 h2, lt-ltb (N / 8) d h3, le-leb (d + c) P h4, le-leb s 65536 h5)

pub size_ok : (P N s : ℕ) → s ≤ 65536 → file_entry_ok P N (size_entry s) ≡ true
unfolding file_entry_ok
size_ok P N s h = le-leb s 65536 h

-- a name read from memory is bytes
pub bytes_take : (n : ℕ) (l : List ℕ) → Bytes l → Bytes (take n l)
bytes_take n l h i =
    by_lt i n (λ g. rw (get_or-take n l i 0 g) (h i)) (λ g. rw (get_or-eq_default (take n l) 0 (length_take_at n l i g)) (omega arith))
  where
    length_take_at : (n : ℕ) (l : List ℕ) (i : ℕ) → n ≤ i → length (take n l) ≤ i
    length_take_at n l i g = rw length-take (omega arith)

pub bytes_field : (m : Mem) (w : ℕ) → Bytes (name_field m w)
unfolding name_field byte_at
bytes_field m w i =
    by_lt i 32 (λ l. rw (values_at (byte_at m) (8 * w) 32 i l) (omega arith))
    (λ l. rw (get_or-eq_default (values_from (byte_at m) (8 * w) 32) 0 {n = i} (rw length_values l)) (omega arith))
