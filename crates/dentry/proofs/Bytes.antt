-- A name field by its words: 32 bytes are a name and zeros exactly if each of the four words has its part of the name's bytes and then zeros.
use Rattle.model.proofs.Prelude.{ℕ, zero, suc, ◌+◌, ◌*◌, ◌-◌, ◌/◌, ◌%◌, ◌^◌, ◌≤◌, ◌<◌, min, ◌≡◌, refl, sym, ◌∙◌, ap, Bool, true, false, cond, ◌&&◌, List, [], ◌∷◌, ◌++◌, arith, add-one, zero-add, add-zero, div-one, div-div-eq-div-mul, pow-suc, zero-min, min-zero, suc-min-suc, length, take, drop, length-take, eq-eqb, ne_eqb, le-leb}
use Rattle.model.specs.Lists.{all, values_from}
use Rattle.model.specs.Words.{Mem, byte_at}
use Rattle.model.specs.Entry.{name_field, name_byte_ok, is_zero, name_ok, field_ok}
use Rattle.model.proofs.Tests.{by_bool, by_eq}
use Rattle.model.proofs.Lists.{length_values}
use Rattle.inode_log.specs.Entries.{four_words, field_of}
use Rattle.inode_log.specs.declared.Name.{Name}
use Rattle.dentry.specs.Fields.{word_ok, bytes_in}

-- whether a list is l bytes that a name may have, then zeros
name_then_zeros : ℕ → List ℕ → Bool
name_then_zeros l [] = true
name_then_zeros zero (b ∷ f) = let r = name_then_zeros zero f in cond (is_zero b) r false
name_then_zeros (suc l) (b ∷ f) = let r = name_then_zeros l f in cond (name_byte_ok b) r false

all_zeros : (f : List ℕ) → name_then_zeros 0 f ≡ all is_zero f
unfolding name_then_zeros all
all_zeros [] = refl
all_zeros (b ∷ f) = rw (name_then_zeros, all_zeros f)

in_parts : (l : ℕ) (f : List ℕ) → name_then_zeros l f ≡ all name_byte_ok (take l f) && all is_zero (drop l f)
unfolding name_then_zeros all
in_parts zero f = all_zeros f
in_parts (suc l) [] = refl
in_parts (suc l) (b ∷ f) = by_bool (name_byte_ok b) (λ e. rw (name_then_zeros, e) (in_parts l f)) (λ e. rw (name_then_zeros, e))

field_is : (l : ℕ) (f : List ℕ) → length f ≡ 32 → 1 ≤ l → l ≤ 32 → field_ok l f ≡ name_then_zeros l f
unfolding field_ok name_ok
field_is l f h p q =
    let s : length (take l f) ≡ l = rw length-take (omega arith) in
    rw (field_ok, le-leb l 32 q, name_ok, s, le-leb 1 l p, le-leb l 32 q) (sym (in_parts l f))

-- a list in two parts
parts : (l : ℕ) (xs ys : List ℕ) → name_then_zeros l (xs ++ ys) ≡ name_then_zeros l xs && name_then_zeros (l - length xs) ys
unfolding name_then_zeros
parts zero [] ys = refl
parts (suc l) [] ys = let z : suc l - 0 ≡ suc l = omega arith in rw z
parts zero (b ∷ xs) ys =
    let z : 0 - suc (length xs) ≡ 0 - length xs = omega arith in
    by_bool (is_zero b) (λ e. rw (name_then_zeros, e, z) (parts zero xs ys)) (λ e. rw (name_then_zeros, e))
parts (suc l) (b ∷ xs) ys =
    let z : suc l - suc (length xs) ≡ l - length xs = omega arith in
    by_bool (name_byte_ok b) (λ e. rw (name_then_zeros, e, z) (parts l xs ys)) (λ e. rw (name_then_zeros, e))

-- the n lowest bytes of a number
le_bytes : ℕ → ℕ → List ℕ
le_bytes x zero = []
le_bytes x (suc n) = x % 256 ∷ le_bytes (x / 256) n

length_le : (x n : ℕ) → length (le_bytes x n) ≡ n
unfolding le_bytes
length_le x zero = refl
length_le x (suc n) = ap suc (length_le (x / 256) n)

bytes_word : (k l x : ℕ) → x < 256 ^ k → name_then_zeros l (le_bytes x k) ≡ word_ok (min k l) x
unfolding name_then_zeros le_bytes word_ok
bytes_word zero l x h = let e : x ≡ 0 = omega arith in rw (zero-min l, word_ok, eq-eqb x 0 e) (nothing l)
  where
    nothing : (l : ℕ) → name_then_zeros l [] ≡ true
    nothing zero = refl
    nothing (suc l) = refl
bytes_word (suc k) zero x h =
    let r = rw (min-zero k) at (bytes_word k zero (x / 256) (omega arith)) in
    by_eq (x % 256) 0
    (λ e. rw (min-zero (suc k), name_then_zeros, eq-eqb (x % 256) 0 e, r) (by_eq x 0 (λ z. rw (eq-eqb x 0 z, eq-eqb (x / 256) 0 (omega arith)))
    (λ z. rw (ne_eqb x 0 z, ne_eqb (x / 256) 0 (omega arith)))))
    (λ e. rw (min-zero (suc k), name_then_zeros, ne_eqb (x % 256) 0 e, ne_eqb x 0 (omega arith)))
bytes_word (suc k) (suc l) x h =
    let r = bytes_word k l (x / 256) (omega arith) in
    by_bool (name_byte_ok (x % 256)) (λ e. rw (name_then_zeros, suc-min-suc, word_ok, e) r) (λ e. rw (name_then_zeros, suc-min-suc, word_ok, e))

higher : (x i : ℕ) → x / 256 ^ (i + 1) ≡ x / 256 ^ i / 256
higher x i = rw (add-one i, pow-suc 256 i, div-div-eq-div-mul)

-- the bytes of word j of a memory, from its i-th on
word_bytes : (m : Mem) (j i k : ℕ) → i + k ≤ 8 → values_from (byte_at m) (8 * j + i) k ≡ le_bytes (m j / 256 ^ i) k
unfolding values_from byte_at le_bytes
word_bytes m j i zero h = refl
word_bytes m j i (suc k) h =
    let a : (8 * j + i) / 8 ≡ j = omega arith in
    let b : (8 * j + i) % 8 ≡ i = omega arith in
    let c : 8 * j + i + 1 ≡ 8 * j + (i + 1) = omega arith in
    rw (values_from, a, b, c, word_bytes m j (i + 1) k (omega arith), higher (m j) i)

values_split : (f : ℕ → ℕ) (x a b : ℕ) → values_from f x (a + b) ≡ values_from f x a ++ values_from f (x + a) b
unfolding values_from
values_split f x zero b = rw (zero-add b, add-zero x)
values_split f x (suc a) b =
    let s : suc a + b ≡ suc (a + b) = omega arith in
    let t : x + suc a ≡ x + 1 + a = omega arith in
    rw (s, values_from, t) (ap (λ (r : List ℕ). f x ∷ r) (values_split f (x + 1) a b))

-- four words
whole_word : (m : Mem) (j : ℕ) → values_from (byte_at m) (8 * j) 8 ≡ le_bytes (m j) 8
whole_word m j = rw (← (add-zero (8 * j))) (word_bytes m j 0 8 (omega arith) ∙ rw div-one)

field_bytes : (n : Name) → field_of n ≡ le_bytes n.first 8 ++ (le_bytes n.second 8 ++ (le_bytes n.third 8 ++ le_bytes n.fourth 8))
unfolding name_field four_words
field_bytes n =
    let m = four_words n in
    values_split (byte_at m) 0 8 24
    ∙ rw (whole_word m 0, values_split (byte_at m) 8 8 16, whole_word m 1, values_split (byte_at m) 16 8 8, whole_word m 2, whole_word m 3)

-- the words of a name are words of 64 bits
abbrev pub Words : Name → Type 0
Words n = (n.first < 2 ^ 64) × (n.second < 2 ^ 64) × (n.third < 2 ^ 64) × (n.fourth < 2 ^ 64)

-- the parts of a name in its words
abbrev pub words_ok : Name → Bool
words_ok n =
    word_ok (bytes_in n.len 0) n.first && (word_ok (bytes_in n.len 8) n.second
    && (word_ok (bytes_in n.len 16) n.third && word_ok (bytes_in n.len 24) n.fourth))

pub field_words : (n : Name) → Words n → 1 ≤ n.len → n.len ≤ 32 → field_ok n.len (field_of n) ≡ words_ok n
unfolding name_field
field_words n s p q =
    let l = n.len in
    let f = le_bytes n.fourth 8 in
    let e = le_bytes n.third 8 ++ f in
    let d = le_bytes n.second 8 ++ e in
    let x : l - 0 ≡ l = omega arith in
    let y : l - 8 - 8 ≡ l - 16 = omega arith in
    let z : l - 16 - 8 ≡ l - 24 = omega arith in
    field_is l (field_of n) (length_values (byte_at (four_words n)) 0 32) p q
    ∙ rw (
      field_bytes n,
      parts l (le_bytes n.first 8) d,
      length_le n.first 8,
      parts (l - 8) (le_bytes n.second 8) e,
      length_le n.second 8,
      y,
      parts (l - 16) (le_bytes n.third 8) f,
      length_le n.third 8,
      z,
      bytes_word 8 l n.first s.0,
      bytes_word 8 (l - 8) n.second s.1,
      bytes_word 8 (l - 16) n.third s.2,
      bytes_word 8 (l - 24) n.fourth s.3,
      x,
    )
