-- Names by their words: where two name fields are as they should be, the names are the same exactly if their lengths and four words are,
-- since words below 2 ^ 64 are the same exactly if their bytes are.
use Rattle.model.proofs.Prelude.{ℕ, zero, suc, ◌+◌, ◌*◌, ◌-◌, ◌/◌, ◌%◌, ◌^◌, ◌≤◌, ◌<◌, ◌≡◌, refl, sym, ◌∙◌, ap, ap₂, true, List, [], ◌∷◌, ◌++◌, arith, div-one, div-div-eq-div-mul, pow-succ', add-zero, add_assoc, length, take, drop, get_or, replicate, length-take, length-drop, take-append-drop, eqb-true, leb-true}
use Rattle.model.specs.Lists.{all}
use Rattle.model.specs.Words.{Mem, byte_at}
use Rattle.model.specs.Entry.{name_field, is_zero, field_ok}
use Rattle.model.proofs.Tests.{ands}
use Rattle.model.proofs.Lists.{all_cons, length_values, values_at}
use Rattle.inode_log.specs.Entries.{name_in, field_of}
use Rattle.inode_log.specs.declared.Name.{Name}
use Rattle.inode_log.proofs.Meant.{field_in}
use Rattle.directory.specs.Fields.{field_at, name_at}

-- numbers of n bytes are the same if their bytes are
bytes_same : (n x y : ℕ) → x < 256 ^ n → y < 256 ^ n → ((j : ℕ) → j < n → x / 256 ^ j % 256 ≡ y / 256 ^ j % 256) → x ≡ y
bytes_same zero x y h g e = omega arith
bytes_same (suc n) x y h g e =
    let q : x / 256 ≡ y / 256 =
    bytes_same n (x / 256) (y / 256) (omega arith) (omega arith) (λ j l. simp (div-div-eq-div-mul, ← pow-succ') (e (suc j) (omega arith))) in
    let r : x % 256 ≡ y % 256 = simp div-one at (e 0 (omega arith)) in omega arith

-- Name fields by their bytes.

field_byte : (m : Mem) (w i : ℕ) → i < 32 → get_or (name_field m w) i 0 ≡ m (w + i / 8) / 256 ^ (i % 8) % 256
unfolding name_field byte_at
field_byte m w i l =
    let a : (8 * w + i) / 8 ≡ w + i / 8 = omega arith in
    let b : (8 * w + i) % 8 ≡ i % 8 = omega arith in
    values_at (byte_at m) (8 * w) 32 i l ∙ rw (a, b)

length_field : (m : Mem) (w : ℕ) → length (name_field m w) ≡ 32
unfolding name_field
length_field m w = length_values (byte_at m) (8 * w) 32

all_zero : (f : List ℕ) → all is_zero f ≡ true → f ≡ replicate (length f) 0
all_zero [] a = refl
all_zero (b ∷ f) a = let c = all_cons is_zero b f a in ap₂ ◌∷◌ (eqb-true b 0 c.0) (all_zero f c.1)

-- a name field that is as it should be is its name and zeros
pub record Whole (l : ℕ) (f : List ℕ) : Type 0 where
  pub long : length (take l f) ≡ l
  pub is : f ≡ take l f ++ replicate (32 - l) 0

whole : (l : ℕ) (f : List ℕ) → field_ok l f ≡ true → length f ≡ 32 → Whole l f
unfolding field_ok
whole l f ok h =
    let k : l ≤ 32 = leb-true l 32 (search ands) in
    let z : all is_zero (drop l f) ≡ true = search ands in
    let d : length (drop l f) ≡ 32 - l = length-drop l f ∙ omega arith in
    record {
      long = length-take l f ∙ omega arith;
      is = sym (take-append-drop l f) ∙ ap (λ (r : List ℕ). take l f ++ r) (all_zero (drop l f) z ∙ ap (λ (n : ℕ). replicate n 0) d);
    }

module _ (m : Mem) (a b : ℕ) where
  field_words : ((w : ℕ) → m w < 2 ^ 64) → name_field m a ≡ name_field m b → (j : ℕ) → j < 4 → m (a + j) ≡ m (b + j)
  field_words small e j l =
      bytes_same 8 (m (a + j)) (m (b + j)) (small (a + j)) (small (b + j))
      (λ k g.
      let i = 8 * j + k in
      let p : i / 8 ≡ j = omega arith in
      let q : i % 8 ≡ k = omega arith in
      rw (p, q) at (sym (field_byte m a i (omega arith)) ∙ ap (λ (f : List ℕ). get_or f i 0) e ∙ field_byte m b i (omega arith)))

-- the names of two entries
module _ (m : Mem) (a b : ℕ) where
  pub of_words : name_in m a ≡ name_in m b → name_at m a ≡ name_at m b
  unfolding name_at name_in
  of_words h =
      let l : m (a + 2) ≡ m (b + 2) = ap (λ (n : Name). n.len) h in
      let f : name_field m (a + 3) ≡ name_field m (b + 3) = sym (field_in m a) ∙ ap field_of h ∙ field_in m b in
      rw (l, f)

  pub to_words : ((w : ℕ) → m w < 2 ^ 64) → field_at m a ≡ true → field_at m b ≡ true → name_at m a ≡ name_at m b → name_in m a ≡ name_in m b
  unfolding name_at name_in
  to_words small fa fb e =
      let x = whole (m (a + 2)) (name_field m (a + 3)) fa (length_field m (a + 3)) in
      let y = whole (m (b + 2)) (name_field m (b + 3)) fb (length_field m (b + 3)) in
      let l : m (a + 2) ≡ m (b + 2) = sym x.long ∙ ap length e ∙ y.long in
      let f : name_field m (a + 3) ≡ name_field m (b + 3) = x.is ∙ ap₂ (λ (n : List ℕ) (k : ℕ). n ++ replicate (32 - k) 0) e l ∙ sym y.is in
      let w : (j : ℕ) → j < 4 → m (a + 3 + j) ≡ m (b + 3 + j) = field_words m (a + 3) (b + 3) small f in
      let w₀ : m (a + 3) ≡ m (b + 3) = rw (add-zero, add-zero) at (w 0 (omega arith)) in
      let w₁ : m (a + 4) ≡ m (b + 4) = rw (add_assoc, add_assoc) at (w 1 (omega arith)) in
      let w₂ : m (a + 5) ≡ m (b + 5) = rw (add_assoc, add_assoc) at (w 2 (omega arith)) in
      let w₃ : m (a + 6) ≡ m (b + 6) = rw (add_assoc, add_assoc) at (w 3 (omega arith)) in
      rw (l, w₀, w₁, w₂, w₃)
