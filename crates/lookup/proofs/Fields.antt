-- Names in fields: a field that is as it should be is its name and zeros, since what follows the name is.
use Rattle.model.proofs.Prelude.{ℕ, zero, suc, ◌+◌, ◌*◌, ◌-◌, ◌≤◌, ◌<◌, ◌≡◌, refl, sym, ◌∙◌, ap, Bool, true, List, ◌∷◌, ◌++◌, arith, length, get_or, take, drop, length-take, length-drop, get_or-eq_default, ext_get_or, get_or-take, get_or-drop, eqb, eqb-true, leb-true}
use Rattle.model.specs.Lists.{all, same_list, values_from}
use Rattle.model.specs.Words.{Mem, word, byte_at}
use Rattle.model.specs.Entry.{padded, name_field, is_zero, field_ok}
use Rattle.model.proofs.Tests.{by_lt, ands}
use Rattle.model.proofs.Lists.{length_values, has_get_or, all_has}
use Rattle.model.proofs.Log.Decode.{length_padded, padded_at}
use Rattle.directory.specs.Fields.{name_at, field_at}
use Rattle.std.specs.Cmp.Lexicographic.{pointwise}
use Rattle.lookup.proofs.Bytes.{same_bytes, part_bytes}

-- the first k of n values
take_values : (f : ℕ → ℕ) (x n k : ℕ) → k ≤ n → take k (values_from f x n) ≡ values_from f x k
unfolding values_from
take_values f x n zero h = refl
take_values f x zero (suc k) h = absurd (omega arith)
take_values f x (suc n) (suc k) h = ap (λ (r : List ℕ). f x ∷ r) (take_values f (x + 1) n k (omega arith))

-- a field that is as it should be is its name, filled up with zeros
pub field_is : (l : ℕ) (f : List ℕ) → field_ok l f ≡ true → length f ≡ 32 → f ≡ padded (take l f)
unfolding field_ok
field_is l f ok h =
    let k : l ≤ 32 = leb-true l 32 (search ands) in
    let z : all is_zero (drop l f) ≡ true = search ands in
    let s : length (take l f) ≤ 32 = rw length-take (omega arith) in
    let t : length (take l f) ≤ l = rw length-take (omega arith) in
    ext_get_or 0 f (padded (take l f)) (h ∙ sym (length_padded (take l f) s))
    (λ i b. by_lt i l (λ g. sym (padded_at (take l f) i ∙ get_or-take l f i 0 g))
    (λ g.
    let d : i - l < length (drop l f) = rw length-drop (omega arith) in
    let e : l + (i - l) ≡ i = omega arith in
    let y : get_or f i 0 ≡ 0 =
    ap (λ (j : ℕ). get_or f j 0) (sym e) ∙ sym (get_or-drop l f (i - l) 0)
    ∙ eqb-true (get_or (drop l f) (i - l) 0) 0 (all_has is_zero (get_or (drop l f) (i - l) 0) (drop l f) z (has_get_or (drop l f) (i - l) d)) in
    y ∙ sym (padded_at (take l f) i ∙ get_or-eq_default (take l f) 0 {n = i} (omega arith))))

-- The entry at word w, whose name field is as it should be; x is its name's length as the code read it.

module _ (m : Mem) (w x : ℕ) (ok : field_at m w ≡ true) (e : x ≡ m (w + 2)) where
  pub length_short : x ≤ 32
  unfolding field_ok
  length_short = rw e (leb-true (m (w + 2)) 32 (search ands))

  name_bytes_lem : name_at m w ≡ values_from (byte_at m) (8 * (w + 3)) x
  unfolding name_at name_field
  name_bytes_lem = rw (← e) (take_values (byte_at m) (8 * (w + 3)) 32 x length_short)

  pub length_is : x ≡ length (name_at m w)
  length_is = sym (rw name_bytes_lem (length_values (byte_at m) (8 * (w + 3)) x))

-- The volume v, of whose bytes n make the name field or the name of the entry at place p.

pub field_long : (v b : List ℕ) (p n k : ℕ) → 64 * p + 64 ≤ length v → k ≡ 32 → 32 ≤ length b
    → length (take 32 b) ≡ length (take k (drop (8 * (8 * p + 3)) v))
field_long v b p n k h g l = rw (length-take, length-take, length-drop) (omega arith)

module _ (v : List ℕ) (bytes : (i : ℕ) → get_or v i 0 < 256) (p : ℕ) (inside : 64 * p + 64 ≤ length v) (ok : field_at (word v) (8 * p) ≡ true) where
  pub named : (n : List ℕ) (x k : ℕ) (r : Bool) → x ≡ word v (8 * p + 2) → k ≡ x → r ≡ pointwise eqb (take k (drop (8 * (8 * p + 3)) v)) n
      → r ≡ same_list (name_at (word v) (8 * p)) n
  named n x k r e q a =
      let l = length_short (word v) (8 * p) x ok e in
      a ∙ sym (same_bytes _ n)
      ∙ ap (λ (b : List ℕ). same_list b n) (part_bytes v (8 * (8 * p + 3)) x k bytes (omega arith) q ∙ sym (name_bytes_lem (word v) (8 * p) x ok e))

  pub laid_name : (c rest : List ℕ) (k : ℕ) → k ≡ 32 → c ≡ take k (drop (8 * (8 * p + 3)) v)
      → c ++ rest ≡ padded (name_at (word v) (8 * p)) ++ rest
  unfolding name_at name_field
  laid_name c rest k q h =
      ap (λ (r : List ℕ). r ++ rest)
      (h ∙ part_bytes v (8 * (8 * p + 3)) 32 k bytes (omega arith) q
      ∙ field_is (word v (8 * p + 2)) (values_from (byte_at (word v)) (8 * (8 * p + 3)) 32) ok (length_values (byte_at (word v)) (8 * (8 * p + 3)) 32))
