-- The cases of the functions' answers: products that fit, names word by word, a look-up slot by slot, and what noting a name leaves.
use Rattle.model.proofs.Prelude.{ℕ, zero, suc, ◌+◌, ◌*◌, ◌-◌, ◌/◌, ◌%◌, ◌^◌, ◌≤◌, ◌<◌, ◌≡◌, refl, sym, ◌∙◌, Bool, true, false, not, List, [], ◌∷◌, arith, mul-le-mul_left, mul-le-mul_right, mul-lt-mul_of_pos_right, div-lt_iff_lt-mul, eqb, length, get_or, set, length-set, eq-eqb, ne_eqb, le-leb, leb-true, not-true, not-false}
use Rattle.model.specs.Lists.{all}
use Rattle.model.specs.Words.{Mem}
use Rattle.model.proofs.Lists.{all_cons, all_has, has_get_or}
use Rattle.inode_log.specs.Entries.{name_in}
use Rattle.inode_log.specs.declared.Name.{Name}
use Rattle.index.specs.Index.{same_name, weighed_of, spread_of, home_of, next_slot, seek, ends_at, slot_of, held, noted, lies_in, Slots, Noted}

-- Products.

product_le : (a b x y : ℕ) → a ≤ x → b ≤ y → a * b ≤ x * y
product_le a b x y h g =
    let p : a * b ≤ a * y = mul-le-mul_left a g in
    let q : a * y ≤ x * y = mul-le-mul_right y h in
    omega arith

-- a word's halves, weighed
pub weighs : (x k l : ℕ) → x < 2 ^ 64 → k < 2 ^ 29 → l < 2 ^ 29 → x % 4294967296 * k + x / 4294967296 * l < 2 ^ 62
weighs x k l h f g =
    let p = product_le (x % 4294967296) k (2 ^ 32 - 1) (2 ^ 29 - 1) (omega arith) (omega arith) in
    let q = product_le (x / 4294967296) l (2 ^ 32 - 1) (2 ^ 29 - 1) (omega arith) (omega arith) in
    omega arith

-- a number of 32 bits, scaled to M slots
pub scaled_below : (t M : ℕ) → t < 2 ^ 32 → 0 < M → t * M / 4294967296 < M
scaled_below t M h g =
    let p : t * M < 2 ^ 32 * M = mul-lt-mul_of_pos_right h g in
    let q : t * M < M * 4294967296 = omega arith in
    (div-lt_iff_lt-mul {k = 4294967296} (omega arith)).1 q

pub home_is : (n : Name) (M a b d e t : ℕ) → t ≡ spread_of (a + b + d + e) → a ≡ weighed_of n.first 506832829 378551291
    → b ≡ weighed_of n.second 445644797 334214467 → d ≡ weighed_of n.third 486187739 295075153
    → e ≡ weighed_of n.fourth 433494437 370248451 → t * M / 4294967296 ≡ home_of n M
unfolding home_of
home_is n M a b d e t j f g h i = rw (j, f, g, h, i)

pub home_below : (n : Name) (M : ℕ) → 0 < M → home_of n M < M
unfolding home_of spread_of
home_below n M h = scaled_below _ M (omega arith) h

-- Slots.

pub slot_first : (M s : ℕ) → s + 1 ≡ M → s < M → (0 ≡ next_slot M s) × (0 < M)
unfolding next_slot
slot_first M s e h = (rw (eq-eqb (s + 1) M e), omega arith)

pub slot_after : (M s : ℕ) → (s + 1 ≡ M → ⊥) → s < M → (s + 1 ≡ next_slot M s) × (s + 1 < M)
unfolding next_slot
slot_after M s e h = (rw (ne_eqb (s + 1) M e), omega arith)

-- what a slot holds lies in the volume
pub slot_in : (L : ℕ) (l : List ℕ) (s p : ℕ) → Slots L l → s < length l → p ≡ get_or l s 0 → 64 * p + 64 ≤ L
slot_in L l s p k h e = rw e (leb-true (64 * get_or l s 0 + 64) L (all_has (lies_in L) (get_or l s 0) l k.inside (has_get_or l s h)))

-- The loop of a look-up: k slots are left, from slot s on; p is what the slot holds, and r whether that has the name.

module _ (m : Mem) (l : List ℕ) (n : Name) (z : ℕ) where
  module _ (k s p : ℕ) (a : seek (ends_at m l n) (length l) k s ≡ z) (g : 0 < k) (e : p ≡ get_or l s 0) where
    ends : ends_at m l n s ≡ true → s ≡ z
    unfolding seek
    ends h = go k a g
      where
        go : (k : ℕ) → seek (ends_at m l n) (length l) k s ≡ z → 0 < k → s ≡ z
        go zero b d = absurd (omega arith)
        go (suc k) b d = rw (seek, h) at b

    pub look_empty : p ≡ 0 → s ≡ z
    unfolding ends_at
    look_empty h = ends (rw (eq-eqb (get_or l s 0) 0 (sym e ∙ h)))

    module _ (r : Bool) (i : r ≡ same_name (name_in m (8 * p)) n) (f : p ≡ 0 → ⊥) where
      named : same_name (name_in m (8 * get_or l s 0)) n ≡ r
      named = rw (← e) (sym i)

      pub look_found : r ≡ true → s ≡ z
      unfolding ends_at
      look_found h = ends (rw (ne_eqb (get_or l s 0) 0 (λ q. f (e ∙ q)), named, h))

      pub look_on : (j t : ℕ) → k ≡ j + 1 → r ≡ false → t ≡ next_slot (length l) s → seek (ends_at m l n) (length l) j t ≡ z
      unfolding seek ends_at
      look_on j t o h q =
          let not_here : ends_at m l n s ≡ false = rw (ne_eqb (get_or l s 0) 0 (λ y. f (e ∙ y)), named, h) in
          let d : k ≡ suc j = omega arith in
          rw q (rw (d, seek, not_here) at a)

  pub look_start : (s k : ℕ) → s ≡ home_of n (length l) → z ≡ slot_of m l n → k ≡ length l → seek (ends_at m l n) (length l) k s ≡ z
  unfolding slot_of
  look_start s k h g o = rw (o, h, g)

  pub look_spent : (k s : ℕ) → seek (ends_at m l n) (length l) k s ≡ z → k ≤ 0 → s ≡ z
  unfolding seek
  look_spent zero s a h = a
  look_spent (suc k) s a h = absurd (omega arith)

-- What noting a name leaves: s is the slot of the name, and q what it holds.

all_set : (f : ℕ → Bool) (l : List ℕ) (i x : ℕ) → all f l ≡ true → f x ≡ true → all f (set l i x) ≡ true
unfolding all
all_set f [] i x a h = a
all_set f (y ∷ l) zero x a h = rw h (all_cons f y l a).1
all_set f (y ∷ l) (suc i) x a h = let c = all_cons f y l a in rw c.0 (all_set f l i x c.1 h)

module _ (m : Mem) (L : ℕ) (l : List ℕ) (n : Name) (s q : ℕ) (k : Slots L l) (e : s ≡ slot_of m l n) (g : q ≡ get_or l s 0) where
  pub held_is : q ≡ held m l n
  unfolding held
  held_is = rw (← e) g

  put_slots : (p : ℕ) → 64 * p + 64 ≤ L → Slots L (set l s p)
  put_slots p h =
      let a = k.some in
      let b = k.few in
      let c = length-set l s p in
      record { some = omega arith; few = omega arith; inside = all_set (lies_in L) l s p k.inside (le-leb (64 * p + 64) L h) }

  module _ (p : ℕ) (adds : Bool) where
    pub note_absent : eqb q 0 ≡ true → not adds ≡ true → Noted m L l n p adds false l
    unfolding noted
    note_absent h i =
        let z = rw held_is at h in
        record { answer = rw (z, not-true adds i); list = rw (z, not-true adds i); long = refl; slots = k }

    pub note_new : eqb q 0 ≡ true → not adds ≡ false → 64 * p + 64 ≤ L → Noted m L l n p adds (eqb q 0) (set l s p)
    unfolding noted
    note_new h i j =
        let z = rw held_is at h in
        record { answer = rw (h, z, not-false adds i); list = rw (z, not-false adds i, ← e); long = length-set l s p; slots = put_slots p j }

    pub note_known : eqb q 0 ≡ false → 64 * p + 64 ≤ L → Noted m L l n p adds (eqb q 0) (set l s p)
    unfolding noted
    note_known h i =
        let z = rw held_is at h in
        record { answer = rw (h, z); list = rw (z, ← e); long = length-set l s p; slots = put_slots p i }
