-- The index is a map from names to places: noting a name changes what the index has for that name and for no other, since an empty slot
-- lies on no way that a look-up of a name in it goes, and a slot that is taken keeps its name.
use Rattle.model.proofs.Prelude.{ℕ, zero, suc, ◌+◌, ◌*◌, ◌≤◌, ◌<◌, ◌≡◌, refl, sym, ◌∙◌, ap, Bool, true, false, not, cond, ◌&&◌, ◌||◌, List, [], ◌∷◌, arith, eqb, length, get_or, set, replicate, length-set, length-replicate, get_or-replicate, get_or-eq_default, get_or-set_same, get_or-set_other, eq-eqb, ne_eqb, eqb-true, not-false}
use Rattle.model.specs.Lists.{bit, filter}
use Rattle.model.specs.Words.{Mem}
use Rattle.model.proofs.Tests.{by_bool, by_eq, by_lt, clash, ands, or_false, bit_le}
use Rattle.inode_log.specs.Entries.{name_in}
use Rattle.inode_log.specs.declared.Name.{Name}
use Rattle.index.specs.Index.{same_name, home_of, next_slot, seek, ends_at, slot_of, held, noted, taken}
use Rattle.index.proofs.Looks.{home_below}

-- Names.

pub same_refl : (a : Name) → same_name a a ≡ true
unfolding same_name
same_refl a =
    rw (
      eq-eqb a.first a.first refl,
      eq-eqb a.second a.second refl,
      eq-eqb a.third a.third refl,
      eq-eqb a.fourth a.fourth refl,
      eq-eqb a.len a.len refl,
    )

pub same_true : (a b : Name) → same_name a b ≡ true → a ≡ b
unfolding same_name
same_true a b h =
    let i : a.first ≡ b.first = eqb-true a.first b.first (search ands) in
    let j : a.second ≡ b.second = eqb-true a.second b.second (search ands) in
    let k : a.third ≡ b.third = eqb-true a.third b.third (search ands) in
    let l : a.fourth ≡ b.fourth = eqb-true a.fourth b.fourth (search ands) in
    let o : a.len ≡ b.len = eqb-true a.len b.len (search ands) in
    let z : ◌≡◌ {A = Name} (record { len = a.len; first = a.first; second = a.second; third = a.third; fourth = a.fourth })
    (record { len = b.len; first = b.first; second = b.second; third = b.third; fourth = b.fourth }) = rw (i, j, k, l, o) in z

pub same_other : (a b : Name) → (a ≡ b → ⊥) → same_name a b ≡ false
same_other a b h = by_bool (same_name a b) (λ e. absurd (h (same_true a b e))) (λ e. e)

-- Look-ups: what f holds of decides where one ends.

module _ (f g : ℕ → Bool) (M : ℕ) where
  seek_alike : ((s : ℕ) → f s ≡ g s) → (n s : ℕ) → seek f M n s ≡ seek g M n s
  unfolding seek
  seek_alike h zero s = refl
  seek_alike h (suc n) s = rw (seek, h s, seek_alike h n (next_slot M s))

  -- a look-up that does not end at slot t goes as before where it no longer ends there
  seek_other : (t : ℕ) → ((s : ℕ) → (s ≡ t → ⊥) → f s ≡ g s) → g t ≡ false → (n s : ℕ) → (seek f M n s ≡ t → ⊥) → seek g M n s ≡ seek f M n s
  unfolding seek
  seek_other t h e zero s d = refl
  seek_other t h e (suc n) s d =
      by_bool (f s)
      (λ k. let y : s ≡ t → ⊥ = λ q. d (rw (seek, k) q) in rw (seek, k, sym (h s y) ∙ k))
      (λ k.
      let i : g s ≡ false = by_eq s t (λ q. rw q e) (λ q. sym (h s q) ∙ k) in
      rw (seek, k, i) (seek_other t h e n (next_slot M s) (λ q. d (rw (seek, k) q))))

module _ (f : ℕ → Bool) (M t : ℕ) (low : t < M) (here : f t ≡ true) where
  next_below : (s : ℕ) → s < M → next_slot M s < M
  unfolding next_slot
  next_below s h = by_eq (s + 1) M (λ e. rw (eq-eqb (s + 1) M e) (omega arith)) (λ e. rw (ne_eqb (s + 1) M e) (omega arith))

  -- where slot t is one of n slots from s on
  seek_ends : (n s : ℕ) → s < M → (s ≤ t → t < s + n) → (t < s → t + M < s + n) → (f (seek f M n s) ≡ true) × (seek f M n s < M)
  unfolding seek next_slot
  seek_ends zero s h a b = by_lt t s (λ l. let y = b l in absurd (omega arith)) (λ l. let y = a l in absurd (omega arith))
  seek_ends (suc n) s h a b =
      by_bool (f s) (λ k. rw (seek, k) (k, h))
      (λ k.
      let d : s ≡ t → ⊥ = λ q. clash (f s) (rw q here) k in
      let i = next_below s h in
      rw (seek, k) (by_eq (s + 1) M
      (λ e. rw (eq-eqb (s + 1) M e) (seek_ends n 0 (omega arith) (λ l. let y = b (omega arith) in omega arith) (λ l. absurd (omega arith))))
      (λ e. rw (ne_eqb (s + 1) M e) (seek_ends n (s + 1) (omega arith) (λ l. let y = a (omega arith) in omega arith)
      (λ l. let y = b (omega arith) in omega arith)))))

-- Slots that are taken.

taken_set : (l : List ℕ) (s p : ℕ) → s < length l → (p ≡ 0 → ⊥) → taken (set l s p) ≡ taken l + bit (eqb (get_or l s 0) 0)
unfolding taken filter bit
taken_set [] s p h d = absurd (omega arith)
taken_set (x ∷ l) zero p h d =
    by_eq x 0 (λ e. rw (filter, eq-eqb x 0 e, ne_eqb p 0 d) (omega arith)) (λ e. rw (filter, ne_eqb x 0 e, ne_eqb p 0 d) (omega arith))
taken_set (x ∷ l) (suc s) p h d =
    let r = taken_set l s p (omega arith) d in
    by_eq x 0 (λ e. rw (filter, eq-eqb x 0 e) r) (λ e. rw (filter, ne_eqb x 0 e) (omega arith))

taken_grows : (l : List ℕ) (s p : ℕ) → (p ≡ 0 → ⊥) → taken l ≤ taken (set l s p)
unfolding taken filter
taken_grows [] s p d = omega arith
taken_grows (x ∷ l) zero p d =
    by_eq x 0 (λ e. rw (filter, eq-eqb x 0 e, ne_eqb p 0 d) (omega arith)) (λ e. rw (filter, ne_eqb x 0 e, ne_eqb p 0 d) (omega arith))
taken_grows (x ∷ l) (suc s) p d =
    let r = taken_grows l s p d in by_eq x 0 (λ e. rw (filter, eq-eqb x 0 e) r) (λ e. rw (filter, ne_eqb x 0 e) (omega arith))

-- an index never has fewer names after a name was noted
pub noted_grows : (m : Mem) (l : List ℕ) (n : Name) (p : ℕ) (adds : Bool) → (p ≡ 0 → ⊥) → taken l ≤ taken (noted m l n p adds)
unfolding noted
noted_grows m l n p adds d =
    by_bool (not (eqb (held m l n) 0) || adds) (λ h. rw (noted, h) (taken_grows l (slot_of m l n) p d)) (λ h. rw (noted, h) (omega arith))

pub noted_length : (m : Mem) (l : List ℕ) (n : Name) (p : ℕ) (adds : Bool) → length (noted m l n p adds) ≡ length l
unfolding noted
noted_length m l n p adds =
    by_bool (not (eqb (held m l n) 0) || adds) (λ h. rw (noted, h) (length-set l (slot_of m l n) p)) (λ h. rw (noted, h))

empty_slot : (l : List ℕ) → taken l < length l → (t : ℕ) × (t < length l) × (get_or l t 0 ≡ 0)
unfolding taken filter
empty_slot [] h = absurd (omega arith)
empty_slot (x ∷ l) h =
    by_eq x 0 (λ e. (0, omega arith, e))
    (λ e.
    let k : suc (taken l) < suc (length l) = rw (filter, ne_eqb x 0 e) at h in
    let r = empty_slot l (omega arith) in
    (suc r.0, omega arith, r.2))

-- A name of which the index holds an entry is found where that stands.
pub record Indexed (m : Mem) (l : List ℕ) : Type 0 where
  pub found : (s : ℕ) → s < length l → (get_or l s 0 ≡ 0 → ⊥) → slot_of m l (name_in m (8 * get_or l s 0)) ≡ s

-- an index with an empty slot
module _ (m : Mem) (l : List ℕ) (room : taken l < length l) (n : Name) where
  slot_ends : (ends_at m l n (slot_of m l n) ≡ true) × (slot_of m l n < length l)
  unfolding slot_of ends_at
  slot_ends =
      let e = empty_slot l room in
      let t = e.0 in
      let h = home_below n (length l) (omega arith) in
      seek_ends (ends_at m l n) (length l) t e.1 (rw (eq-eqb (get_or l t 0) 0 e.2)) (length l) (home_of n (length l)) h (λ q. omega arith) (λ q. omega arith)

  slot_below : slot_of m l n < length l
  slot_below = slot_ends.1

  -- what its slot holds has the name
  slot_named : (get_or l (slot_of m l n) 0 ≡ 0 → ⊥) → name_in m (8 * get_or l (slot_of m l n) 0) ≡ n
  unfolding ends_at
  slot_named d = same_true _ n (rw (ne_eqb (get_or l (slot_of m l n) 0) 0 d) at slot_ends.0)

-- Place p, of an entry with name n, put into the slot of that name; a slot is empty after it.
module _ (m : Mem) (l : List ℕ) (n : Name) (p : ℕ) (room : taken l + 1 < length l) (some : p ≡ 0 → ⊥) (name : name_in m (8 * p) ≡ n) where
  slot : ℕ
  slot = slot_of m l n

  put : List ℕ
  put = set l slot p

  below : slot < length l
  unfolding slot
  below = slot_below m l (omega arith) n

  put_here : get_or put slot 0 ≡ p
  unfolding put
  put_here = get_or-set_same l slot p 0 below

  put_there : (s : ℕ) → (s ≡ slot → ⊥) → get_or put s 0 ≡ get_or l s 0
  unfolding put
  put_there s d = get_or-set_other l slot s p 0 d

  put_length : length put ≡ length l
  unfolding put
  put_length = length-set l slot p

  put_taken : taken put ≡ taken l + bit (eqb (get_or l slot 0) 0)
  unfolding put
  put_taken = taken_set l slot p below some

  put_room : taken put < length put
  put_room = let a = put_taken in let b = bit_le (eqb (get_or l slot 0) 0) in let c = put_length in omega arith

  -- another name is looked up as before but for this slot
  ends_there : (k : Name) (s : ℕ) → (s ≡ slot → ⊥) → ends_at m l k s ≡ ends_at m put k s
  unfolding ends_at
  ends_there k s d = rw (put_there s d)

  -- the name itself is found where it was
  same_slot : slot_of m put n ≡ slot
  unfolding slot_of ends_at slot
  same_slot =
      rw put_length
      (sym (seek_alike (ends_at m l n) (ends_at m put n) (length l)
      (λ s. by_eq s slot
      (λ e. rw e ((slot_ends m l (omega arith) n).0 ∙ sym (rw (put_here, ne_eqb p 0 some, name) (same_refl n))))
      (λ e. ends_there n s e)) (length l) (home_of n (length l))))

  put_held : held m put n ≡ p
  unfolding held
  put_held = rw same_slot put_here

  module _ (k : Name) (other : k ≡ n → ⊥) where
    -- the look-up of another name does not end at this slot now
    passes : ends_at m put k slot ≡ false
    unfolding ends_at
    passes = rw (put_here, ne_eqb p 0 some, name, same_other n k (λ q. other (sym q)))

    other_slot : (slot_of m l k ≡ slot → ⊥) → slot_of m put k ≡ slot_of m l k
    unfolding slot_of
    other_slot d =
        rw put_length
        (seek_other (ends_at m l k) (ends_at m put k) (length l) slot (ends_there k) passes (length l) (home_of k (length l)) d)

    -- where it ended there, the slot was empty, and the index has neither name
    was_empty : slot_of m l k ≡ slot → get_or l slot 0 ≡ 0
    unfolding slot
    was_empty e =
        by_eq (get_or l slot 0) 0 (λ z. z)
        (λ z.
        let a = slot_named m l (omega arith) n z in
        let b = slot_named m l (omega arith) k (rw e z) in
        absurd (other (sym (rw e at b) ∙ a)))

    still_none : Indexed m l → slot_of m l k ≡ slot → held m put k ≡ 0
    unfolding held
    still_none ix e =
        let u = slot_of m put k in
        let b = slot_below m put put_room k in
        by_eq (get_or put u 0) 0 (λ z. z)
        (λ z.
        let a = slot_named m put put_room k z in
        let d : u ≡ slot → ⊥ = λ q. clash (ends_at m put k u) (slot_ends m put put_room k).0 (rw q passes) in
        let g : get_or put u 0 ≡ get_or l u 0 = put_there u d in
        let c = put_length in
        let f = ix.found u (omega arith) (λ q. z (g ∙ q)) in
        let i : name_in m (8 * get_or l u 0) ≡ k = rw g at a in
        absurd (d (sym (rw i at f) ∙ e)))

    put_other : Indexed m l → held m put k ≡ held m l k
    unfolding held
    put_other ix =
        by_eq (slot_of m l k) slot (λ e. still_none ix e ∙ sym (rw e (was_empty e)))
        (λ e. rw (other_slot e) (put_there (slot_of m l k) e))

  put_indexed : Indexed m l → Indexed m put
  unfolding slot
  put_indexed ix =
      record {
        found =
            λ s h d.
            by_eq s slot (λ e. rw (e, put_here, name) same_slot)
            (λ e.
            let g = put_there s e in
            let c = put_length in
            let f : slot_of m l (name_in m (8 * get_or l s 0)) ≡ s = ix.found s (omega arith) (λ q. d (g ∙ q)) in
            let o : name_in m (8 * get_or l s 0) ≡ n → ⊥ = λ q. e (sym f ∙ ap (slot_of m l) q) in
            rw g (other_slot (name_in m (8 * get_or l s 0)) o (λ q. e (sym f ∙ q)) ∙ f));
      }

-- Noting name n of the entry at place p.
module _ (m : Mem) (l : List ℕ) (n : Name) (p : ℕ) (adds : Bool) (room : taken l + 1 < length l) (some : p ≡ 0 → ⊥) (name : name_in m (8 * p) ≡ n) where
  noted_put : not (eqb (held m l n) 0) || adds ≡ true → noted m l n p adds ≡ put m l n p room some name
  unfolding noted put slot
  noted_put h = rw (noted, h)

  noted_not : not (eqb (held m l n) 0) || adds ≡ false → noted m l n p adds ≡ l
  unfolding noted
  noted_not h = rw (noted, h)

  -- a name that is not put in though the index lacks it is not added
  pub noted_taken : taken (noted m l n p adds) ≡ taken l + bit (eqb (held m l n) 0 && adds)
  unfolding held slot bit
  noted_taken =
      by_bool (eqb (held m l n) 0)
      (λ z. by_bool adds (λ a. rw (noted_put (rw (z, a)), z, a) (put_taken m l n p room some name ∙ rw z))
      (λ a. rw (noted_not (rw (z, a)), z, a) (omega arith)))
      (λ z. rw (noted_put (rw z), z) (put_taken m l n p room some name ∙ rw z))

  pub noted_held : held m (noted m l n p adds) n ≡ cond (not (eqb (held m l n) 0) || adds) p 0
  noted_held =
      by_bool (not (eqb (held m l n) 0) || adds) (λ h. rw (noted_put h, h) (put_held m l n p room some name)) (λ h. rw (noted_not h, h) (lacking h))
    where
      lacking : not (eqb (held m l n) 0) || adds ≡ false → held m l n ≡ 0
      lacking h = eqb-true (held m l n) 0 (not-false (eqb (held m l n) 0) (or_false _ adds h).0)

  pub noted_other : (k : Name) → (k ≡ n → ⊥) → Indexed m l → held m (noted m l n p adds) k ≡ held m l k
  noted_other k d ix =
      by_bool (not (eqb (held m l n) 0) || adds) (λ h. rw (noted_put h) (put_other m l n p room some name k d ix)) (λ h. rw (noted_not h))

  pub noted_indexed : Indexed m l → Indexed m (noted m l n p adds)
  noted_indexed ix =
      by_bool (not (eqb (held m l n) 0) || adds) (λ h. rw (noted_put h) (put_indexed m l n p room some name ix)) (λ h. rw (noted_not h) ix)

-- An index of which every slot is empty.
module _ (m : Mem) (M : ℕ) where
  none_held : (s : ℕ) → ◌≡◌ {A = ℕ} (get_or (replicate M 0) s 0) 0
  none_held s =
      by_lt s M (λ h. get_or-replicate {A = ℕ} M s 0 0 h)
      (λ h. let e = length-replicate {A = ℕ} M 0 in get_or-eq_default (replicate M 0) 0 {n = s} (omega arith))

  pub none_indexed : Indexed m (replicate M 0)
  none_indexed = record { found = λ s h d. absurd (d (none_held s)) }

pub none_taken : (M : ℕ) → taken (replicate M 0) ≡ 0
unfolding taken filter
none_taken zero = refl
none_taken (suc M) = none_taken M
