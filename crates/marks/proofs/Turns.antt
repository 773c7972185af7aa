-- The cases of the loop that marks data pages: at one page the list of pages that are left is that page and the list after it.
use Rattle.model.proofs.Prelude.{ℕ, suc, ◌+◌, ◌-◌, ◌≤◌, ◌<◌, ◌≡◌, sym, ◌∙◌, Bool, true, false, not, List, ◌∷◌, arith, eqb, ltb, length, get_or, set, eq-eqb, ne_eqb, ltb-true, not-true, not-false}
use Rattle.model.proofs.Tests.{by_eq, no}
use Rattle.model.proofs.Lists.{all_cons}
use Rattle.marks.specs.Marks.{fresh, marked, mapped_by, mapped, have_marks, Marked}

-- One page of a list is taken: u are the marks before and v after, f is what `take` answered.

fresh_next : (u v ps : List ℕ) (p : ℕ) (f z : Bool) → fresh u (p ∷ ps) ≡ z → f ≡ eqb (get_or u p 0) 0 → not f ≡ false → v ≡ set u p 1
    → fresh v ps ≡ z
unfolding fresh
fresh_next u v ps p f z a e n s = rw s (rw (sym e ∙ not-false f n) at a)

fresh_not : (u ps : List ℕ) (p : ℕ) (f z : Bool) → fresh u (p ∷ ps) ≡ z → f ≡ eqb (get_or u p 0) 0 → not f ≡ true → false ≡ z
unfolding fresh
fresh_not u ps p f z a e n = rw (sym e ∙ not-true f n) at a

marked_next : (u v ps z : List ℕ) (p : ℕ) → marked u (p ∷ ps) ≡ z → v ≡ set u p 1 → marked v ps ≡ z
unfolding marked
marked_next u v ps z p a s = rw s a

-- the answer no says nothing of the marks
refused : (u t ps : List ℕ) → false ≡ fresh u ps → Marked u ps false t
refused u t ps e = record { answer = e; list = λ y. no y }

-- The loop of `take_table`: the file pages of the table t from the i-th on are left; d is the data page of the i-th.

abbrev pub left : List ℕ → ℕ → List ℕ
left t i = mapped t i (length t - i)

module _ (t : List ℕ) (i : ℕ) (l : i < length t) where
  abbrev d : ℕ
  d = get_or t i 0

  more : length t - i ≡ suc (length t - (i + 1))
  more = omega arith

  table_zero : d ≡ 0 → left t i ≡ left t (i + 1)
  unfolding mapped mapped_by
  table_zero z = rw (more, mapped_by, eq-eqb d 0 z)

  table_more : (d ≡ 0 → ⊥) → left t i ≡ d ∷ left t (i + 1)
  unfolding mapped mapped_by
  table_more z = rw (more, mapped_by, ne_eqb d 0 z)

  module _ (a : have_marks (left t i) ≡ true) where
    first_in : (d ≡ 0 → ⊥) → (ltb d 4096 ≡ true) × (have_marks (left t (i + 1)) ≡ true)
    unfolding have_marks
    first_in k = all_cons (λ p. ltb p 4096) d (left t (i + 1)) (rw (table_more k) at a)

    pub table_low : (d ≡ 0 → ⊥) → d < 4096
    table_low k = ltb-true d 4096 (first_in k).0

    pub table_in : have_marks (left t (i + 1)) ≡ true
    table_in = by_eq d 0 (λ k. rw (← table_zero k) a) (λ k. (first_in k).1)

  pub skip_fresh : (u : List ℕ) (z : Bool) → fresh u (left t i) ≡ z → d ≡ 0 → fresh u (left t (i + 1)) ≡ z
  skip_fresh u z a k = rw (← table_zero k) a

  pub skip_marked : (u z : List ℕ) → marked u (left t i) ≡ z → d ≡ 0 → marked u (left t (i + 1)) ≡ z
  skip_marked u z a k = rw (← table_zero k) a

  module _ (u v : List ℕ) (f : Bool) (g : f ≡ eqb (get_or u d 0) 0) (s : v ≡ set u d 1) (k : d ≡ 0 → ⊥) where
    pub take_fresh : (z : Bool) → fresh u (left t i) ≡ z → not f ≡ false → fresh v (left t (i + 1)) ≡ z
    take_fresh z a y = fresh_next u v (left t (i + 1)) d f z (rw (table_more k) at a) g y s

    pub take_marked : (z : List ℕ) → marked u (left t i) ≡ z → not f ≡ false → marked v (left t (i + 1)) ≡ z
    take_marked z a y = marked_next u v (left t (i + 1)) z d (rw (table_more k) at a) s

    pub take_not : (o ps : List ℕ) → fresh u (left t i) ≡ fresh o ps → not f ≡ true → Marked o ps false v
    take_not o ps a y = refused o v ps (fresh_not u (left t (i + 1)) d f (fresh o ps) (rw (table_more k) at a) g y)

pub table_done : (t : List ℕ) (i : ℕ) (u o ps : List ℕ) → fresh u (left t i) ≡ fresh o ps → marked u (left t i) ≡ marked o ps
    → length t ≤ i → Marked o ps true u
unfolding mapped mapped_by fresh marked
table_done t i u o ps a b l =
    let z : length t - i ≡ 0 = omega arith in
    record { answer = rw z at a; list = λ _. rw z at b }
