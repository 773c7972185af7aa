-- What the write entries of longest stretches come to: each number that stands on a page is mapped to it, as if each had an entry of its own.
-- A number put ahead of some stretches counts as one write before theirs, whether it lengthens the first of them or not.
use Rattle.model.proofs.Prelude.{◌≡◌, refl, sym, ◌∙◌, ap, ◌⊎◌, ⊎_elim, ℕ, zero, suc, ◌+◌, ◌-◌, ◌/◌, ◌≤◌, ◌<◌, true, cond, ◌&&◌, not, List, [], ◌∷◌, map, arith, add-zero, length, eqb, eqb-true, eq-eqb, ne_eqb}
use Rattle.model.specs.Lists.{all, foldl}
use Rattle.model.specs.Stretches.{Stretch, ahead, stretches}
use Rattle.model.specs.Entry.{write_entry, file_entry_ok}
use Rattle.model.specs.State.{File, file_step}
use Rattle.model.specs.Calls.{stretch_entries}
use Rattle.model.proofs.Tests.{by_bool, by_eq, ands, within, inside, outside, by_range}
use Rattle.model.proofs.Log.Decode.{decode, decode_write, write_ok}

-- two files of one size and the same pages
pub same_file : (f g : File) → f.size ≡ g.size → ((j : ℕ) → f.page j ≡ g.page j) → f ≡ g
same_file f g s p = λ i. record { size = s i; page = λ j. p j i }

-- one number ahead of a stretch that goes on from it
longer_step : (g : File) (i p c z : ℕ)
    → file_step g (write_entry i p (c + 1) z) ≡ file_step (file_step g (write_entry i p 1 z)) (write_entry (i + 1) (p + 1) c z)
unfolding file_step
longer_step g i p c z =
    same_file _ _ refl (λ j.
    by_range (i + 1) (i + 1 + c) j
    (λ t a b. rw (t, inside i (i + (c + 1)) j (omega arith) (omega arith)) (omega arith))
    (λ t a. rw t (by_range i (i + 1) j
    (λ r b d. rw (r, inside i (i + (c + 1)) j (omega arith) (omega arith)))
    (λ r b. rw (r, outside i (i + (c + 1)) j (λ x y. by_eq i j (λ e. b (omega arith) (omega arith)) (λ e. a (omega arith) (omega arith))))))))

module _ (z : ℕ) where
  -- the file g after the entries of some stretches
  abbrev pub after : File → List Stretch → File
  after g ss = foldl file_step g (map decode (stretch_entries z ss))

  after_cons : (g : File) (s : Stretch) (ss : List Stretch) → after g (s ∷ ss) ≡ after (file_step g (write_entry s.first s.page s.count z)) ss
  unfolding stretch_entries foldl
  after_cons g s ss = rw decode_write

  after_ahead : (g : File) (i p : ℕ) (ss : List Stretch) → after g (ahead i p ss) ≡ after (file_step g (write_entry i p 1 z)) ss
  unfolding ahead
  after_ahead g i p [] = after_cons g _ []
  after_ahead g i p (s ∷ ss) =
      by_bool (eqb s.first (i + 1) && eqb s.page (p + 1))
      (λ t.
      let a : s.first ≡ i + 1 = eqb-true _ _ (search ands) in
      let b : s.page ≡ p + 1 = eqb-true _ _ (search ands) in
      rw t (after_cons g _ ss ∙ rw (longer_step g i p s.count z, ← a, ← b) (sym (after_cons _ s ss))))
      (λ t. rw t (after_cons g _ (s ∷ ss)))

  -- one page written: it, and another
  first_page : (g : File) (i p : ℕ) → (file_step g (write_entry i p 1 z)).page i ≡ p
  unfolding file_step
  first_page g i p = rw (inside i (i + 1) i (omega arith) (omega arith)) (omega arith)

  other_page : (g : File) (i p j : ℕ) → (j ≡ i → ⊥) → (file_step g (write_entry i p 1 z)).page j ≡ g.page j
  unfolding file_step
  other_page g i p j q = rw (outside i (i + 1) j (λ a b. q (omega arith)))

  same_range : (f : ℕ → ℕ) (j i n : ℕ) → (j ≡ i → ⊥) → (x : ℕ)
      → cond (within (i + 1) (i + 1 + n) j && not (eqb (f j) 0)) (f j) x ≡ cond (within i (i + 1 + n) j && not (eqb (f j) 0)) (f j) x
  same_range f j i n q x =
      by_range (i + 1) (i + 1 + n) j (λ t a b. rw (t, inside i (i + 1 + n) j (omega arith) (omega arith)))
      (λ t a. rw (t, outside i (i + 1 + n) j (λ b d. a (omega arith) (omega arith))))

  -- the page of each number
  pub after_page : (f : ℕ → ℕ) (n i : ℕ) (g : File) (j : ℕ)
      → (after g (stretches f n i)).page j ≡ cond (within i (i + n) j && not (eqb (f j) 0)) (f j) (g.page j)
  unfolding stretches stretch_entries foldl
  after_page f zero i g j = rw (outside i (i + 0) j (λ a b. omega arith))
  after_page f (suc n) i g j =
      let s : i + suc n ≡ i + 1 + n = omega arith in
      by_eq (f i) 0
      (λ e. rw (stretches, eq-eqb _ _ e, s) (after_page f n (i + 1) g j ∙ by_eq j i
      (λ q. rw (q, eq-eqb _ _ e, outside (i + 1) (i + 1 + n) i (λ a b. omega arith), inside i (i + 1 + n) i (omega arith) (omega arith)))
      (λ q. same_range f j i n q (g.page j))))
      (λ e. rw (stretches, ne_eqb _ _ e, s) (ap (λ (h : File). h.page j) (after_ahead g i (f i) (stretches f n (i + 1)))
      ∙ after_page f n (i + 1) (file_step g (write_entry i (f i) 1 z)) j ∙ by_eq j i
      (λ q. rw (q, ne_eqb _ _ e, outside (i + 1) (i + 1 + n) i (λ a b. omega arith), inside i (i + 1 + n) i (omega arith) (omega arith)) (first_page g i (f i)))
      (λ q. rw (other_page g i (f i) j q) (same_range f j i n q (g.page j)))))

  -- the size
  pub after_size : (ss : List Stretch) (g : File) → g.size ≡ z → (after g ss).size ≡ z
  unfolding stretch_entries foldl file_step
  after_size [] g e = e
  after_size (s ∷ ss) g e = rw (after_cons g s ss) (after_size ss _ refl)

  pub after_some : (ss : List Stretch) (g : File) → (length ss ≡ 0 → ⊥) → (after g ss).size ≡ z
  unfolding file_step
  after_some [] g n = absurd (n refl)
  after_some (s ∷ ss) g n = rw (after_cons g s ss) (after_size ss _ refl)

-- a number that stands somewhere gives a stretch
ahead_some : (i p : ℕ) (ss : List Stretch) → length (ahead i p ss) ≡ 0 → ⊥
unfolding ahead
ahead_some i p [] e = omega arith
ahead_some i p (s ∷ ss) e =
    by_bool (eqb s.first (i + 1) && eqb s.page (p + 1)) (λ t. let z = rw t at e in omega arith) (λ t. let z = rw t at e in omega arith)

pub stretches_some : (f : ℕ → ℕ) (n i : ℕ) → 1 ≤ n → (f i ≡ 0 → ⊥) → length (stretches f n i) ≡ 0 → ⊥
unfolding stretches
stretches_some f zero i l h e = omega arith
stretches_some f (suc n) i l h e = ahead_some i (f i) (stretches f n (i + 1)) (rw (stretches, ne_eqb _ _ h) at e)

-- consecutive numbers on consecutive pages give one
pub one_stretch : (f : ℕ → ℕ) (n i p : ℕ) → 1 ≤ n → 1 ≤ p → ((t : ℕ) → t < n → f (i + t) ≡ p + t)
    → stretches f n i ≡ record { first = i; page = p; count = n } ∷ []
unfolding stretches ahead
one_stretch f zero i p l h g = absurd (omega arith)
one_stretch f (suc zero) i p l h g =
    let e : f i ≡ p = rw (add-zero i, add-zero p) at (g 0 (omega arith)) in rw (e, ne_eqb p 0 (omega arith))
one_stretch f (suc (suc n)) i p l h g =
    let e : f i ≡ p = rw (add-zero i, add-zero p) at (g 0 (omega arith)) in
    let r = one_stretch f (suc n) (i + 1) (p + 1) (omega arith) (omega arith)
    (λ t k. let a : i + 1 + t ≡ i + suc t = omega arith in rw a (g (suc t) (omega arith) ∙ omega arith)) in
    rw (stretches, e, ne_eqb p 0 (omega arith), r, ahead, e, eq-eqb (i + 1) (i + 1) refl, eq-eqb (p + 1) (p + 1) refl)
    (ap (λ c. record { first = i; page = p; count = c } ∷ []) (omega arith))

-- What holds of each stretch: it has numbers among the n from i on, and stands where they stand.
pub record Stands (f : ℕ → ℕ) (n i : ℕ) (s : Stretch) : Type 0 where
  pub some : 1 ≤ s.count
  pub there : 1 ≤ s.page
  pub from : i ≤ s.first
  pub to : s.first + s.count ≤ i + n
  pub on : (t : ℕ) → t < s.count → f (s.first + t) ≡ s.page + t

abbrev pub Each : (Stretch → Type 0) → List Stretch → Type 0
Each Q [] = Unit {0}
Each Q (s ∷ ss) = Q s × Each Q ss

pub each_imp : {Q R : Stretch → Type 0} → ((s : Stretch) → Q s → R s) → (ss : List Stretch) → Each Q ss → Each R ss
each_imp h [] e = tt
each_imp h (s ∷ ss) e = (h s e.0, each_imp h ss e.1)

module _ (f : ℕ → ℕ) where
  wider : (n i : ℕ) (s : Stretch) → Stands f n (i + 1) s → Stands f (suc n) i s
  wider n i s a = record { some = a.some; there = a.there; from = omega (arith, a.from); to = omega (arith, a.to); on = a.on }

  alone : (n i : ℕ) → 1 ≤ f i → Stands f (suc n) i (record { first = i; page = f i; count = 1 })
  alone n i h =
      record {
        some = omega arith;
        there = h;
        from = omega arith;
        to = omega arith;
        on = λ t l. let z : t ≡ 0 = omega arith in rw (z, add-zero i, add-zero (f i));
      }

  stands_ahead : (n i : ℕ) (ss : List Stretch) → 1 ≤ f i → Each (Stands f n (i + 1)) ss → Each (Stands f (suc n) i) (ahead i (f i) ss)
  unfolding ahead
  stands_ahead n i [] p e = (alone n i p, tt)
  stands_ahead n i (s ∷ ss) p e =
      by_bool (eqb s.first (i + 1) && eqb s.page (f i + 1))
      (λ t.
      let a : s.first ≡ i + 1 = eqb-true _ _ (search ands) in
      let b : s.page ≡ f i + 1 = eqb-true _ _ (search ands) in
      let h = e.0 in
      rw t (
        record {
          some = omega arith;
          there = p;
          from = omega arith;
          to = omega (arith, h.to);
          on = λ u l. by_eq u 0 (λ q. rw (q, add-zero i, add-zero (f i)))
              (λ q. let k : i + u ≡ s.first + (u - 1) = omega arith in rw k (h.on (u - 1) (omega arith) ∙ omega arith));
        },
        each_imp (wider n i) ss e.1,
      ))
      (λ t. rw t (alone n i p, (wider n i s e.0, each_imp (wider n i) ss e.1)))

  pub stretches_stand : (n i : ℕ) → Each (Stands f n i) (stretches f n i)
  unfolding stretches
  stretches_stand zero i = tt
  stretches_stand (suc n) i =
      by_eq (f i) 0 (λ e. rw (stretches, eq-eqb _ _ e) (each_imp (wider n i) (stretches f n (i + 1)) (stretches_stand n (i + 1))))
      (λ e. rw (stretches, ne_eqb _ _ e) (stands_ahead n i (stretches f n (i + 1)) (omega arith) (stretches_stand n (i + 1))))

  -- how many
  length_ahead : (i p : ℕ) (ss : List Stretch) → length (ahead i p ss) ≤ length ss + 1
  unfolding ahead
  length_ahead i p [] = omega arith
  length_ahead i p (s ∷ ss) = by_bool (eqb s.first (i + 1) && eqb s.page (p + 1)) (λ t. rw t (omega arith)) (λ t. rw t (omega arith))

  pub stretches_length : (n i : ℕ) → length (stretches f n i) ≤ n
  unfolding stretches
  stretches_length zero i = omega arith
  stretches_length (suc n) i =
      let r = stretches_length n (i + 1) in
      by_eq (f i) 0 (λ e. rw (stretches, eq-eqb _ _ e) (omega arith))
      (λ e. let h = length_ahead i (f i) (stretches f n (i + 1)) in rw (stretches, ne_eqb _ _ e) (omega arith))

-- The first of them, taken off: c numbers from i on, if they stand on consecutive pages and the next does not go on from them.
module _ (f : ℕ → ℕ) where
  -- number i does not lengthen the stretches behind it
  pub ahead_alone : (n i : ℕ) (ss : List Stretch) → Each (Stands f n (i + 1)) ss → (1 ≤ n → f (i + 1) ≡ f i + 1 → ⊥)
      → ahead i (f i) ss ≡ record { first = i; page = f i; count = 1 } ∷ ss
  unfolding ahead
  ahead_alone n i [] e h = refl
  ahead_alone n i (s ∷ ss) e h =
      by_bool (eqb s.first (i + 1) && eqb s.page (f i + 1))
      (λ t.
      let a : s.first ≡ i + 1 = eqb-true _ _ (search ands) in
      let b : s.page ≡ f i + 1 = eqb-true _ _ (search ands) in
      let g = e.0 in
      let c = g.some in
      let d = rw (a, add-zero (i + 1), add-zero s.page) at (g.on 0 (omega arith)) in
      absurd (h (omega (arith, g.to)) (d ∙ b)))
      (λ t. rw t)

  pub first_stretch : (c n i : ℕ) → 1 ≤ c → c ≤ n → 1 ≤ f i → ((t : ℕ) → t < c → f (i + t) ≡ f i + t) → (c < n → f (i + c) ≡ f i + c → ⊥)
      → stretches f n i ≡ record { first = i; page = f i; count = c } ∷ stretches f (n - c) (i + c)
  unfolding stretches ahead
  first_stretch zero n i l m p on end = absurd (omega arith)
  first_stretch (suc c) zero i l m p on end = absurd (omega arith)
  first_stretch (suc zero) (suc n) i l m p on end =
      let a : suc n - 1 ≡ n = omega arith in
      rw (stretches, ne_eqb (f i) 0 (omega arith), a)
      (ahead_alone n i (stretches f n (i + 1)) (stretches_stand f n (i + 1)) (λ k. end (omega arith)))
  first_stretch (suc (suc c)) (suc n) i l m p on end =
      let e : f (i + 1) ≡ f i + 1 = on 1 (omega arith) in
      let r = first_stretch (suc c) n (i + 1) (omega arith) (omega arith) (omega arith)
      (λ t k. let a : i + 1 + t ≡ i + (t + 1) = omega arith in rw a (on (t + 1) (omega arith) ∙ omega arith))
      (λ k g. end (omega arith) (let a : i + suc (suc c) ≡ i + 1 + suc c = omega arith in rw a (g ∙ omega arith))) in
      let a : n - suc c ≡ suc n - suc (suc c) = omega arith in
      let b : i + 1 + suc c ≡ i + suc (suc c) = omega arith in
      let d : suc c + 1 ≡ suc (suc c) = omega arith in
      rw (stretches, ne_eqb (f i) 0 (omega arith), r, ahead, eq-eqb (i + 1) (i + 1) refl, eq-eqb (f (i + 1)) (f i + 1) e, a, b, d)

-- Their entries are ones that a file's log may hold, where the pages lie in the volume.
module _ (P N z : ℕ) (small : z ≤ 65536) (f : ℕ → ℕ) (n i : ℕ) (short : i + n ≤ 128)
    (placed : (j : ℕ) → (f j ≡ 0) ⊎ ((N / 8 < f j) × (f j < P))) where
  entries_fit : (ss : List Stretch) → Each (Stands f n i) ss → all (file_entry_ok P N) (map decode (stretch_entries z ss)) ≡ true
  unfolding stretch_entries all
  entries_fit [] e = refl
  entries_fit (s ∷ ss) e =
      let h = e.0 in
      let c = h.some in
      let d = h.there in
      let a = h.on 0 (omega arith) in
      let b = h.on (s.count - 1) (omega arith) in
      let p : (N / 8 < s.page) × (s.page < P) = ⊎_elim (λ q. absurd (omega arith)) (λ q. omega arith) (placed (s.first + 0)) in
      let l : (N / 8 < s.page + (s.count - 1)) × (s.page + (s.count - 1) < P)
      = ⊎_elim (λ q. absurd (omega arith)) (λ q. omega arith) (placed (s.first + (s.count - 1))) in
      rw (decode_write, write_ok P N s.first s.page s.count z c (omega (arith, h.to)) p.0 (omega (arith, l.1)) small) (entries_fit ss e.1)

  pub stretches_fit : all (file_entry_ok P N) (map decode (stretch_entries z (stretches f n i))) ≡ true
  stretches_fit = entries_fit (stretches f n i) (stretches_stand f n i)
