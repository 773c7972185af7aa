-- The longest stretches of a predicate, as pairs, from a number on and from behind it on: each law is one of `stretches`, where every
-- number of which the predicate holds stands on itself.
use Rattle.model.proofs.Prelude.{◌≡◌, refl, sym, ◌∙◌, ap, ℕ, suc, ◌+◌, ◌-◌, ◌≤◌, ◌<◌, Bool, true, false, cond, List, [], ◌∷◌, map, arith, add-zero, eqb, eq-eqb, ne_eqb}
use Rattle.model.specs.Stretches.{Stretch, ahead, stretches, stretches_of}
use Rattle.model.proofs.Tests.{by_bool, by_eq, by_lt, clash}
use Rattle.model.proofs.State.Stretches.{Stands, Each, stretches_stand, first_stretch}

abbrev pair : Stretch → ℕ × ℕ
pair s = (s.first, s.count)

-- where each number stands
abbrev on : (ℕ → Bool) → ℕ → ℕ
on f p = cond (f p) p 0

-- number i ahead of some pairs: it lengthens the first of them, where that goes on from it
abbrev pub joined : ℕ → List (ℕ × ℕ) → List (ℕ × ℕ)
joined i [] = (i, 1) ∷ []
joined i (g ∷ gs) = cond (eqb g.0 (i + 1)) ((i, g.1 + 1) ∷ gs) ((i, 1) ∷ g ∷ gs)

-- The pairs of the pages i to P − 1.
module _ (f : ℕ → Bool) where
  -- where there are no such pages
  pub pairs_none : (P i : ℕ) → P ≤ i → stretches_of f (P - i) i ≡ []
  unfolding stretches_of stretches
  pairs_none P i l = let e : P - i ≡ 0 = omega arith in rw e

  -- where f does not hold of the first
  pub pairs_skip : (P i : ℕ) → f i ≡ false → stretches_of f (P - i) i ≡ stretches_of f (P - (i + 1)) (i + 1)
  unfolding stretches_of stretches
  pairs_skip P i e =
      by_lt i P (λ l. let s : P - i ≡ suc (P - (i + 1)) = omega arith in rw (s, stretches, e))
      (λ l. rw (pairs_none P i l, pairs_none P (i + 1) (omega arith)))

module _ (f : ℕ → Bool) (nowhere : f 0 ≡ false) where
  not_zero : (i : ℕ) → f i ≡ true → i ≡ 0 → ⊥
  not_zero i e q = clash (f 0) (rw q at e) nowhere

  -- where f holds of the first c, and not of the next
  pub pairs_next : (P i c : ℕ) → 1 ≤ c → i + c ≤ P → ((t : ℕ) → t < c → f (i + t) ≡ true) → (i + c < P → f (i + c) ≡ false)
      → stretches_of f (P - i) i ≡ (i, c) ∷ stretches_of f (P - (i + c)) (i + c)
  unfolding stretches_of
  pairs_next P i c l m h e =
      let a : f i ≡ true = rw add-zero at (h 0 l) in
      let b = not_zero i a in
      let r : P - i - c ≡ P - (i + c) = omega arith in
      ap (map pair) (first_stretch (on f) c (P - i) i l (omega arith) (rw a (omega arith)) (λ t k. rw (a, h t k))
      (λ k q. let d = rw (a, e (omega arith)) at q in omega arith)) ∙ rw r

  joins : (n i : ℕ) (ss : List Stretch) → Each (Stands (on f) n (i + 1)) ss → map pair (ahead i i ss) ≡ joined i (map pair ss)
  unfolding ahead
  joins n i [] e = refl
  joins n i (s ∷ ss) e =
      let h = e.0 in
      let a = rw (add-zero s.first, add-zero s.page) at (h.on 0 h.some) in
      let b : s.page ≡ s.first
      = by_bool (f s.first) (λ t. sym (rw t at a)) (λ t. let c = h.there in let d = rw t at a in omega arith) in
      rw b (by_eq s.first (i + 1) (λ q. rw (eq-eqb _ _ q)) (λ q. rw (ne_eqb _ _ q)))

  -- one number more
  pub pairs_step : (n i : ℕ) → stretches_of f (suc n) i ≡ cond (f i) (joined i (stretches_of f n (i + 1))) (stretches_of f n (i + 1))
  unfolding stretches_of stretches
  pairs_step n i =
      by_bool (f i)
      (λ e. rw (stretches, e, ne_eqb i 0 (not_zero i e)) (joins n i (stretches (on f) n (i + 1)) (stretches_stand (on f) n (i + 1))))
      (λ e. rw (stretches, e))
