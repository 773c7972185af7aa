-- The lowest few numbers below P of which f holds are the lowest of them and, behind it, the lowest few less one.
use Rattle.model.proofs.Prelude.{ℕ, zero, suc, ◌+◌, ◌-◌, ◌≤◌, ◌<◌, ◌≡◌, refl, sym, Bool, cond, [], ◌∷◌, none, some, arith, add-one}
use Rattle.model.specs.Lists.{lowest, lowest_few}
use Rattle.model.proofs.Tests.{by_bool, not_some}
use Rattle.model.proofs.Lists.{few_none}

module _ (f : ℕ → Bool) (P : ℕ) where
  few_end : (s n : ℕ) → P ≤ s → lowest_few f (P - s) s n ≡ []
  unfolding lowest_few
  few_end s n l = let z : P - s ≡ 0 = omega arith in rw z

  few_turn : (s n m : ℕ) → s < P → n ≡ m + 1
      → lowest_few f (P - s) s n ≡ cond (f s) (s ∷ lowest_few f (P - (s + 1)) (s + 1) m) (lowest_few f (P - (s + 1)) (s + 1) n)
  unfolding lowest_few
  few_turn s n m l e = let a : P - s ≡ suc (P - (s + 1)) = omega arith in rw (a, e, add-one m)

  -- p is the page that `next_free` answers from a page on: it is one of those that are sought, and the others follow it
  next_from : (t s n p : ℕ) → t ≡ P - s → lowest f t s ≡ some p
      → (lowest_few f (P - s) s (n + 1) ≡ p ∷ lowest_few f (P - (p + 1)) (p + 1) n) × (s ≤ p)
  unfolding lowest
  next_from zero s n p a e = not_some p e
  next_from (suc t) s n p a e =
      by_bool (f s)
      (λ x. let z : some s ≡ some p = rw (lowest, x) at e in let q : s ≡ p = cc in
      (rw (← q, few_turn s (n + 1) n (omega arith) refl, x), omega arith))
      (λ x. let w = rw x at (few_turn s (n + 1) n (omega arith) refl) in
      let r = next_from t (s + 1) n p (omega arith) (rw (lowest, x) at e) in (rw w r.0, omega arith))

  pub few_next : (from n p : ℕ) → lowest f (P - from) from ≡ some p
      → (lowest_few f (P - from) from (n + 1) ≡ p ∷ lowest_few f (P - (p + 1)) (p + 1) n) × (from ≤ p)
  few_next from n p = next_from (P - from) from n p refl

  -- where it answers that there is none, none is found
  none_from : (t s n : ℕ) → t ≡ P - s → lowest f t s ≡ none → lowest_few f (P - s) s n ≡ []
  unfolding lowest
  none_from zero s n a e = few_end s n (omega arith)
  none_from (suc t) s zero a e = few_none f (P - s) s
  none_from (suc t) s (suc n) a e =
      by_bool (f s)
      (λ x. not_some s (sym (rw (lowest, x) at e)))
      (λ x. rw (few_turn s (suc n) n (omega arith) (omega arith), x) (none_from t (s + 1) (suc n) (omega arith) (rw (lowest, x) at e)))

  pub few_nowhere : (from n : ℕ) → lowest f (P - from) from ≡ none → lowest_few f (P - from) from n ≡ []
  few_nowhere from n = none_from (P - from) from n refl
