-- The cases of a search for the lowest number below P of which f holds: it is found, is sought further on, or is nowhere.
use Rattle.model.proofs.Prelude.{ℕ, zero, suc, ◌+◌, ◌-◌, ◌≤◌, ◌<◌, ◌≡◌, Bool, true, false, Option, none, some, arith}
use Rattle.model.specs.Lists.{lowest}

-- The search from s on finds o, what the whole search finds.
module _ (f : ℕ → Bool) (P s : ℕ) (o : Option ℕ) (y : lowest f (P - s) s ≡ o) where
  pub lowest_nowhere : P ≤ s → none ≡ o
  unfolding lowest
  lowest_nowhere l = let z : P - s ≡ 0 = omega arith in rw (← y, z)

  module _ (l : s < P) where
    fuel : P - s ≡ suc (P - (s + 1))
    fuel = omega arith

    pub lowest_found : f s ≡ true → some s ≡ o
    unfolding lowest
    lowest_found t = rw (← y, fuel, lowest, t)

    pub lowest_on : f s ≡ false → lowest f (P - (s + 1)) (s + 1) ≡ o
    unfolding lowest
    lowest_on t = rw (fuel, lowest, t) at y

-- behind n numbers of which f does not hold, which end before e
pub lowest_past : (f : ℕ → Bool) (P n s e : ℕ) (o : Option ℕ) → e ≡ s + n → e ≤ P → ((q : ℕ) → s ≤ q → q < e → f q ≡ false)
    → lowest f (P - s) s ≡ o → lowest f (P - e) e ≡ o
lowest_past f P zero s e o a l h y = let b : e ≡ s = omega arith in rw b y
lowest_past f P (suc n) s e o a l h y =
    lowest_past f P n (s + 1) e o (omega arith) l (λ q i j. h q (omega arith) j)
    (lowest_on f P s o y (omega arith) (h s (omega arith) (omega arith)))
