-- Longest stretches. Numbers stand on pages: file pages on data pages, or pages on themselves.
use Rattle.std.specs.Prelude.{ℕ, zero, suc, ◌+◌, Bool, cond, ◌&&◌, List, [], ◌∷◌, map, eqb}

-- `count` consecutive numbers from `first` on, on as many consecutive pages from `page` on
pub record Stretch : Type 0 where
  pub first : ℕ
  pub page : ℕ
  pub count : ℕ

-- number i, which stands on page p, before some stretches: it lengthens the first of them, where that goes on from it
unfoldable pub ahead : ℕ → ℕ → List Stretch → List Stretch
ahead i p [] = record { first = i; page = p; count = 1 } ∷ []
ahead i p (s ∷ ss) =
    cond (eqb s.first (i + 1) && eqb s.page (p + 1)) (record { first = i; page = p; count = s.count + 1 } ∷ ss)
    (record { first = i; page = p; count = 1 } ∷ s ∷ ss)

-- the longest stretches of n numbers from i on, ascending: number j stands on page f j, and nowhere where f j is 0
unfoldable pub stretches : (ℕ → ℕ) → ℕ → ℕ → List Stretch
stretches f zero i = []
stretches f (suc n) i = let r = stretches f n (i + 1) in cond (eqb (f i) 0) r (ahead i (f i) r)

-- the longest stretches of those of the n numbers from i on of which f holds, ascending, as pairs of first number and length: each number
-- stands on itself, and 0 nowhere
unfoldable pub stretches_of : (ℕ → Bool) → ℕ → ℕ → List (ℕ × ℕ)
stretches_of f n i = map (λ s. (s.first, s.count)) (stretches (λ p. cond (f p) p 0) n i)
