-- The pages of two logs: the lowest ones left for the first, and behind them those for the second.
use Rattle.model.proofs.Prelude.{ℕ, zero, suc, ◌+◌, ◌≤◌, ◌<◌, ◌≡◌, refl, sym, fun_ext, Bool, false, and-true, List, [], ◌∷◌, ◌++◌, arith, zero-add, eq-eqb, ne_eqb}
use Rattle.model.specs.Lists.{lowest_few, has}
use Rattle.model.specs.Calls.{besides}
use Rattle.model.proofs.Tests.{by_bool}
use Rattle.model.proofs.Lists.{few_none}

-- The lowest a + n are the lowest a and then the lowest n of the others.

few_beyond : (f : ℕ → Bool) (t i n : ℕ) → f i ≡ false → lowest_few f (suc t) i n ≡ lowest_few f t (i + 1) n
unfolding lowest_few
few_beyond f t i zero e = sym (few_none f t (i + 1))
few_beyond f t i (suc n) e = rw e

few_same : (f g : ℕ → Bool) (t i n : ℕ) → ((p : ℕ) → i ≤ p → f p ≡ g p) → lowest_few f t i n ≡ lowest_few g t i n
unfolding lowest_few
few_same f g zero i n h = refl
few_same f g (suc t) i zero h = refl
few_same f g (suc t) i (suc n) h =
    rw (h i (omega arith), few_same f g t (i + 1) n (λ p l. h p (omega arith)), few_same f g t (i + 1) (suc n) (λ p l. h p (omega arith)))

has_behind : (p x : ℕ) (xs : List ℕ) → x < p → has p (x ∷ xs) ≡ has p xs
unfolding has
has_behind p x xs h = rw (ne_eqb p x (omega arith))

pub besides_none : (f : ℕ → Bool) → besides f [] ≡ f
unfolding besides has
besides_none f = fun_ext (λ p. and-true (f p))

pub few_split : (f : ℕ → Bool) (t i a n : ℕ) → lowest_few f t i (a + n) ≡ lowest_few f t i a ++ lowest_few (besides f (lowest_few f t i a)) t i n
unfolding lowest_few besides has
few_split f zero i a n = refl
few_split f (suc t) i zero n = rw (zero-add, besides_none f)
few_split f (suc t) i (suc a) n =
    let k : suc a + n ≡ suc (a + n) = omega arith in
    by_bool (f i)
    (λ e.
    let xs = lowest_few f t (i + 1) a in
    let w : besides f (i ∷ xs) i ≡ false = rw (besides, has, e, eq-eqb i i refl) in
    let s : lowest_few (besides f (i ∷ xs)) t (i + 1) n ≡ lowest_few (besides f xs) t (i + 1) n
    = few_same (besides f (i ∷ xs)) (besides f xs) t (i + 1) n (λ p l. rw (besides, has_behind p i xs (omega arith))) in
    rw (k, e, few_beyond (besides f (i ∷ xs)) t i n w, s, few_split f t (i + 1) a n))
    (λ e.
    let xs = lowest_few f t (i + 1) (suc a) in
    let w : besides f xs i ≡ false = rw (besides, e) in
    rw (k, e, few_beyond (besides f xs) t i n w, ← few_split f t (i + 1) (suc a) n, k))
