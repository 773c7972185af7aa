-- The cases of the search for a run: a page that may not be taken ends every run that would hold it, so that the search goes on behind it.
use Rattle.model.proofs.Prelude.{ℕ, zero, suc, ◌+◌, ◌-◌, ◌/◌, ◌≤◌, ◌<◌, ◌≡◌, refl, ap, Bool, true, false, List, arith, sub-zero, ltb, le-ltb}
use Rattle.model.specs.Lists.{all_below, lowest, or_else}
use Rattle.model.specs.Layout.{in_pages}
use Rattle.model.specs.Calls.{lowest_run}
use Rattle.model.proofs.Tests.{by_bool, clash, not_true_false}
use Rattle.model.proofs.Lists.{all_below_at}
use Rattle.marks.specs.Marks.{unmarked}
use Rattle.space.proofs.Lowest.{lowest_found, lowest_past, lowest_nowhere}

-- whether a run of n pages starts at page p
abbrev is_run : (ℕ → Bool) → ℕ → ℕ → Bool
is_run f n p = all_below n (λ i. f (p + i))

-- the run of no pages starts at page 0
pub run_of_none : (f : ℕ → Bool) (P n : ℕ) → n ≡ 0 → 0 ≡ or_else (lowest_run f P n) 0
unfolding lowest_run lowest all_below
run_of_none f zero n e = refl
run_of_none f (suc P) n e = rw e

-- page P is no page of the volume
pub past_end : (b : List ℕ) (P N : ℕ) → unmarked b P N P ≡ false
unfolding unmarked in_pages
past_end b P N = by_bool (ltb (N / 8) P) (λ e. rw (e, le-ltb P P (omega arith))) (λ e. rw e)

-- a run holds no page that may not be taken
no_run : (f : ℕ → Bool) (n e q : ℕ) → f e ≡ false → q ≤ e → e < q + n → is_run f n q ≡ false
no_run f n e q m l k =
    let g : q + (e - q) ≡ e = omega arith in
    not_true_false _ (λ t. clash _ (rw g at (all_below_at n (e - q) (λ i. f (q + i)) t (omega arith))) m)

-- The loop of `search_start`: the k pages before page p may be taken, and the search from the first of them on finds what the whole search
-- finds.
pub record Begun (f : ℕ → Bool) (P n p k : ℕ) : Type 0 where
  pub few : k ≤ p
  pub run : is_run f k (p - k) ≡ true
  pub rest : lowest (is_run f n) (P - (p - k)) (p - k) ≡ lowest_run f P n

module _ (f : ℕ → Bool) (P n : ℕ) where
  pub begun_none : Begun f P n 0 0
  unfolding all_below lowest_run
  begun_none = record { few = omega arith; run = refl; rest = rw sub-zero }

  module _ (p k : ℕ) (y : Begun f P n p k) where
    abbrev s : ℕ
    s = p - k

    -- no run starts from s up to t, since page e may not be taken and each of them would hold it
    rest_from : (e t : ℕ) → f e ≡ false → e < s + n → t ≤ e + 1 → s ≤ t → t ≤ P → lowest (is_run f n) (P - t) t ≡ lowest_run f P n
    rest_from e t m l h i j =
        lowest_past (is_run f n) P (t - s) s t _ (omega arith) j (λ q a c. no_run f n e q m (omega arith) (omega arith)) y.rest

    pub begun_nowhere : p ≡ P → k < n → f P ≡ false → 0 ≡ or_else (lowest_run f P n) 0
    begun_nowhere i q m =
        let few = y.few in
        ap (λ o. or_else o 0)
        (lowest_nowhere (is_run f n) P P _ (rest_from P P m (omega arith) (omega arith) (omega arith) (omega arith)) (omega arith))

    one_more : f p ≡ true → is_run f (k + 1) s ≡ true
    unfolding all_below
    one_more t =
        let few = y.few in
        let g : k + 1 ≡ suc k = omega arith in
        let h : s + k ≡ p = omega arith in
        rw (g, all_below, h, t) y.run

    pub begun_longer : f p ≡ true → Begun f P n (p + 1) (k + 1)
    begun_longer t =
        let few = y.few in
        let g : p + 1 - (k + 1) ≡ s = omega arith in
        record { few = omega arith; run = rw g (one_more t); rest = rw g y.rest }

    pub begun_found : f p ≡ true → k + 1 ≡ n → p < P → p + 1 - (k + 1) ≡ or_else (lowest_run f P n) 0
    begun_found t q l =
        let g : p + 1 - (k + 1) ≡ s = omega arith in
        rw g (ap (λ o. or_else o 0) (lowest_found (is_run f n) P s _ y.rest (omega arith) (rw q at (one_more t))))

    pub begun_behind : f p ≡ false → k < n → p < P → Begun f P n (p + 1) 0
    unfolding all_below
    begun_behind m q l =
        let few = y.few in
        let g : p + 1 - 0 ≡ p + 1 = omega arith in
        record { few = omega arith; run = refl; rest = rw g (rest_from p (p + 1) m (omega arith) (omega arith) (omega arith) (omega arith)) }
