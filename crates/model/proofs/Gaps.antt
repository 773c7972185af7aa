-- What is promised of the gaps is true of the longest stretches of any predicate that does not hold of 0: of no stretches, and of more by a
-- number ahead of them, whether it lengthens the first of them or not.
use Rattle.model.proofs.Prelude.{◌≡◌, refl, sym, ◌∙◌, ap, ℕ, zero, suc, ◌+◌, ◌≤◌, ◌<◌, Bool, false, cond, List, [], ◌∷◌, arith, add-zero, zero-add, add-one, length, eqb, ltb, eq-eqb, ne_eqb}
use Rattle.model.specs.Lists.{bit, sum_below}
use Rattle.model.specs.Words.{Mem, word}
use Rattle.model.specs.Journal.{view}
use Rattle.model.specs.Stretches.{stretches, stretches_of}
use Rattle.model.specs.Accept.{free, free_count, gaps}
use Rattle.model.specs.Answer.{done}
use Rattle.model.specs.Public.{gaps_in, gaps_answer}
use Rattle.model.specs.Promises.{Apart, holding, lengths, GapsDone}
use Rattle.model.proofs.Tests.{by_bool, by_eq, within, inside, outside, by_range}
use Rattle.model.proofs.Lists.{sum_below_same}
use Rattle.model.proofs.Calls.Room.{free_bounds, free_zero}
use Rattle.model.proofs.Counting.{held_first}
use Rattle.model.proofs.State.Gaps.{joined, pairs_step}
use Rattle.model.proofs.Reading.{passed, free_done}

-- one of the n + 1 numbers from i on is i or one of the n behind it
more_bit : (i n p : ℕ) → bit (within i (i + (n + 1)) p) ≡ bit (eqb p i) + bit (within (i + 1) (i + 1 + n) p)
unfolding bit
more_bit i n p =
    by_eq p i
    (λ e. rw (eq-eqb p i e, inside i (i + (n + 1)) p (omega arith) (omega arith), outside (i + 1) (i + 1 + n) p (λ a b. omega arith)))
    (λ e. rw (ne_eqb p i e) (by_range (i + 1) (i + 1 + n) p (λ t a b. rw (t, inside i (i + (n + 1)) p (omega arith) (omega arith)))
    (λ t a. rw (t, outside i (i + (n + 1)) p (λ b c. a (omega arith) (omega arith))))))

one_bit : (i p : ℕ) → bit (within i (i + 1) p) ≡ bit (eqb p i)
unfolding bit
one_bit i p = let a = rw (outside (i + 1) (i + 1 + 0) p (λ b c. omega arith)) at (more_bit i 0 p) in a ∙ add-zero _

within_all : (n p : ℕ) → p < n → bit (within 0 (0 + n) p) ≡ 1
unfolding bit
within_all n p l = rw (inside 0 (0 + n) p (omega arith) (omega arith))

-- Number i ahead of some pairs.

joined_holding : (p i : ℕ) (gs : List (ℕ × ℕ)) → holding p (joined i gs) ≡ bit (eqb p i) + holding p gs
joined_holding p i [] = rw (one_bit i p)
joined_holding p i (g ∷ gs) =
    by_eq g.0 (i + 1) (λ q. let a = more_bit i g.1 p in rw (eq-eqb _ _ q, q) (omega arith)) (λ q. rw (ne_eqb _ _ q, one_bit i p))

joined_lengths : (i : ℕ) (gs : List (ℕ × ℕ)) → lengths (joined i gs) ≡ 1 + lengths gs
joined_lengths i [] = refl
joined_lengths i (g ∷ gs) = by_bool (eqb g.0 (i + 1)) (λ e. rw e (omega arith)) (λ e. rw e (omega arith))

-- pairs from number i on
abbrev From : ℕ → List (ℕ × ℕ) → Type 0
From i [] = Unit {0}
From i (g ∷ gs) = i ≤ g.0

from_before : (i : ℕ) (gs : List (ℕ × ℕ)) → From (i + 1) gs → From i gs
from_before i [] l = tt
from_before i (g ∷ gs) l = omega arith

joined_apart : (i : ℕ) (gs : List (ℕ × ℕ)) → From (i + 1) gs → Apart gs → From i (joined i gs) × Apart (joined i gs)
joined_apart i [] l h = (omega arith, omega arith)
joined_apart i (g ∷ []) l h = by_eq g.0 (i + 1) (λ q. rw (eq-eqb _ _ q) (omega arith)) (λ q. rw (ne_eqb _ _ q) (omega arith))
joined_apart i (g ∷ k ∷ gs) l h =
    by_eq g.0 (i + 1) (λ q. rw (eq-eqb _ _ q) (omega arith, (omega arith, omega arith, h.2)))
    (λ q. rw (ne_eqb _ _ q) (omega arith, (omega arith, omega arith, h)))

-- The pairs of a predicate that does not hold of 0.
module _ (f : ℕ → Bool) (nowhere : f 0 ≡ false) where
  -- each of the numbers of which it holds lies in one, and every other in none
  pairs_holding : (p n i : ℕ) → holding p (stretches_of f n i) ≡ cond (f p) (bit (within i (i + n) p)) 0
  unfolding bit stretches_of stretches
  pairs_holding p zero i = rw (outside i (i + 0) p (λ a b. omega arith)) (by_bool (f p) (λ e. rw e) (λ e. rw e))
  pairs_holding p (suc n) i =
      let gs = stretches_of f n (i + 1) in
      let h = pairs_holding p n (i + 1) in
      let a : bit (within i (i + suc n) p) ≡ bit (eqb p i) + bit (within (i + 1) (i + 1 + n) p)
      = rw (add-one n) at (more_bit i n p) in
      rw (pairs_step f nowhere n i, a) (by_bool (f i)
      (λ e. rw (e, joined_holding p i gs, h) (by_eq p i (λ q. rw (q, e)) (λ q. rw (ne_eqb p i q, zero-add, zero-add))))
      (λ e. rw (e, h) (by_eq p i (λ q. rw (q, e)) (λ q. rw (ne_eqb p i q, zero-add)))))

  pairs_lengths : (n i : ℕ) → lengths (stretches_of f n i) ≡ sum_below n (λ j. bit (f (i + j)))
  unfolding stretches_of stretches sum_below bit
  pairs_lengths zero i = refl
  pairs_lengths (suc n) i =
      rw (pairs_step f nowhere n i, held_first f n i, ← (pairs_lengths n (i + 1)))
      (by_bool (f i) (λ e. rw e (joined_lengths i (stretches_of f n (i + 1)))) (λ e. rw e (omega arith)))

  pairs_apart : (n i : ℕ) → From i (stretches_of f n i) × Apart (stretches_of f n i)
  unfolding stretches_of stretches
  pairs_apart zero i = (tt, tt)
  pairs_apart (suc n) i =
      let gs = stretches_of f n (i + 1) in
      let r = pairs_apart n (i + 1) in
      rw (pairs_step f nowhere n i)
      (by_bool (f i) (λ e. rw e (joined_apart i gs r.0 r.1)) (λ e. rw e (from_before i gs r.0, r.1)))

-- The free pages.
module _ (u : Mem) (P N : ℕ) where
  gaps_apart : Apart (gaps u P N)
  unfolding gaps
  gaps_apart = (pairs_apart (free u P N) (free_zero u P N) _ 0).1

  gaps_holding : (p : ℕ) → holding p (gaps u P N) ≡ bit (free u P N p)
  unfolding gaps bit
  gaps_holding p =
      pairs_holding (free u P N) (free_zero u P N) p _ 0
      ∙ by_bool (free u P N p) (λ e. rw e (within_all _ p (free_bounds u P N p e).1)) (λ e. rw e)

  gaps_lengths : lengths (gaps u P N) ≡ free_count u P N
  unfolding gaps free_count
  gaps_lengths = pairs_lengths (free u P N) (free_zero u P N) P 0 ∙ sum_below_same P _ _ (λ j l. ap (λ p. bit (free u P N p)) (zero-add j))

pub gaps_done : GapsDone
unfolding gaps_answer gaps_in
gaps_done v a =
    let gs = gaps (view (word v)) (word v 0) (word v 1) in
    record {
      apart = gaps_apart _ _ _;
      each_once = gaps_holding _ _ _;
      add_up = λ o. free_done v a o ∙ ap done (sym (gaps_lengths _ _ _));
      answers = λ o n. rw (passed v a o) (by_bool (ltb n (length gs)) (λ e. rw e) (λ e. rw e));
    }
