-- The gaps from a page on: the lowest unmarked page begins the first of them, which goes on up to the next page that is marked.
use Rattle.model.proofs.Prelude.{ℕ, zero, suc, ◌+◌, ◌-◌, ◌^◌, ◌≤◌, ◌<◌, ◌≡◌, refl, sym, ◌∙◌, Bool, true, false, not, List, [], ◌∷◌, map, none, some, ap, arith, not-true, not-false, le_trans, add-zero, length, length-map}
use Rattle.std.specs.Prelude.{Result, Ok}
use Rattle.model.specs.Lists.{lowest}
use Rattle.model.specs.Words.{word}
use Rattle.model.specs.Stretches.{stretches_of}
use Rattle.model.proofs.Tests.{by_bool, by_eq, clash}
use Rattle.model.proofs.Frame.Placed.{zero_outside}
use Rattle.model.proofs.State.Stretches.{stretches_length}
use Rattle.model.proofs.State.Gaps.{pairs_none, pairs_skip, pairs_next}
use Rattle.marks.specs.Marks.{unmarked}
use Rattle.layout.specs.declared.Sizes.{Sizes}
use Rattle.answer.specs.declared.Refusal.{Refusal}
use Rattle.gaps.specs.Gaps.{Runs, gap_of, gaps_left, gaps_ahead, counted}
use Rattle.gaps.specs.declared.Gap.{Gap}

-- The loop of `run_length`: f holds of the numbers from p to q, q itself left out. x says whether it holds of q.

pub record Running (f : ℕ → Bool) (P p q : ℕ) : Type 0 where
  pub from : p ≤ q
  pub to : q ≤ P
  pub on : (j : ℕ) → p ≤ j → j < q → f j ≡ true

module _ (f : ℕ → Bool) (P p : ℕ) where
  pub running_none : p ≤ P → Running f P p p
  running_none h = record { from = omega arith; to = h; on = λ j k l. absurd (omega arith) }

  module _ (q : ℕ) (y : Running f P p q) where
    behind : p + (q - p) ≡ q
    behind = let h = y.from in omega arith

    on_run : (j : ℕ) → j < q - p → f (p + j) ≡ true
    on_run j l = y.on (p + j) (omega arith) (omega arith)

    pub run_end : P ≤ q → Runs f P p (q - p)
    run_end h = let t = y.to in let e = behind in record { to = omega arith; on = on_run; longest = λ l. absurd (omega arith) }

    module _ (x : Bool) (e : x ≡ f q) where
      pub run_stopped : not x ≡ true → Runs f P p (q - p)
      run_stopped z = let t = y.to in let o = behind in record { to = omega arith; on = on_run; longest = λ l. rw o (sym e ∙ not-true x z) }

      pub running_next : q < P → not x ≡ false → Running f P p (q + 1)
      running_next l z =
          let h = y.from in
          record {
            from = omega arith;
            to = omega arith;
            on = λ j i k. by_eq j q (λ o. rw o (sym e ∙ not-false x z)) (λ o. y.on j i (omega arith));
          }

-- From page s on there is no page of which f holds, or p is the lowest one.

module _ (f : ℕ → Bool) (P : ℕ) where
  from_none : (t s : ℕ) → t ≡ P - s → none ≡ lowest f t s → stretches_of f (P - s) s ≡ []
  unfolding lowest
  from_none zero s a e = pairs_none f P s (omega arith)
  from_none (suc t) s a e =
      by_bool (f s) (λ x. absurd (let q : none ≡ some s = rw (lowest, x) at e in let z : ◌≡◌ {A = ℕ} 0 1 = cc in omega arith))
      (λ x. pairs_skip f P s x ∙ from_none t (s + 1) (omega arith) (rw (lowest, x) at e))

  from_lowest : (t s p : ℕ) → t ≡ P - s → some p ≡ lowest f t s → (stretches_of f (P - s) s ≡ stretches_of f (P - p) p) × (f p ≡ true)
  unfolding lowest
  from_lowest zero s p a e = absurd (let z : ◌≡◌ {A = ℕ} 0 1 = cc in omega arith)
  from_lowest (suc t) s p a e =
      by_bool (f s) (λ x. let q : some p ≡ some s = rw (lowest, x) at e in let z : p ≡ s = cc in (rw z, rw z x))
      (λ x. let r = from_lowest t (s + 1) p (omega arith) (rw (lowest, x) at e) in (pairs_skip f P s x ∙ r.0, r.1))

-- page 0 holds no data
pub none_first : (b : List ℕ) (P N : ℕ) → unmarked b P N 0 ≡ false
unfolding unmarked
none_first b P N = rw (zero_outside P N)

-- `next`: q is the page that the search goes on from; p is the page that it finds, and c what `run_length` answered.
module _ (b : List ℕ) (s : Sizes) (q : ℕ) where
  abbrev f : ℕ → Bool
  f = unmarked b s.pages s.inodes

  pub ahead_none : none ≡ lowest f (s.pages - q) q → gaps_ahead b s q ≡ []
  ahead_none e = ap (map gap_of) (from_none f s.pages (s.pages - q) q refl e)

  module _ (p : ℕ) (e : some p ≡ lowest f (s.pages - q) q) (l : p < s.pages) (c : ℕ) (u : Runs f s.pages p c) where
    some_pages : 0 < c
    some_pages =
        by_eq c 0
        (λ z. let h = from_lowest f s.pages (s.pages - q) q p refl e in
        clash (f p) h.1 (rw (z, add-zero p) at (u.longest (rw (z, add-zero p) l))))
        (λ z. omega arith)

    pub ahead_next : gaps_ahead b s q ≡ record { first = p; length = c } ∷ gaps_ahead b s (p + c)
    ahead_next =
        ap (map gap_of)
        ((from_lowest f s.pages (s.pages - q) q p refl e).0
        ∙ pairs_next f (none_first b s.pages s.inodes) s.pages p c some_pages u.to u.on u.longest)

    pub ahead_less : length (gaps_ahead b s (p + c)) < length (gaps_ahead b s q)
    ahead_less = let n = ap length ahead_next in omega (arith, n)

-- the marks show few gaps
pub few_left : (v b : List ℕ) (p : ℕ) → word v 0 ≤ 4096 → length (gaps_left v b p) ≤ 4096
unfolding stretches_of
few_left v b p h = rw length-map (le_trans (stretches_length _ (word v 0 - p) p) (omega arith))

pub few_gaps : (v b : List ℕ) (p : ℕ) (gs : List Gap) → gs ≡ map gap_of (gaps_left v b p) → word v 0 ≤ 4096 → 0 + length gs < 2 ^ 64
few_gaps v b p gs e h = let l = few_left v b p h in rw (e, length-map) (omega arith)

-- an answer that is a number has its own count
pub one_count : (r : Result ℕ Refusal) (n : ℕ) → r ≡ Ok n → n ≡ counted r
one_count r n e = rw e
