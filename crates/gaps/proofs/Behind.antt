-- What a caller that asks for the gaps behind a gap knows of them: where they end, and that those behind the first one lie from its end on.
use Rattle.model.proofs.Prelude.{ℕ, zero, suc, ◌+◌, ◌-◌, ◌≤◌, ◌≡◌, refl, ap, Bool, false, cond, List, [], ◌∷◌, map, length, arith, eq-eqb, ne_eqb}
use Rattle.std.proofs.lemmas.List.Elements.{All-nil, All-cons}
use Rattle.model.specs.Stretches.{Stretch, stretches, stretches_of}
use Rattle.model.proofs.Tests.{by_bool, by_eq, by_lt}
use Rattle.model.proofs.State.Stretches.{Each, Stands, stretches_stand}
use Rattle.model.proofs.State.Gaps.{joined, pairs_none, pairs_step}
use Rattle.model.specs.Words.{word}
use Rattle.marks.specs.Marks.{unmarked}
use Rattle.gaps.specs.Gaps.{gap_of, gap_end, gaps_left, EndBy}
use Rattle.gaps.proofs.Found.{none_first}
use Rattle.gaps.specs.declared.Gap.{Gap}

-- the gap before the first one
abbrev pub no_gap : Gap
no_gap = record { first = 0; length = 0 }

-- the gaps behind it are all gaps
pub all_behind : (v b : List ℕ) → gaps_left v b (gap_end no_gap) ≡ gaps_left v b 0
all_behind v b = refl

-- the stretches of the n numbers from i on end at number P or before it
stretches_end : (f : ℕ → ℕ) (P n i : ℕ) → i + n ≤ P → (ss : List Stretch) → Each (Stands f n i) ss
    → EndBy P (map gap_of (map (λ s. (s.first, s.count)) ss))
stretches_end f P n i h [] e = All-nil (λ g. gap_end g ≤ P)
stretches_end f P n i h (s ∷ ss) e =
    let k = e.0.to in All-cons (λ g. gap_end g ≤ P) _ _ (omega arith) (stretches_end f P n i h ss e.1)

-- the gaps from page p on end at the page count or before it
pub gaps_inside : (f : ℕ → Bool) (P p : ℕ) → EndBy P (map gap_of (stretches_of f (P - p) p))
unfolding stretches_of
gaps_inside f P p =
    let on : ℕ → ℕ = λ j. cond (f j) j 0 in
    by_lt p P (λ l. stretches_end on P (P - p) p (omega arith) _ (stretches_stand on (P - p) p))
    (λ l. rw (pairs_none f P p l) (All-nil (λ g. gap_end g ≤ P)))

-- The stretches behind the first of the n numbers from i on are those of the numbers from its end on.
module _ (f : ℕ → Bool) (nowhere : f 0 ≡ false) where
  abbrev from : ℕ → ℕ → ℕ × ℕ → List (ℕ × ℕ)
  from n i g = stretches_of f (i + n - (g.0 + g.1)) (g.0 + g.1)

  -- number i goes ahead of the stretches rs
  behind_joined : (n i : ℕ) (rs : List (ℕ × ℕ)) → stretches_of f n (i + 1) ≡ rs
      → ((g : ℕ × ℕ) (gs : List (ℕ × ℕ)) → rs ≡ g ∷ gs → gs ≡ from n (i + 1) g) → (g : ℕ × ℕ) (gs : List (ℕ × ℕ))
      → joined i rs ≡ g ∷ gs → gs ≡ from (suc n) i g
  behind_joined n i [] e h g gs q =
      let a : g ≡ (i, 1) = cc in let b : gs ≡ [] = cc in let m : i + suc n - (i + 1) ≡ n = omega arith in rw (a, b, m, e)
  behind_joined n i (r ∷ rs) e h g gs q =
      by_eq r.0 (i + 1)
      (λ x.
      let w : (i, r.1 + 1) ∷ rs ≡ g ∷ gs = rw (eq-eqb _ _ x) at q in
      let a : g ≡ (i, r.1 + 1) = cc in
      let b : gs ≡ rs = cc in
      let m : i + (r.1 + 1) ≡ r.0 + r.1 = omega arith in
      let k : i + suc n ≡ i + 1 + n = omega arith in rw (a, b, m, k) (h r rs refl))
      (λ x.
      let w : (i, 1) ∷ r ∷ rs ≡ g ∷ gs = rw (ne_eqb _ _ x) at q in
      let a : g ≡ (i, 1) = cc in
      let b : gs ≡ r ∷ rs = cc in let m : i + suc n - (i + 1) ≡ n = omega arith in rw (a, b, m, e))

  behind_first : (n i : ℕ) (g : ℕ × ℕ) (gs : List (ℕ × ℕ)) → stretches_of f n i ≡ g ∷ gs → gs ≡ from n i g
  unfolding stretches_of stretches
  behind_first zero i g gs e = absurd (let z = ap length e in omega arith)
  behind_first (suc n) i g gs e =
      let s = pairs_step f nowhere n i in
      by_bool (f i) (λ x. behind_joined n i _ refl (behind_first n (i + 1)) g gs (rw (s, x) at e))
      (λ x. let k : i + suc n ≡ i + 1 + n = omega arith in rw k (behind_first n (i + 1) g gs (rw (s, x) at e)))

-- g is the first of the gaps from page p on: those behind it are the gaps from its end on
pub gaps_behind : (v b : List ℕ) (p : ℕ) (g : Gap) (gs : List Gap) → map gap_of (gaps_left v b p) ≡ g ∷ gs
    → gs ≡ map gap_of (gaps_left v b (gap_end g))
gaps_behind v b p g gs e = by_lt p (word v 0) (λ l. split (omega arith) (gaps_left v b p) refl e) (λ l. absurd (none l))
  where
    P : ℕ
    P = word v 0

    none : P ≤ p → ⊥
    none l = let z = ap length (rw (pairs_none (unmarked b P (word v 1)) P p l) at e) in omega arith

    split : p + (P - p) ≡ P → (xs : List (ℕ × ℕ)) → gaps_left v b p ≡ xs → map gap_of xs ≡ g ∷ gs
        → gs ≡ map gap_of (gaps_left v b (gap_end g))
    split m [] q r = absurd (let z = ap length r in omega arith)
    split m (x ∷ xs) q r =
        let a : g ≡ gap_of x = cc in
        let c : gs ≡ map gap_of xs = cc in
        rw (a, c)
        (ap (map gap_of) (rw m at (behind_first (unmarked b P (word v 1)) (none_first b P (word v 1)) (P - p) p x xs q)))
