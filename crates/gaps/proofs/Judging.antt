-- What the judge answers of the gaps: the gate's checks come first, then the count of the gaps that the marks show.
use Rattle.model.proofs.Prelude.{ℕ, ◌≤◌, ◌<◌, ◌≡◌, refl, ◌∙◌, ap, List, [], ◌∷◌, map, length, some, arith, sub-zero, ltb, lt-ltb, le-ltb, length-map}
use Rattle.std.specs.Prelude.{Result, Ok, Err, IsErrAnd}
use Rattle.model.specs.Words.{word}
use Rattle.model.specs.Journal.{view}
use Rattle.model.specs.Accept.{gaps}
use Rattle.model.specs.Answer.{refused, done, Checks, too_many_gaps}
use Rattle.model.specs.Public.{closed_checks, gaps_in, gaps_answer}
use Rattle.space.proofs.Free.{unmarked_pages}
use Rattle.answer.specs.Meaning.{number_of}
use Rattle.answer.specs.declared.Refusal.{Refusal}
use Rattle.answer.specs.declared.Refusal.TheVariants.{TooManyGaps}
use Rattle.answer.proofs.Checked.{passed_on}
use Rattle.gate.specs.Gated.{Gated}
use Rattle.gate.proofs.Gates.{gate_refused, gate_passed, gate_long, gate_pages}
use Rattle.gaps.specs.Gaps.{gap_of, gaps_left, Judged}
use Rattle.gaps.proofs.Found.{few_left}
use Rattle.gaps.specs.declared.Gap.{Gap}

-- the gaps of the volume v
abbrev gaps_of : List ℕ → List (ℕ × ℕ)
gaps_of v = gaps (view (word v)) (word v 0) (word v 1)

-- a refusal has no gap to fill
refusal : (v marks : List ℕ) (room : ℕ) (e : Refusal) → gaps_in (length v) (word v) room ≡ refused (number_of e)
    → Judged v room (Err e) marks
unfolding gaps_answer
refusal v marks room e h = record { answer = rw h; seen = tt }

module _ (v : List ℕ) (room : ℕ) (places marks tree : List ℕ) where
  -- the check behind the gate's
  abbrev few : Checks
  few = (ltb room (length (gaps_of v)), too_many_gaps) ∷ []

  pub gaps_refused : (e : Refusal) (r : Result ℕ Refusal) → IsErrAnd r (λ d. d ≡ e)
      → Gated v (closed_checks (length v) (word v)) (Err e) places marks tree → Judged v room r marks
  unfolding gaps_in
  gaps_refused e r p g = rw (passed_on e r p) (refusal v marks room e (gate_refused v _ places marks tree e g few (done (gaps_of v))))

  -- n is how many gaps the marks show, counted as the code has them
  module _ (k : ℕ) (g : Gated v (closed_checks (length v) (word v)) (Ok k) places marks tree) (gs : List Gap) (n : ℕ) (c : n ≡ length gs)
      (a : gs ≡ map gap_of (gaps_left v marks 0)) where
    pages : word v 0 ≤ 4096
    pages = gate_pages v _ k places marks tree g (word v 0) refl

    shown : gaps_left v marks 0 ≡ gaps_of v
    unfolding gaps
    shown = rw (unmarked_pages (view (word v)) (word v 0) (word v 1) marks pages g.tables.served, sub-zero)

    counted : n ≡ length (gaps_left v marks 0)
    counted = c ∙ rw (a, length-map)

    pub gaps_too_many : room < n → Judged v room (Err TooManyGaps) marks
    unfolding gaps_in
    gaps_too_many l =
        refusal v marks room TooManyGaps
        (rw (gate_passed v _ places marks tree k g few (done (gaps_of v)), lt-ltb room (length (gaps_of v)) (rw (counted, shown) at l)))

    all_listed : n ≤ room → gaps_in (length v) (word v) room ≡ done (gaps_left v marks 0)
    unfolding gaps_in
    all_listed l =
        rw (gate_passed v _ places marks tree k g few (done (gaps_of v)), le-ltb room (length (gaps_of v)) (rw (counted, shown) at l), shown)

    pub gaps_listed : n ≤ room → Judged v room (Ok n) marks
    unfolding gaps_answer
    gaps_listed l =
        record {
          answer = rw (all_listed l) (ap (λ x. done (some x)) counted);
          seen = record {
            long = omega (arith, gate_long v _ k places marks tree g);
            pages = pages;
            count = counted;
            few = rw counted (few_left v marks 0 pages);
            fits = l;
            gaps = all_listed l;
          };
        }
