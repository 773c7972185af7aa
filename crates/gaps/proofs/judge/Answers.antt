-- The gate's answers are the checks, and the marks that it left show the gaps.
use Rattle.model.proofs.Prelude.{◌≡◌, length, refl, rules, inl}
use Rattle.std.proofs.lemmas.Iterator.Consumers.{count_from_yields_List, YieldsList-from_first}
use Rattle.gate.proofs.Gates.{gate_word_1, gate_pages}
use Rattle.gaps.specs.Gaps.{gaps_ahead}
use Rattle.gaps.proofs.Found.{few_gaps}
use Rattle.gaps.proofs.Judging.{gaps_refused, gaps_too_many, gaps_listed}
use Rattle.gaps.proofs.judge.Goals as goal

pub returns-in_err-closed : goal.returns-in_err-closed
returns-in_err-closed c = search (rules, gaps_refused, c.in_err-closed.ensures)

pub of-requires : goal.of-requires
of-requires c = search (rules, gate_word_1, gate_pages, c.in_ok-closed.ensures)

pub count-n-requires-clause-fits : goal.count-n-requires-clause-fits
count-n-requires-clause-fits c = inl (few_gaps _ _ 0 _ c.of.ensures (gate_pages _ _ _ _ _ _ c.in_ok-closed.ensures _ refl))

pub returns-then-room-n : goal.returns-then-room-n
returns-then-room-n c =
    let g = c.of.result in
    let n : c.count-n.result ≡ length (gaps_ahead g.marks.now g.sizes g.from)
    = count_from_yields_List g _ c.count-n.ensures.ran
    (YieldsList-from_first (λ x. x) (λ y. gaps_ahead y.marks.now y.sizes y.from) _ refl) in
    gaps_too_many _ _ _ _ _ _ c.in_ok-closed.ensures _ _ n c.of.ensures c.if-room-n.true

pub returns : goal.returns
returns c =
    let g = c.of.result in
    let n : c.count-n.result ≡ length (gaps_ahead g.marks.now g.sizes g.from)
    = count_from_yields_List g _ c.count-n.ensures.ran
    (YieldsList-from_first (λ x. x) (λ y. gaps_ahead y.marks.now y.sizes y.from) _ refl) in
    gaps_listed _ _ _ _ _ _ c.in_ok-closed.ensures _ _ n c.of.ensures c.if-room-n.false
