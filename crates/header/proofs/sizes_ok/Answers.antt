-- After each test the value is that of the definition's tests up to it.
use Rattle.model.proofs.Prelude.{ℕ, ◌≡◌, ◌∙◌, refl, Bool, ◌&&◌, leb, eqb, ◌%◌, arith}
use Rattle.model.specs.Layout.{sizes_ok}
use Rattle.header.proofs.Cases.{one_goes, one_stays, two_go, two_stay}
use Rattle.header.proofs.sizes_ok.Goals as goal
use Rattle.header.proofs.sizes_ok.Goals.{then-contains, else-contains, then-contains-2, else-contains-2, Joined-contains-2}

-- the definition's tests of both ranges
abbrev ranges : ℕ → ℕ → Bool
ranges P N = leb 16 P && leb P 4096 && leb 8 N && leb N 256

value_of_five : (c : Joined-contains-2) → c.if-contains-2.value ≡ ranges c.args.pages c.args.inodes && eqb (c.args.inodes % 8) 0
value_of_five c =
    let a : c.contains.result ≡ leb 16 c.args.pages && leb c.args.pages 4096
    = grind (arith, c.contains.ensures.cases, c.new.ensures.start, c.new.ensures.end) in
    let b : c.if-contains.value ≡ ranges c.args.pages c.args.inodes =
    elim c.if-contains.branch [
      | then-contains w ↦
          let r : w.contains-then-contains.result ≡ leb 8 c.args.inodes && leb c.args.inodes 256
          = grind (arith, w.contains-then-contains.ensures.cases, w.new-then-contains.ensures.start, w.new-then-contains.ensures.end) in
          two_go _ _ _ _ _ a w.if-contains.true (w.value-is ∙ r)
      | else-contains w ↦ two_stay _ _ _ _ _ a w.if-contains.false w.value-is
    ] in
    elim c.if-contains-2.branch [
      | then-contains-2 w ↦ one_goes _ _ _ _ b w.if-contains-2.true w.value-is
      | else-contains-2 w ↦ one_stays _ _ _ _ b w.if-contains-2.false w.value-is
    ]

pub returns-then-inodes-eq0 : goal.returns-then-inodes-eq0
unfolding sizes_ok
returns-then-inodes-eq0 c =
    let e = value_of_five (goal.at.returns-then-inodes-eq0 c).Joined-contains-2 in one_goes _ _ _ _ e c.if-inodes-eq0.true refl

pub returns-else-inodes-eq0 : goal.returns-else-inodes-eq0
unfolding sizes_ok
returns-else-inodes-eq0 c =
    let e = value_of_five (goal.at.returns-else-inodes-eq0 c).Joined-contains-2 in one_stays _ _ _ _ e c.if-inodes-eq0.false refl
