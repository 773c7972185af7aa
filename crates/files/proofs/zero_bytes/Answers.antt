-- The bytes are the elements of the slice from b on, and the test is asked of each.
use Rattle.model.proofs.Prelude.{rules, arith, ◌+◌, ◌-◌, ◌≡◌}
use Rattle.std.proofs.Common.{tests}
use Rattle.std.proofs.lemmas.Iterator.{cases_from_all, YieldsList-from_slice}
use Rattle.files.proofs.Ends.{zeros_in}
use Rattle.files.proofs.zero_bytes.Goals as goal

pub returns : goal.returns
returns c =
    zeros_in c.args.v.now (λ j. omega (arith, c.type_inv.v j)) c.args.b c.args.count (c.args.b + c.args.count - c.args.b) _ c.requires
    (omega arith)
    (cases_from_all _ _ _ (λ x. x ≡ 0) (λ x. x ≡ 0 → ⊥) c.all.ensures.ran (YieldsList-from_slice _ c.iter.ensures.rest)
    (λ x q k. search (rules, tests)) (λ x q k. search (rules, tests)))
