-- A page that is not there is zeros, and one that is there its bytes.
use Rattle.model.proofs.Prelude.{◌+◌, ◌*◌, arith}
use Rattle.contents.proofs.Pages.{no_page, one_page}
use Rattle.contents.proofs.Copying.{byte_copied, all_copied}
use Rattle.contents.proofs.lay_piece.Goals as goal

pub returns-then-d-eq0 : goal.returns-then-d-eq0
returns-then-d-eq0 c = no_page _ _ _ _ _ (c.fill.ensures.after (λ y h. h)) c.if-d-eq0.true

pub loop-i-preserved : goal.loop-i-preserved
loop-i-preserved c = byte_copied _ _ _ _ c.loop-i.invariant (omega arith) (omega arith)

pub returns-after-loop-i : goal.returns-after-loop-i
returns-after-loop-i c =
    one_page _ _ _ _ _ _ (λ j. omega (arith, c.type_inv.v j))
    (all_copied _ c.args.v.now (512 * c.args.d + c.args.o) _ c.loop-i.invariant (omega arith)) (omega arith) (omega arith)
    c.if-d-eq0.false
