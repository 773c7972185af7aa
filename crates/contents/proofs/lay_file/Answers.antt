-- A turn lays the bytes that the file has on one page.
use Rattle.model.proofs.Prelude.{rules, arith}
use Rattle.contents.proofs.Laying.{laid_end}
use Rattle.contents.proofs.Pages.{pages_next}
use Rattle.contents.proofs.lay_file.Goals as goal

pub loop-at-preserved : goal.loop-at-preserved
loop-at-preserved c = (
  search rules,
  omega arith,
  pages_next _ _ _ _ c.get-d.ensures _ _ _ _ c.min-n.ensures _ _ _ _ _ c.loop-at.invariant.2 (omega arith) (omega arith) c.lay_piece.ensures
      (omega arith) (omega arith),
)

pub returns : goal.returns
returns c = laid_end _ _ _ _ _ _ c.loop-at.invariant.2 (omega arith)
