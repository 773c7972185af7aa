-- A turn maps the next file page.
use Rattle.model.proofs.Prelude.{refl, arith}
use Rattle.files.proofs.Runs.{fill_turn, fill_end}
use Rattle.files.proofs.map_run.Goals as goal

pub loop-i-preserved : goal.loop-i-preserved
loop-i-preserved c = fill_turn _ _ _ _ _ _ _ _ _ c.loop-i.invariant (omega arith) (omega arith) refl (omega arith)

pub returns : goal.returns
returns c = fill_end _ _ _ _ _ c.loop-i.invariant (omega arith)
