-- The elements of the slice are those of the table from the first file page on that starts behind the size.
use Rattle.model.proofs.Prelude.{rules, arith}
use Rattle.files.proofs.Ends.{start_first, start_next, start_end}
use Rattle.files.proofs.starts_ok.Goals as goal

pub loop-d-init : goal.loop-d-init
loop-d-init c = search (rules, start_first)

pub loop-d-preserved : goal.loop-d-preserved
loop-d-preserved c = search (rules, start_next)

pub returns : goal.returns
returns c = start_end _ _ _ _ c.loop-d.invariant (omega arith)
