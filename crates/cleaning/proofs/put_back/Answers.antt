-- Each turn puts the old value of one position back; when none is left, all are back.
use Rattle.model.proofs.Prelude.{rules}
use Rattle.cleaning.proofs.Back.{back_start, back_next, back_done}
use Rattle.cleaning.proofs.put_back.Goals as goal

pub loop-init : goal.loop-init
loop-init c = search (rules, back_start)

pub loop-preserved : goal.loop-preserved
loop-preserved c = search (rules, back_next)

pub returns : goal.returns
returns c = search (rules, back_done)
