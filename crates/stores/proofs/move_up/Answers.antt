-- A turn moves the last pair that is left; at the end none is left.
use Rattle.model.proofs.Prelude.{rules}
use Rattle.stores.proofs.Texts.{move_turn, move_end}
use Rattle.stores.proofs.move_up.Goals as goal

pub loop-k-preserved : goal.loop-k-preserved
loop-k-preserved c = search (rules, move_turn)

pub returns : goal.returns
returns c = search (rules, move_end)
