-- A turn puts the next pair of the text; at the end none is left.
use Rattle.model.proofs.Prelude.{rules}
use Rattle.stores.proofs.Runs.{fill_start, fill_next, fill_done}
use Rattle.stores.proofs.fill.Goals as goal

pub loop-i-init : goal.loop-i-init
loop-i-init c = search (rules, fill_start)

pub loop-i-preserved : goal.loop-i-preserved
loop-i-preserved c = search (rules, fill_next)

pub returns : goal.returns
returns c = search (rules, fill_done)
