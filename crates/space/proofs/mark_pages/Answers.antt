-- Each turn marks the first of the pages that are left.
use Rattle.model.proofs.Prelude.{rules}
use Rattle.space.proofs.Taken.{mark_turn, mark_end}
use Rattle.space.proofs.mark_pages.Goals as goal

pub loop-p-preserved : goal.loop-p-preserved
loop-p-preserved c = search (rules, mark_turn)

pub returns : goal.returns
returns c = search (rules, mark_end)
