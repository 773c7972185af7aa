-- The position's target is the word, or another, and then the positions after it give the view.
use Rattle.model.proofs.Prelude.{rules}
use Rattle.journal.proofs.Turns.{back_start, back_here, back_next, back_end}
use Rattle.journal.proofs.viewed_from.Goals as goal

pub loop-init : goal.loop-init
loop-init c = search (rules, back_start)

pub returns-then-target_at-w : goal.returns-then-target_at-w
returns-then-target_at-w c = search (rules, back_here)

pub loop-preserved : goal.loop-preserved
loop-preserved c = search (rules, back_next)

pub returns : goal.returns
returns c = search (rules, back_end)
