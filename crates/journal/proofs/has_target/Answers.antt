-- The position's target is t, or another, and then the targets after it decide; of no targets none is t.
use Rattle.model.proofs.Prelude.{rules}
use Rattle.journal.proofs.Turns.{has_here, has_next, has_end}
use Rattle.journal.proofs.has_target.Goals as goal

pub returns-then-target_at-t : goal.returns-then-target_at-t
returns-then-target_at-t c = search (rules, has_here)

pub loop-preserved : goal.loop-preserved
loop-preserved c = search (rules, has_next)

pub returns : goal.returns
returns c = search (rules, has_end)
