-- The position's target stands among those after it, or not, and then these decide; no targets differ.
use Rattle.model.proofs.Prelude.{rules}
use Rattle.journal.proofs.Turns.{distinct_start, distinct_not, distinct_next, distinct_end}
use Rattle.journal.proofs.targets_differ.Goals as goal

pub loop-left-init : goal.loop-left-init
loop-left-init c = search (rules, distinct_start)

pub returns-then-has_target : goal.returns-then-has_target
returns-then-has_target c = search (rules, distinct_not)

pub loop-left-preserved : goal.loop-left-preserved
loop-left-preserved c = search (rules, distinct_next)

pub returns : goal.returns
returns c = search (rules, distinct_end)
