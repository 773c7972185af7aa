-- The position's target is bad, or good, and then the targets after it decide; of no targets all are good.
use Rattle.model.proofs.Prelude.{rules}
use Rattle.journal.proofs.Turns.{all_start, all_not, all_next, all_end}
use Rattle.journal.proofs.targets_ok.Goals as goal

pub loop-init : goal.loop-init
loop-init c = search (rules, all_start)

pub returns-then-not-target_ok : goal.returns-then-not-target_ok
returns-then-not-target_ok c = search (rules, all_not)

pub loop-preserved : goal.loop-preserved
loop-preserved c = search (rules, all_next)

pub returns : goal.returns
returns c = search (rules, all_end)
