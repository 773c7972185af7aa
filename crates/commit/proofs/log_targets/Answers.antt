-- A turn logs the next word to commit; at the end none is left.
use Rattle.model.proofs.Prelude.{rules}
use Rattle.commit.proofs.Commits.{log_start, log_next, log_done, pair_inside}
use Rattle.commit.proofs.log_targets.Goals as goal

pub loop-t-init : goal.loop-t-init
loop-t-init c = search (rules, log_start)

pub log_target-e-requires : goal.log_target-e-requires
log_target-e-requires c = search (rules, pair_inside)

pub loop-t-preserved : goal.loop-t-preserved
loop-t-preserved c = search (rules, log_next)

pub returns : goal.returns
returns c = search (rules, log_done)
