-- A turn puts the next word to commit; at the end none is left.
use Rattle.model.proofs.Prelude.{rules}
use Rattle.commit.proofs.Commits.{targets_start, targets_turn, targets_done}
use Rattle.commit.proofs.put_targets.Goals as goal

pub loop-t-init : goal.loop-t-init
loop-t-init c = search (rules, targets_start)

pub loop-t-preserved : goal.loop-t-preserved
loop-t-preserved c = search (rules, targets_turn)

pub returns : goal.returns
returns c = search (rules, targets_done)
