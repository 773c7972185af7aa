-- The goals that want a lemma of their own.
use Rattle.model.proofs.Prelude.{rules}
use Rattle.inodes.proofs.Unmarked.{count_start, count_next, count_end}
use Rattle.inodes.proofs.free_count.Goals as goal

pub loop-p-init : goal.loop-p-init
loop-p-init c = search (rules, count_start)

pub loop-p-preserved : goal.loop-p-preserved
loop-p-preserved c = search (rules, count_next)

pub returns : goal.returns
returns c = search (rules, count_end)
