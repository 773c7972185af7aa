-- An inode that is good is one more of those below.
use Rattle.model.proofs.Prelude.{rules}
use Rattle.tree.proofs.Nodes.{some_state}
use Rattle.inodes.proofs.Inodes.{others_next, others_not, states_next}
use Rattle.inodes.proofs.judge_others.Goals as goal

pub returns-in_default : goal.returns-in_default
returns-in_default c = search (rules, others_not)

pub loop-k-preserved : goal.loop-k-preserved
loop-k-preserved c = let j = c.in-Some.ensures in let n = some_state c.in-Some.state in search (rules, others_next, states_next)
