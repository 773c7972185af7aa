-- Inode 0 is the first; then the others.
use Rattle.model.proofs.Prelude.{rules}
use Rattle.inodes.proofs.Inodes.{root_below, root_not, root_state}
use Rattle.inodes.proofs.judge_inodes.Goals as goal

pub returns-then-not-judge_root : goal.returns-then-not-judge_root
returns-then-not-judge_root c = search (rules, root_not)

pub judge_others-requires : goal.judge_others-requires
judge_others-requires c = search (rules, root_below, root_state)
