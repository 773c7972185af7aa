-- Each answer is one case of the definition, by the valid word; then the walk decides.
use Rattle.model.proofs.Prelude.{rules}
use Rattle.inodes.proofs.Cases.{root_is}
use Rattle.inodes.proofs.judge_root.Goals as goal

pub returns : goal.returns
returns c = search (rules, root_is)
