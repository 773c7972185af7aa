-- The table is turned twice, and each name is looked up in its folder.
use Rattle.model.proofs.Prelude.{rules}
use Rattle.checks.proofs.Volumes.{turned_found, count_turned}
use Rattle.checks.proofs.look_up.Goals as goal

pub returns : goal.returns
returns c = search (rules, turned_found, count_turned)
