-- The names that were listed are those of the folder.
use Rattle.model.proofs.Prelude.{rules}
use Rattle.checks.specs.Names.{has_names_in}
use Rattle.checks.proofs.Volumes.{turned_count}
use Rattle.checks.proofs.has_names.Goals as goal

pub returns : goal.returns
unfolding has_names_in
returns c = search (rules, turned_count)
