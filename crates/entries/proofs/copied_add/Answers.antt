-- The words of the volume's entry are those of an add of its name, since its name field is as it should be.
use Rattle.model.proofs.Prelude.{rules}
use Rattle.entries.proofs.Names.{add_is}
use Rattle.entries.proofs.copied_add.Goals as goal

pub returns : goal.returns
returns c = search (rules, add_is)
