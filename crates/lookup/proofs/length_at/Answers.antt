-- A name field that is as it should be has a name of at most 32 bytes.
use Rattle.model.proofs.Prelude.{rules}
use Rattle.lookup.proofs.Fields.{length_short}
use Rattle.lookup.proofs.length_at.Goals as goal

pub returns : goal.returns
returns c = search (rules, length_short)
