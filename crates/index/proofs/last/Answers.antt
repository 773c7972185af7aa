-- What the slot of the name holds is what the index has for it.
use Rattle.index.proofs.Looks.{held_is}
use Rattle.index.proofs.last.Goals as goal

pub returns : goal.returns
returns c = search held_is
