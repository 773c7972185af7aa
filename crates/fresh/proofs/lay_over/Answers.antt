-- The slice is copied over a part of the buffer, and it is the list of its own elements.
use Rattle.model.proofs.Prelude.{arith}
use Rattle.fresh.proofs.Bytes.{over_laid}
use Rattle.fresh.proofs.lay_over.Goals as goal

pub returns : goal.returns
returns c = over_laid _ _ _ _ _ c.copy_from_slice.ensures.after (omega arith) c.requires
