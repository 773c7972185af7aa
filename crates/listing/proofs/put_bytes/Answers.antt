-- A copy into a part of the text is an emission there.
use Rattle.model.proofs.Prelude.{arith}
use Rattle.listing.proofs.Putting.{bytes_put}
use Rattle.listing.proofs.put_bytes.Goals as goal

pub returns : goal.returns
returns c = bytes_put _ _ _ _ (omega arith) c.copy_from_slice.ensures.after
