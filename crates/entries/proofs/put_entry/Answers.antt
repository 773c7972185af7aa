-- The eight words are copied over those of the table.
use Rattle.model.proofs.Prelude.{refl, arith}
use Rattle.entries.proofs.Entries.{entry_put}
use Rattle.entries.proofs.put_entry.Goals as goal

pub returns : goal.returns
returns c = entry_put _ _ _ _ c.told-e refl (omega arith) _ _ c.copy_from_slice.ensures.after (omega arith)
