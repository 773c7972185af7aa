-- The slot after the last is the first.
use Rattle.index.proofs.Looks.{slot_first, slot_after}
use Rattle.index.proofs.next_slot.Goals as goal

pub returns-then-s-slots : goal.returns-then-s-slots
returns-then-s-slots c = slot_first _ _ (search) (search)

pub returns-else-s-slots : goal.returns-else-s-slots
returns-else-s-slots c = slot_after _ _ (search) (search)
