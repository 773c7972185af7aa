-- Each answer is one case of the definition: the name is not there and is not added, it is added, or it is there.
use Rattle.index.proofs.Looks.{note_known, note_absent, note_new}
use Rattle.index.proofs.note.Goals as goal
use Rattle.index.proofs.note.Goals.{else-new-via-then-new+else-not-adds, else-new-via-else-new}

pub returns-then-not-adds : goal.returns-then-not-adds
returns-then-not-adds c = search note_absent

pub returns : goal.returns
returns c =
    elim c.else-new.branch [ else-new-via-then-new+else-not-adds w ↦ search note_new | else-new-via-else-new w ↦ search note_known ]
