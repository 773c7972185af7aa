-- A turn takes the lowest byte off: it fails the name, or the others decide.
use Rattle.dentry.proofs.Fields.{byte_zero, byte_slash, byte_next, bytes_end}
use Rattle.dentry.proofs.word_ok.Goals as goal
use Rattle.dentry.proofs.word_ok.Goals.{then-b-eq0-via-then-b-eq0, then-b-eq0-via-else-b-eq0+then-b-eq47}

pub returns-then-b-eq0 : goal.returns-then-b-eq0
returns-then-b-eq0 c =
    elim c.then-b-eq0.branch [ then-b-eq0-via-then-b-eq0 w ↦ search byte_zero | then-b-eq0-via-else-b-eq0+then-b-eq47 w ↦ search byte_slash ]

pub loop-preserved : goal.loop-preserved
loop-preserved c = search byte_next

pub returns : goal.returns
returns c = search bytes_end
