-- The journal is open if the count that `open_count` answered is above 0, by definition.
use Rattle.model.specs.Journal.{is_open}
use Rattle.journal.proofs.is_open.Goals as goal

pub returns : goal.returns
unfolding is_open
returns c = cc
