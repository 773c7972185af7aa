-- The count is the distance between the two words that were read, by definition.
use Rattle.model.proofs.Prelude.{rules}
use Rattle.model.specs.Journal.{open_count}
use Rattle.journal.proofs.open_count.Goals as goal

pub returns : goal.returns
unfolding open_count
returns c = ((cc), search rules)
