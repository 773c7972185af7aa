-- A part's first entry is the volume's at that word, and the rest of the step is by definition.
use Rattle.model.proofs.Prelude.{rules}
use Rattle.inode_log.proofs.Facts.{is_step}
use Rattle.inode_log.proofs.log_step.Goals as goal

pub returns : goal.returns
returns c = search (rules, is_step)
