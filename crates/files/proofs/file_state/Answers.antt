-- The walk of the log is known to end, and the fold over its entries gives the file.
use Rattle.files.proofs.States.{fold_is}
use Rattle.files.proofs.file_state.Goals as goal

pub returns : goal.returns
returns c = search fold_is
