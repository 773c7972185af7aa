-- By elements: a zero from the file page on, and the table's element before it.
use Rattle.model.proofs.Prelude.{rules}
use Rattle.files.proofs.Runs.{zeros_over}
use Rattle.files.proofs.unmap_from.Goals as goal

pub returns : goal.returns
returns c = search (rules, zeros_over)
