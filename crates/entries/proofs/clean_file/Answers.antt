-- The stretches of a file are its clean log, unless there are none: then its size is, if it is not 0.
use Rattle.model.proofs.Prelude.{rules}
use Rattle.entries.proofs.Stretches.{file_mapped, file_empty, file_sized}
use Rattle.entries.proofs.clean_file.Goals as goal

pub returns-then-n-gt0 : goal.returns-then-n-gt0
returns-then-n-gt0 c = search (rules, file_mapped)

pub returns-then-size-eq0 : goal.returns-then-size-eq0
returns-then-size-eq0 c = search (rules, file_empty)

pub returns : goal.returns
returns c = search (rules, file_sized)
