-- At or past the end nothing is laid; before it what `lay_file` laid are the file's bytes, with the rest of the buffer behind them.
use Rattle.model.proofs.Prelude.{rules}
use Rattle.model.specs.Lists.{values_from}
use Rattle.contents.proofs.Pages.{file_laid}
use Rattle.contents.proofs.read_into.Goals as goal

pub returns-then-size-offset : goal.returns-then-size-offset
unfolding values_from
returns-then-size-offset c = search rules

pub returns : goal.returns
unfolding values_from
returns c = search (rules, file_laid)
