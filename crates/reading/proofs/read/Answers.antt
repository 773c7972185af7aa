-- A refusal is that of the file's state; else the bytes are those of the file from the offset on.
use Rattle.model.proofs.Prelude.{rules}
use Rattle.state.proofs.Within.{state_small, state_within}
use Rattle.reading.proofs.Answers.{read_refused, read_number, read_laid}
use Rattle.reading.proofs.read.Goals as goal

pub returns-in_err-size : goal.returns-in_err-size
returns-in_err-size c = read_refused _ _ _ _ _ _ _ _ c.from_residual.ensures.1 c.in_err-size.ensures

pub read_into-requires : goal.read_into-requires
read_into-requires c = (search (rules, state_within, c.in_ok-size.ensures), search (rules, state_small, c.in_ok-size.ensures))

pub returns : goal.returns
returns c = (search (rules, read_number, c.in_ok-size.ensures), search (rules, read_laid, c.in_ok-size.ensures))
