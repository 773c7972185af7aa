-- The gate's answer, or that of the file behind it.
use Rattle.model.proofs.Prelude.{rules}
use Rattle.gate.proofs.Gates.{gate_good}
use Rattle.state.proofs.Stating.{state_refused, state_is}
use Rattle.state.proofs.file.Goals as goal

pub returns-in_err-closed : goal.returns-in_err-closed
returns-in_err-closed c = search (rules, state_refused, c.in_err-closed.ensures)

pub judged_state-requires : goal.judged_state-requires
judged_state-requires c = (search (gate_good, c.in_ok-closed.ensures), search)

pub returns : goal.returns
returns c = search (rules, state_is, c.in_ok-closed.ensures)
