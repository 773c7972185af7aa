-- Each answer is one law of proofs/Judging.antt.
use Rattle.model.proofs.Prelude.{rules}
use Rattle.gate.proofs.Judging.{closed_refused, closed_open, closed_is}
use Rattle.gate.proofs.Gates.{gate_dequeue, gate_enqueue, gate_long}
use Rattle.gate.proofs.closed.Goals as goal

pub returns-in_err-count : goal.returns-in_err-count
returns-in_err-count c = search (rules, closed_refused)

pub is_open-requires : goal.is_open-requires
is_open-requires c = search (rules, gate_dequeue, gate_enqueue, gate_long, c.in_ok-count.ensures)

pub returns-then-is_open : goal.returns-then-is_open
returns-then-is_open c = search (rules, closed_open, c.in_ok-count.ensures)

pub returns : goal.returns
returns c = search (rules, closed_is, c.in_ok-count.ensures)
