-- The gate refuses as the model does; behind it the checks decide.
use Rattle.gate.proofs.Gates.{gate_good}
use Rattle.reading.proofs.Folders.{find_gate, find_behind}
use Rattle.reading.proofs.find.Goals as goal

pub returns-in_err-count : goal.returns-in_err-count
returns-in_err-count c = search (find_gate, c.in_err-count.ensures)

pub find_checks-requires : goal.find_checks-requires
find_checks-requires c = search (gate_good, c.in_ok-count.ensures)

pub returns : goal.returns
returns c = search (find_behind, c.in_ok-count.ensures)
