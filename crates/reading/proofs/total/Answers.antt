-- The gate and the checks refuse as the model does; behind them the total is asked.
use Rattle.names.proofs.Listing.{good_long}
use Rattle.gate.proofs.Gates.{gate_good}
use Rattle.reading.proofs.Folders.{gate_few, total_gate, total_asked, total_is_lem}
use Rattle.reading.proofs.total.Goals as goal

pub returns-in_err-closed : goal.returns-in_err-closed
returns-in_err-closed c = search (total_gate, c.in_err-closed.ensures)

pub folder_checks-requires : goal.folder_checks-requires
folder_checks-requires c = search (gate_good, c.in_ok-closed.ensures)

pub returns-in_err-folder_checks : goal.returns-in_err-folder_checks
returns-in_err-folder_checks c = search (total_asked, c.in_ok-closed.ensures, c.in_err-folder_checks.ensures)

pub of-sizes-requires : goal.of-sizes-requires
of-sizes-requires c = search (good_long, gate_good, c.in_ok-closed.ensures)

pub folder_total-requires : goal.folder_total-requires
folder_total-requires c = search (gate_good, gate_few, c.in_ok-closed.ensures)

pub returns : goal.returns
returns c = search (total_is_lem, c.in_ok-closed.ensures, c.in_ok-folder_checks.ensures)
