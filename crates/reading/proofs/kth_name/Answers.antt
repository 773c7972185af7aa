-- The gate's answers are the checks after the buffer's, and the k-th place that it left is that of the k-th name.
use Rattle.model.proofs.Prelude.{rules}
use Rattle.gate.proofs.Gates.{gate_good, gate_turned}
use Rattle.reading.proofs.Answers.{kth_refused, kth_short, kth_gate, kth_asked, kth_absent, kth_place, kth_number, kth_laid}
use Rattle.reading.proofs.kth_name.Goals as goal

pub returns-then-buffer-lt-NAME_BYTES : goal.returns-then-buffer-lt-NAME_BYTES
returns-then-buffer-lt-NAME_BYTES c = kth_refused _ _ _ _ _ search (rules, kth_short)

pub returns-in_err-count : goal.returns-in_err-count
returns-in_err-count c = kth_gate _ _ _ _ _ _ c.from_residual.ensures.1 c.in_err-count.ensures _ _ _ (search rules)

pub folder_checks-requires : goal.folder_checks-requires
folder_checks-requires c = search (gate_good, c.in_ok-count.ensures)

pub returns-in_err-folder_checks : goal.returns-in_err-folder_checks
returns-in_err-folder_checks c =
    kth_asked _ _ _ _ _ c.in_ok-count.ensures _ _ _ (search rules) _ _ c.from_residual-in_err-folder_checks.ensures.1
    c.in_err-folder_checks.ensures

pub turn-listed-requires : goal.turn-listed-requires
turn-listed-requires c = let g = c.in_ok-count.ensures in (gate_good _ _ _ _ _ _ g, gate_turned _ _ _ _ _ _ g)

pub returns-then-listed-k : goal.returns-then-listed-k
returns-then-listed-k c = kth_refused _ _ _ _ _ search (rules, kth_absent, c.in_ok-count.ensures, c.in_ok-folder_checks.ensures)

pub lay_name-requires : goal.lay_name-requires
lay_name-requires c = (kth_place _ _ _ _ _ c.turn-listed.ensures (search rules) _ c.place-place.ensures.0, search rules)

pub returns : goal.returns
returns c = (
  search (rules, kth_number, c.in_ok-count.ensures, c.in_ok-folder_checks.ensures),
  search (rules, kth_laid, c.in_ok-count.ensures, c.in_ok-folder_checks.ensures),
)
