-- The gate's answers are the checks, and the marks that it left are those of the pages in use.
use Rattle.model.proofs.Prelude.{rules}
use Rattle.gate.proofs.Gates.{gate_word_1, gate_pages}
use Rattle.reading.proofs.Answers.{free_refused, free_is_lem}
use Rattle.reading.proofs.free_count.Goals as goal

pub returns-in_err-closed : goal.returns-in_err-closed
returns-in_err-closed c = search (rules, free_refused, c.in_err-closed.ensures)

pub of-sizes-requires : goal.of-sizes-requires
of-sizes-requires c = search (rules, gate_word_1, c.in_ok-closed.ensures)

pub free_count-requires : goal.free_count-requires
free_count-requires c = search (rules, gate_pages, c.in_ok-closed.ensures)

pub returns : goal.returns
returns c = search (rules, free_is_lem, c.in_ok-closed.ensures)
