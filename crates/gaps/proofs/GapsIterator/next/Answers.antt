-- The search for a free page and the run from it on are the first gap of those ahead.
use Rattle.gaps.proofs.Found.{ahead_none, ahead_next, ahead_less}
use Rattle.gaps.proofs.GapsIterator.next.Goals as goal

pub returns-in_err-first-clause-steps : goal.returns-in_err-first-clause-steps
returns-in_err-first-clause-steps c =
    rw c.from_residual.ensures
    (search (ahead_none, c.in_err-first.ensures), search (ahead_none, c.in_err-first.ensures))

pub returns-clause-steps : goal.returns-clause-steps
returns-clause-steps c = search (ahead_next, c.in_ok-first.ensures)

pub returns-clause-goes : goal.returns-clause-goes
returns-clause-goes c = record { on = λ f. (tt, tt, search (ahead_less, c.in_ok-first.ensures)); keeps = tt; rests = λ f. tt }
