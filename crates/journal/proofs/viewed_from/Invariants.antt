-- The loop's invariant: what is left to put back, put back from p on, gives the view of the word.
use Rattle.model.proofs.Prelude.{◌-◌, ◌<◌, ◌≡◌}
use Rattle.model.specs.Words.{word}
use Rattle.model.specs.Journal.{positions, put_back, view}
use Rattle.journal.proofs.viewed_from.Given as goal

abbrev pub invariant-loop : goal.invariant-loop
invariant-loop l =
    (l.p.at < 16) × (put_back (positions (l.end - l.counter) l.p.at) (word l.v) l.w ≡ view (word l.v) l.w)
