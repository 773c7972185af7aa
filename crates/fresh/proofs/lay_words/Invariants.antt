-- The loop's invariant: the words that are left, laid from here on, give all of them, laid from the start on.
use Rattle.model.proofs.Prelude.{◌-◌, ◌≡◌}
use Rattle.model.specs.Words.{word}
use Rattle.contents.specs.Laid.{laid}
use Rattle.fresh.proofs.lay_words.Given as goal

abbrev pub invariant-loop-j : goal.invariant-loop-j
invariant-loop-j l = laid l.data l.j (word l.bytes) l.j (l.count - l.j) ≡ laid l.initial.data 0 (word l.bytes) 0 l.count
