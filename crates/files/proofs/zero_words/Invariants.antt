-- The loop's invariant: the words so far are zero.
use Rattle.model.proofs.Prelude.{◌≡◌, true}
use Rattle.model.specs.Words.{word}
use Rattle.files.specs.State.{zeros_at}
use Rattle.files.proofs.zero_words.Given as goal

abbrev pub invariant-loop-i : goal.invariant-loop-i
invariant-loop-i l = zeros_at (word l.v) l.w l.i ≡ true
