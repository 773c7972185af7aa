-- The loop's invariant: the gaps so far stand at the list's start.
use Rattle.model.proofs.Prelude.{◌≡◌, sets}
use Rattle.gaps.proofs.Filling.{without_numbers}
use Rattle.volume.proofs.gaps.Given as goal

abbrev pub invariant-loop-i : goal.invariant-loop-i
invariant-loop-i l = l.list ≡ sets l.initial.list 0 (without_numbers l.yielded)
