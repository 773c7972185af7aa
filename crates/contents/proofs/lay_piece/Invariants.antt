-- The loop's invariant: the first bytes of the part are those of the page.
use Rattle.model.proofs.Prelude.{◌≡◌, take, drop}
use Rattle.contents.proofs.lay_piece.Given as goal

abbrev pub invariant-loop-i : goal.invariant-loop-i
invariant-loop-i l = take l.i l.part ≡ take l.i (drop l.at l.v)
