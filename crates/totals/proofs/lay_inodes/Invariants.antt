-- The loop's invariant: the inodes that are left, laid into the table so far, give what all give.
use Rattle.model.proofs.Prelude.{◌≡◌, true, take, drop}
use Rattle.model.specs.Lists.{all}
use Rattle.model.specs.Words.{word}
use Rattle.names.specs.Inodes.{below, inodes_from}
use Rattle.names.proofs.Inodes.{inodes_at}
use Rattle.totals.specs.Totals.{laid_from}
use Rattle.totals.proofs.lay_inodes.Given as goal

abbrev pub invariant-loop-i : goal.invariant-loop-i
invariant-loop-i l =
    let left = inodes_at (word l.v) (drop l.i (take l.count l.places)) in
    (all (below 256) left ≡ true) × (laid_from l.inodes l.i left ≡ laid_from l.initial.inodes 0 (inodes_from (word l.v) l.places 0 l.count))
