-- The loop's invariant: what the names that are left come to, noted in the table so far, is what all come to.
use Rattle.model.proofs.Prelude.{◌≡◌, true, take, drop}
use Rattle.model.specs.Lists.{all}
use Rattle.model.specs.Words.{word}
use Rattle.tree.specs.Table.{noted_all, may_note}
use Rattle.names.specs.Inodes.{below, inodes_from}
use Rattle.names.proofs.Inodes.{inodes_at}
use Rattle.names.proofs.note_names.Given as goal

abbrev pub invariant-loop-p : goal.invariant-loop-p
invariant-loop-p l =
    let left = inodes_at (word l.v) (drop l.p-index (take l.count l.places)) in
    (all (below 256) left ≡ true) × (may_note l.tree l.d left ≡ may_note l.initial.tree l.d (inodes_from (word l.v) l.places 0 l.count))
    × (noted_all l.tree l.d left ≡ noted_all l.initial.tree l.d (inodes_from (word l.v) l.places 0 l.count))
