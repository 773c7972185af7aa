-- The loop's invariant: what the turns that are left answer and leave, of the marks so far, is what the whole walk does.
use Rattle.model.proofs.Prelude.{◌-◌, ◌≤◌, ◌≡◌, true}
use Rattle.model.specs.Words.{word}
use Rattle.model.specs.Layout.{in_pages}
use Rattle.model.specs.Log.{walk}
use Rattle.inode_log.proofs.Marking.{Onward}
use Rattle.inode_log.proofs.walk.Given as goal

abbrev pub invariant-loop-turn : goal.invariant-loop-turn
invariant-loop-turn l =
    (l.p ≤ l.sizes.pages - 1) × (in_pages l.sizes.pages l.sizes.inodes l.p ≡ true)
    × Onward (walk (word l.v) l.sizes.pages l.sizes.inodes (l.sizes.pages - l._turn) l.p l.last) l.marks
    (walk (word l.v) l.sizes.pages l.sizes.inodes l.sizes.pages l.head l.last) l.initial.marks
