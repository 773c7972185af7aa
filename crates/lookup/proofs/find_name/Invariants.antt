-- The loop's invariant: among the places that are left the name leads to the inode to which it leads among all.
use Rattle.model.proofs.Prelude.{◌≡◌, take, drop}
use Rattle.model.specs.Words.{word}
use Rattle.model.specs.State.{inode_of}
use Rattle.directory.specs.Places.{standing}
use Rattle.lookup.proofs.find_name.Given as goal

abbrev pub invariant-loop-p : goal.invariant-loop-p
invariant-loop-p l =
    inode_of (standing (word l.v) (drop l.p-index (take l.count l.places))) l.name
    ≡ inode_of (standing (word l.v) (take l.count l.places)) l.name
