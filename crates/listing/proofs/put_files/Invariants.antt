-- The loop's invariant: the lines of the names that are left, put from here on, give those of all, put from the start on.
use Rattle.model.proofs.Prelude.{drop}
use Rattle.model.specs.Words.{word}
use Rattle.model.specs.Journal.{view}
use Rattle.directory.specs.Places.{standing}
use Rattle.stores.proofs.Emitting.{Rest}
use Rattle.listing.specs.Lines.{GoodInodes, lines_of}
use Rattle.listing.proofs.put_files.Given as goal

abbrev pub invariant-loop-place : goal.invariant-loop-place
invariant-loop-place l =
    GoodInodes (view (word l.v)) (word l.v 1) (standing (word l.v) (drop l.place-index l.places))
    × Rest l.initial.text l.at (lines_of l.v (standing (word l.v) l.places)) l.text l.next
    (lines_of l.v (standing (word l.v) (drop l.place-index l.places)))
