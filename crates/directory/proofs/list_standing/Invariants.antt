-- The invariant: the places listed so far, then those of the entries that are left that stand, are those of all.
use Rattle.model.proofs.Prelude.{◌-◌, ◌*◌, ◌≤◌, ◌≡◌, ◌++◌, length, take}
use Rattle.model.specs.Words.{word}
use Rattle.inode_log.specs.Steps.{words_from}
use Rattle.inode_log.specs.Found.{log_words}
use Rattle.directory.specs.Standing.{places_of}
use Rattle.directory.proofs.Indexing.{Going}
use Rattle.directory.proofs.list_standing.Given as goal

abbrev pub invariant-loop : goal.invariant-loop
invariant-loop l =
    let left = 7 * l.log.pages - l.counter in
    Going (word l.v) (length l.v) l.log.pages left l.c.place l.log.end × (length l.places ≡ 224) × (l.count ≤ 224)
    × (take l.count l.places ++ places_of (word l.v) l.index (words_from left (word l.v) l.c.place l.log.end)
    ≡ places_of (word l.v) l.index (log_words (word l.v) l.log))
