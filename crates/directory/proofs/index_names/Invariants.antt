-- The invariant: the entries that are left take the index to that of all entries, and are all good if all are.
use Rattle.model.proofs.Prelude.{◌+◌, ◌-◌, ◌*◌, ◌≤◌, ◌<◌, ◌≡◌, map, length}
use Rattle.model.specs.Lists.{all}
use Rattle.model.specs.Words.{word}
use Rattle.model.specs.Entry.{entry_at, name_entry_ok}
use Rattle.inode_log.specs.Steps.{words_from}
use Rattle.inode_log.specs.Found.{log_words}
use Rattle.index.specs.Index.{taken, Slots}
use Rattle.directory.specs.Standing.{index_of}
use Rattle.directory.proofs.Indexing.{Going}
use Rattle.directory.proofs.index_names.Given as goal

abbrev pub invariant-loop : goal.invariant-loop
invariant-loop l =
    let left = 7 * l.log.pages - l.counter in
    let rest = words_from left (word l.v) l.c.place l.log.end in
    Going (word l.v) (length l.v) l.log.pages left l.c.place l.log.end × Slots (length l.v) l.index
    × (length l.index ≡ length l.initial.index) × (l.most + 1 < length l.index)
    × (l.count ≡ taken l.index) × (l.count ≤ l.most)
    × (all (name_entry_ok l.inodes) (map (entry_at (word l.v)) rest)
    ≡ all (name_entry_ok l.inodes) (map (entry_at (word l.v)) (log_words (word l.v) l.log)))
    × (index_of (word l.v) l.index rest ≡ index_of (word l.v) l.initial.index (log_words (word l.v) l.log))
