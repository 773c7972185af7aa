-- The loop's invariant: the entries that are left are right if all are, and give, after the size and the table, the same file.
use Rattle.model.proofs.Prelude.{◌*◌, ◌-◌, ◌≡◌, true, length}
use Rattle.model.specs.Lists.{all, foldl}
use Rattle.model.specs.Words.{word}
use Rattle.model.specs.Entry.{file_entry_ok}
use Rattle.model.specs.State.{file_step}
use Rattle.inode_log.specs.Steps.{entries_from, within}
use Rattle.files.specs.State.{file_from}
use Rattle.files.proofs.fold_file.Given as goal

abbrev pub invariant-loop-turn : goal.invariant-loop-turn
invariant-loop-turn l =
    let left = 7 * l.log.pages - l._turn in
    let rest = entries_from left (word l.v) l.c.place l.log.end in
    let whole = entries_from (7 * l.log.pages) (word l.v) l.initial.c.place l.log.end in
    (length l.table ≡ 128) × (within left (word l.v) l.log.pages l.c.place l.log.end ≡ true)
    × (all (file_entry_ok l.log.pages l.inodes) rest ≡ all (file_entry_ok l.log.pages l.inodes) whole)
    × (foldl file_step (file_from l.size l.table) rest ≡ foldl file_step (file_from 0 l.initial.table) whole)
