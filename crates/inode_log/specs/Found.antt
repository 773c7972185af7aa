-- An inode's log, and what its steps meet: the model's entries, at words of which none comes twice.
use Rattle.std.specs.Prelude.{ℕ, ◌*◌, ◌%◌, ◌≤◌, ◌≡◌, Bool, true, ◌&&◌, List, eqb, leb}
use Rattle.model.specs.Lists.{all, distinct}
use Rattle.model.specs.Words.{Mem}
use Rattle.model.specs.Entry.{Entry as Full}
use Rattle.model.specs.Journal.{view}
use Rattle.model.specs.Log.{entries}
use Rattle.inode_log.specs.Steps.{words_from, entries_from, within}
use Rattle.inode_log.specs.declared.Log.{Log}

-- the first words of a log's entries, and these entries
abbrev pub log_words : Mem → Log → List ℕ
log_words m r = words_from (7 * r.pages) m r.start r.end

abbrev pub log_entries : Mem → Log → List Full
log_entries m r = entries_from (7 * r.pages) m r.start r.end

-- whether an entry of a log can start at word w: entries have eight words each, and none stands in page 0
unfoldable pub is_placed : ℕ → Bool
is_placed w = eqb (w % 8) 0 && leb 64 w

-- the steps of a log stay in L bytes
pub record Inside (m : Mem) (L : ℕ) (r : Log) : Type 0 where
  pub steps : within (7 * r.pages) m r.pages r.start r.end ≡ true
  pub bytes : 512 * r.pages ≤ L
  pub few : r.pages ≤ 4096

-- r is the log of inode k on a volume with the words m, L bytes, P pages and N inodes
pub record LogOf (m : Mem) (L P N k : ℕ) (r : Log) : Type 0 where
  pub of_pages : r.pages ≡ P
  pub inside : Inside m L r
  pub apart : distinct (log_words m r) ≡ true
  pub placed : all is_placed (log_words m r) ≡ true
  pub entries_are : log_entries m r ≡ entries (view m) P N k
  pub from_page : r.start % 8 ≡ 0
  pub to_slot : (r.end ≡ 0 → ⊥) → r.end % 8 ≡ 0 → ⊥
