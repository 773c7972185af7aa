-- What reading a directory's names answers, and the table that it leaves.
use Rattle.std.specs.Prelude.{ℕ, ◌≤◌, ◌<◌, ◌≡◌, Bool, true, ◌&&◌, List, [], map, leb, length, take, replicate, Option, Some, None, is_some, Result, Ok, Err}
use Rattle.model.specs.Lists.{all, foldl, distinct}
use Rattle.model.specs.Words.{Mem}
use Rattle.model.specs.Layout.{most_names}
use Rattle.model.specs.Entry.{entry_at, name_entry_ok}
use Rattle.model.specs.State.{Names, name_step}
use Rattle.inode_log.specs.Found.{log_words, is_placed, Inside}
use Rattle.inode_log.specs.declared.Log.{Log}
use Rattle.index.specs.Index.{taken}
use Rattle.directory.specs.Places.{standing, Filled}
use Rattle.directory.specs.Standing.{index_of}
use Rattle.directory.specs.declared.Misfit.{Misfit}
use Rattle.directory.specs.declared.Misfit.TheVariants.{Bad, Full}

-- ok: whether the names are as they should be; ns: the names; r: the answer, None where they are not; t: the table afterwards, whose first
-- places have the names ns
pub record Folds (m : Mem) (L : ℕ) (ok : Bool) (ns : Names) (r : Option ℕ) (t : List ℕ) : Type 0 where
  pub good : is_some r ≡ ok
  pub count : (n : ℕ) → r ≡ Some n → n ≡ length ns
  pub long : length t ≡ 224
  pub filled : (n : ℕ) → r ≡ Some n → Filled m L n t
  pub names : (n : ℕ) → r ≡ Some n → standing m (take n t) ≡ ns

-- a log as `log_of` answers it: its steps stay in L bytes, and its entries start at words of which none comes twice
pub record FoundLog (m : Mem) (L : ℕ) (g : Log) : Type 0 where
  pub inside : Inside m L g
  pub apart : distinct (log_words m g) ≡ true
  pub placed : all is_placed (log_words m g) ≡ true
  pub some : 512 ≤ L

-- the names that a log leaves standing, and whether its entries and the count of its names are as a directory's should be
unfoldable pub log_names : Mem → Log → Names
log_names m g = foldl name_step [] (map (entry_at m) (log_words m g))

unfoldable pub names_fit : Mem → ℕ → Log → Bool
names_fit m N g = all (name_entry_ok N) (map (entry_at m) (log_words m g)) && leb (length (log_names m g)) most_names

-- r and t are what reading them with an empty index of M slots, which is to hold b names, answered and left
pub record FoldsWith (m : Mem) (L N b M : ℕ) (g : Log) (r : Result ℕ Misfit) (t : List ℕ) : Type 0 where
  pub done : (n : ℕ) → r ≡ Ok n → Folds m L (names_fit m N g) (log_names m g) (Some n) t
  pub bad : r ≡ Err Bad → Folds m L (names_fit m N g) (log_names m g) None t
  pub full : r ≡ Err Full → b < taken (index_of m (replicate M 0) (log_words m g))
  pub long : length t ≡ 224
