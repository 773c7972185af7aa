-- A file's state as the code has it: a size, and a table of the data pages of its 128 file pages.
use Rattle.std.specs.Prelude.{ℕ, zero, suc, ◌+◌, ◌*◌, ◌≡◌, Bool, ◌||◌, List, ltb, eqb, set, get_or, length, Option, Some}
use Rattle.std.specs.Option.{is_some}
use Rattle.model.specs.Lists.{all_below, all, foldl}
use Rattle.model.specs.Entry.{Entry as Full, write_entry, size_entry, add_entry, remove_entry, no_entry, file_entry_ok}
use Rattle.model.specs.State.{File, file_step}
use Rattle.inode_log.specs.Entries.{meant}
use Rattle.inode_log.specs.declared.Entry.{Entry}

-- the file that a size and a table stand for
abbrev pub file_from : ℕ → List ℕ → File
file_from s t = record { size = s; page = λ i. get_or t i 0 }

-- a table with g i, g (i + 1), .. : n values, stored from index i on
unfoldable pub filled : (ℕ → ℕ) → List ℕ → ℕ → ℕ → List ℕ
filled g t i zero = t
filled g t i (suc n) = filled g (set t i (g i)) (i + 1) n

-- the size that an entry of a file's log leaves the file with
unfoldable pub size_in : Full → ℕ
size_in (write_entry f d c z) = z
size_in (size_entry z) = z
size_in (add_entry i l f) = 0
size_in (remove_entry l f) = 0
size_in no_entry = 0

-- r and u are the size and the table that entry e makes of s and t
pub record Applied (s : ℕ) (t : List ℕ) (e : Entry) (r : ℕ) (u : List ℕ) : Type 0 where
  pub file : file_from r u ≡ file_step (file_from s t) (meant e)
  pub long : length u ≡ 128

-- the answer r and the table t of a log that is right if ok, and whose file is then f
pub record Folds (ok : Bool) (f : File) (r : Option ℕ) (t : List ℕ) : Type 0 where
  pub good : is_some r ≡ ok
  pub file : (s : ℕ) → r ≡ Some s → file_from s t ≡ f

-- the same of the entries es, for a table that was t
abbrev pub FoldsOver : ℕ → ℕ → List Full → List ℕ → Option ℕ → List ℕ → Type 0
FoldsOver P N es t r u = Folds (all (file_entry_ok P N) es) (foldl file_step (file_from 0 t) es) r u

-- whether each of the first n file pages is unmapped or starts below the size
unfoldable pub starts_ok : List ℕ → ℕ → ℕ → Bool
starts_ok t s n = all_below n (λ i. eqb (get_or t i 0) 0 || ltb (512 * i) s)

-- whether f is 0 at the n numbers from b on; f is `byte_at m` for the bytes of a memory m, and m itself for its words
unfoldable pub zeros_at : (ℕ → ℕ) → ℕ → ℕ → Bool
zeros_at f b n = all_below n (λ j. eqb (f (b + j)) 0)
