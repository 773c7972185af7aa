-- A file's state by its inode: the entries that the fold met are those of the model, and a table of zeros is the empty file.
use Rattle.model.proofs.Prelude.{ℕ, ◌≡◌, ◌∙◌, ap, fun_ext, Bool, true, false, List, replicate, get_or-replicate, length-replicate, get_or-eq_default}
use Rattle.model.specs.Lists.{is_some}
use Rattle.std.specs.Prelude.{Option, Some, IsSome}
use Rattle.model.specs.Words.{Mem}
use Rattle.model.specs.Layout.{is_directory}
use Rattle.model.specs.Journal.{view}
use Rattle.model.specs.Log.{log_pages, entries}
use Rattle.model.specs.State.{File, empty_file, file_of}
use Rattle.model.specs.Accept.{log_ok}
use Rattle.model.proofs.Tests.{by_lt, ands}
use Rattle.inode_log.specs.Found.{log_entries, LogOf}
use Rattle.inode_log.specs.declared.Log.{Log}
use Rattle.files.specs.State.{file_from, Folds, FoldsOver}

empty_table : (n : ℕ) → file_from 0 (replicate n 0) ≡ empty_file
unfolding empty_file
empty_table n =
    let f : (ℕ → ℕ) → File = λ y. record { size = 0; page = y } in
    ap f (fun_ext (λ i. by_lt i n (get_or-replicate n i 0 0) (λ l. get_or-eq_default (replicate n 0) 0 {n = i} (rw length-replicate l))))

pub fold_is : (m : Mem) (L P N k : ℕ) (g : Log) (x : Option ℕ) (w u : List ℕ) → LogOf m L P N k g → is_some (log_pages (view m) P N k) ≡ true
    → is_directory (view m) k ≡ false → w ≡ replicate 128 0 → FoldsOver g.pages N (log_entries m g) w x u
    → Folds (log_ok (view m) P N k) (file_of (view m) P N k) x u
unfolding log_ok file_of
fold_is m L P N k g x w u l s z v f =
    let c : FoldsOver P N (entries (view m) P N k) (replicate 128 0) x u = rw (l.entries_are, v, l.of_pages) at f in
    rw (z, s) (rw (empty_table 128) at c)

-- a log that is good has a walk that ends
pub log_ends : (u : Mem) (P N k : ℕ) → log_ok u P N k ≡ true → is_some (log_pages u P N k) ≡ true
unfolding log_ok
log_ends u P N k ok = search ands

pub good_answer : (ok : Bool) (f : File) (x : Option ℕ) (t : List ℕ) → Folds ok f x t → ok ≡ true → IsSome x
good_answer ok f x t h y = h.good ∙ y

pub good_size : (ok : Bool) (f : File) (x : Option ℕ) (s : ℕ) (t : List ℕ) → Folds ok f x t → x ≡ Some s → file_from s t ≡ f
good_size ok f x s t h y = h.file s y
