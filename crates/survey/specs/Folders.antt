-- What the functions that judge folders answer, r, and what they leave in the tables.
use Rattle.std.specs.Prelude.{ℕ, ◌-◌, ◌≤◌, ◌<◌, ◌≡◌, Bool, true, false, List, length, Option, Some, None}
use Rattle.model.specs.Lists.{all_below}
use Rattle.model.specs.Words.{word}
use Rattle.model.specs.Layout.{root, is_directory}
use Rattle.model.specs.Journal.{view, journal_ok}
use Rattle.model.specs.Accept.{is_valid, is_folder, log_ok, folder_ok, view_ok, accepted}
use Rattle.model.specs.Public.{is_volume}
use Rattle.tree.specs.Noted.{Noted}
use Rattle.names.specs.Listed.{names_in, Lists}
use Rattle.inodes.specs.Judged.{shape_ok, AllJudged}

-- v is a volume whose journal is good and whose inodes are, what folders' logs say apart
pub record Walks (v : List ℕ) : Type 0 where
  pub volume : is_volume (length v) (word v) ≡ true
  pub journal : journal_ok (word v) (word v 1) ≡ true
  pub inodes : all_below (word v 1) (shape_ok (view (word v)) (word v 0) (word v 1)) ≡ true

-- the table of the tree once the names of the n folders from d on were noted
abbrev pub TreeFrom : List ℕ → ℕ → ℕ → List ℕ → Type 0
TreeFrom v n d t = Noted (word v 1) (is_valid (view (word v))) (is_directory (view (word v))) (names_in v) n d t

-- what is judged of a volume before its folders: b are the marks, and c the tree
pub record Shaped (v : List ℕ) (r : Bool) (b c : List ℕ) : Type 0 where
  pub walks : r ≡ true → Walks v
  pub judged : r ≡ true → AllJudged (view (word v)) (word v 0) (word v 1) true b
  pub start : r ≡ true → TreeFrom v 0 (word v 1) c
  pub bad : r ≡ false → accepted (word v) (word v 0) (word v 1) ≡ false

-- folder d is as an accepted volume has it
pub record FolderGood (v : List ℕ) (d : ℕ) : Type 0 where
  pub log : log_ok (view (word v)) (word v 0) (word v 1) d ≡ true
  pub names : folder_ok (view (word v)) (names_in v d) ≡ true

pub record FolderJudged (v : List ℕ) (d : ℕ) (r : Option ℕ) (places tree : List ℕ) : Type 0 where
  pub good : (n : ℕ) → r ≡ Some n → FolderGood v d
  pub lists : (n : ℕ) → r ≡ Some n → Lists v d n places
  pub noted : (n : ℕ) → r ≡ Some n → TreeFrom v (word v 1 - d) d tree
  pub bad : r ≡ None → view_ok (view (word v)) (word v 0) (word v 1) ≡ false
  pub long : length places ≡ 224

-- the folders from d on are as an accepted volume has them
abbrev pub FoldersGood : List ℕ → ℕ → Type 0
FoldersGood v d = (e : ℕ) → e < word v 1 → d ≤ e → is_folder (view (word v)) e ≡ true → FolderGood v e

pub record FoldersJudged (v : List ℕ) (r : Option ℕ) (places tree : List ℕ) : Type 0 where
  pub good : (n : ℕ) → r ≡ Some n → FoldersGood v root
  pub lists : (n : ℕ) → r ≡ Some n → Lists v root n places
  pub noted : (n : ℕ) → r ≡ Some n → TreeFrom v (word v 1) 0 tree
  pub bad : r ≡ None → view_ok (view (word v)) (word v 0) (word v 1) ≡ false
