-- What the entries of a clean log are made from, and what laying them anew asks.
use Rattle.std.specs.Prelude.{ℕ, ◌≤◌, ◌<◌, ◌≡◌, true, List, length}
use Rattle.model.specs.Words.{word}
use Rattle.model.specs.Journal.{view}
use Rattle.model.specs.Accept.{is_valid}
use Rattle.model.specs.FileMap.{clean}
use Rattle.model.specs.Calls.{clean_action}
use Rattle.names.specs.Listed.{Good, Lists}
use Rattle.inodes.specs.Judged.{Closed}
use Rattle.answer.specs.Comes.{came_to}
use Rattle.append.specs.Appended.{outcome}

-- v is an accepted volume, inode k is valid, and its names, none where it is a file, stand at the first n places
pub record Cleanable (v : List ℕ) (n : ℕ) (places : List ℕ) (k : ℕ) : Type 0 where
  pub volume : Good v
  pub lists : Lists v k n places
  pub below : k < word v 1
  pub valid : is_valid (view (word v)) k ≡ true

-- behind the checks of clean, lent the list l: its action is all that is left
pub record Checked (v l marks : List ℕ) (k : ℕ) : Type 0 where
  pub closed : Closed v marks
  pub room : 4096 ≤ length l
  pub comes : came_to v l (clean k) ≡ outcome v (clean_action (word v) (word v 0) (word v 1) k)
