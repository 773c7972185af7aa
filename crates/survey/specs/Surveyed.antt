-- What the judge of a volume answers, and what its tables hold where the volume is accepted.
use Rattle.std.specs.Prelude.{ℕ, ◌≡◌, true, List, Option, Some, is_some}
use Rattle.model.specs.Words.{Mem, word}
use Rattle.model.specs.Layout.{root, is_directory}
use Rattle.model.specs.Journal.{view}
use Rattle.model.specs.Accept.{is_valid, folders_of, accepted}
use Rattle.tree.specs.Noted.{Settled}
use Rattle.names.specs.Listed.{Lists}
use Rattle.inodes.specs.Judged.{Served}

-- the table of the tree of an accepted volume with the words m
abbrev pub TreeOf : Mem → List ℕ → Type 0
TreeOf m t = Settled (m 1) (is_valid (view m)) (is_directory (view m)) (folders_of (view m) (m 0) (m 1)) t

-- r: how many names inode 0 of the volume v has, None where the volume is not accepted. Where it is, the first places are those of these
-- names, the marks those of the pages in use, and the tree is settled.
pub record Surveyed (v : List ℕ) (r : Option ℕ) (places marks tree : List ℕ) : Type 0 where
  pub answer : is_some r ≡ accepted (word v) (word v 0) (word v 1)
  pub lists : (n : ℕ) → r ≡ Some n → Lists v root n places
  pub served : (n : ℕ) → r ≡ Some n → Served (view (word v)) (word v 0) (word v 1) true marks
  pub settled : (n : ℕ) → r ≡ Some n → TreeOf (word v) tree
