-- What the functions that put lines ask of the names of a volume v.
use Rattle.std.specs.Prelude.{ℕ, ◌+◌, ◌*◌, ◌<◌, ◌≡◌, true, List, [], ◌∷◌}
use Rattle.model.specs.Words.{Mem, word}
use Rattle.model.specs.Journal.{view}
use Rattle.model.specs.State.{Names}
use Rattle.model.specs.Accept.{is_valid}
use Rattle.model.specs.Listing.{name_line, name_lines}
use Rattle.directory.specs.Fields.{name_at}
use Rattle.totals.specs.Totals.{counts_in}

-- inode k is one of N, and valid
pub record GoodInode (u : Mem) (N k : ℕ) : Type 0 where
  pub below : k < N
  pub valid : is_valid u k ≡ true

-- each of the names leads to such an inode
unfoldable pub GoodInodes : Mem → ℕ → Names → Type 0
GoodInodes u N [] = Unit {0}
GoodInodes u N (p ∷ ps) = GoodInode u N p.1 × GoodInodes u N ps

-- the line of the name of the entry at place p, and the lines of names
abbrev pub line_of : List ℕ → ℕ → List ℕ
line_of v p = name_line (word v (8 * p + 1)) (counts_in v (word v 1) (word v (8 * p + 1))) (name_at (word v) (8 * p))

abbrev pub lines_of : List ℕ → Names → List ℕ
lines_of v ns = name_lines (view (word v)) (word v 0) (word v 1) ns
