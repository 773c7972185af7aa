-- What k-th name and total ask of the inode given as a folder.
use Rattle.std.specs.Prelude.{ℕ, not, List, [], ◌∷◌}
use Rattle.model.specs.Words.{word}
use Rattle.model.specs.Layout.{is_directory}
use Rattle.model.specs.Journal.{view}
use Rattle.model.specs.Answer.{Checks, not_there, wrong_type}
use Rattle.model.specs.Calls.{none_there}

-- inode d of the volume v
unfoldable pub folder_first : List ℕ → ℕ → Checks
folder_first v d =
    (none_there (view (word v)) (word v 0) (word v 1) d, not_there) ∷ (not (is_directory (view (word v)) d), wrong_type) ∷ []
