-- The table of places that holds the names of one folder of an accepted volume.
use Rattle.std.specs.Prelude.{ℕ, ◌≡◌, true, List, length, take}
use Rattle.model.specs.Words.{word}
use Rattle.model.specs.Journal.{view}
use Rattle.model.specs.State.{Names}
use Rattle.model.specs.Accept.{folders_of, accepted}
use Rattle.model.specs.Public.{is_volume}
use Rattle.directory.specs.Places.{standing, Filled}
use Rattle.names.specs.declared.FolderNames.{FolderNames}

-- the names of folder d of the volume v; none where d is no folder
abbrev pub names_in : List ℕ → ℕ → Names
names_in v d = folders_of (view (word v)) (word v 0) (word v 1) d

-- v is an accepted volume
pub record Good (v : List ℕ) : Type 0 where
  pub volume : is_volume (length v) (word v) ≡ true
  pub good : accepted (word v) (word v 0) (word v 1) ≡ true

-- the first n places of a table are those of the names of folder d
pub record Lists (v : List ℕ) (d n : ℕ) (places : List ℕ) : Type 0 where
  pub filled : Filled (word v) (length v) n places
  pub names : standing (word v) (take n places) ≡ names_in v d

-- r says so of folder d
pub record Turned (v : List ℕ) (d : ℕ) (r : FolderNames) (places : List ℕ) : Type 0 where
  pub folder : r.folder ≡ d
  pub lists : Lists v d r.count places
