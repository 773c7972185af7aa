-- How an inode's type word says its kind: "type 0 is a file, type 1 a folder".
use Rattle.std.specs.Prelude.{ℕ, ◌≡◌, ◌<◌, Result, MatchResult}
use Rattle.layout.specs.declared.Kind.{Kind}
use Rattle.layout.specs.declared.Kind.TheVariants.{File, Folder}
use Rattle.layout.specs.declared.UnknownKind.{UnknownKind}

-- the type word of a kind
abbrev pub type_of : Kind → ℕ
type_of File = 0
type_of Folder = 1

-- r is the kind that the type word t says, or an error with a word that says none
abbrev pub Decodes : ℕ → Result Kind UnknownKind → Type 0
Decodes t r = MatchResult r (λ kind. type_of kind ≡ t) (λ e. (e.0 ≡ t) × (1 < t))
