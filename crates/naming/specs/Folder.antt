-- What the calls by name append to the logs of folders.
use Rattle.std.specs.Prelude.{ℕ, Bool, false, cond, List, eqb}
use Rattle.model.specs.FileMap.{Call, create, create_folder}
use Rattle.layout.specs.declared.Kind.{Kind}
use Rattle.layout.specs.declared.Kind.TheVariants.{File, Folder}
use Rattle.append.specs.declared.Append.{Append}
use Rattle.checks.specs.declared.TwoFolders.{TwoFolders}

-- an append to the log of folder d, which keeps the last free page or not (b); the valid word of inode o becomes x, and its type t
abbrev pub folder_append : ℕ → Bool → ℕ → ℕ → ℕ → Append
folder_append d b o x t =
    record { log = d; file = 0; size = 0; second = 0; moved = 0; other = o; valid = x; kind = t; anew = false; keeps = b }

-- one to the log of folder d, whose last entry goes to that of folder e; inode o is let go
abbrev pub move_append : ℕ → ℕ → ℕ → Append
move_append d e o =
    record { log = d; file = 0; size = 0; second = e; moved = 1; other = o; valid = 0; kind = 0; anew = false; keeps = false }

-- that of a rename
unfoldable pub rename_append : TwoFolders → ℕ → Append
rename_append f o = cond (eqb f.old f.new) (folder_append f.old false o 0 0) (move_append f.old f.new o)

-- the call that makes an inode of this kind
abbrev pub make_call : Kind → ℕ → List ℕ → Call
make_call File d n = create d n
make_call Folder d n = create_folder d n
