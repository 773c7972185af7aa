-- What looking a name up among names answers.
use Rattle.std.specs.Prelude.{ℕ, cond, List, eqb, Option, Some, None}
use Rattle.model.specs.State.{Names, inode_of}

-- the inode that the name n leads to, and None where it does not stand: no name leads to inode 0
abbrev pub found_inode : Names → List ℕ → Option ℕ
found_inode ns n = cond (eqb (inode_of ns n) 0) None (Some (inode_of ns n))
