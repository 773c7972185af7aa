-- The number of a state and of a node, by which the table is a list of numbers.
use Rattle.std.specs.Prelude.{ℕ, ◌+◌, ◌*◌, ◌<◌, List, get_or, Option, None, Some}
use Rattle.tree.specs.declared.State.{State}
use Rattle.tree.specs.declared.State.TheVariants.{Free, File, FileOnce, FileOften, Folder, FolderNamed, FolderReached}
use Rattle.tree.specs.declared.Node.{Node}

abbrev pub state_number : State → ℕ
state_number Free = 0
state_number File = 1
state_number FileOnce = 2
state_number FileOften = 3
state_number Folder = 4
state_number FolderNamed = 5
state_number FolderReached = 6

-- the same of a state that an inode may have; 7, the number of no state, where it may have none
abbrev pub state_number_or : Option State → ℕ
state_number_or (Some s) = state_number s
state_number_or None = 7

abbrev pub node_number : Node → ℕ
node_number n = 256 * state_number n.state + n.parent

-- every parent is a number of one byte
abbrev pub ParentsFit : List Node → Type 0
ParentsFit ns = (k : ℕ) (d : Node) → d.parent < 256 → (get_or ns k d).parent < 256
