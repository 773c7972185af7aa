-- The table in an array of 256 numbers of a caller: any number may stand there, and one of 1,792 or more has the number of no state.
use Rattle.std.specs.Prelude.{ℕ, ◌+◌, ◌*◌, ◌/◌, ◌%◌, cond, eqb, ltb}

-- the number of the state that a number says; 0, that of an inode that is not valid, where it says none
unfoldable pub known_state : ℕ → ℕ
known_state s = cond (ltb s 7) s 0

-- the element that a `Tree` has for an element x of the array: its state, where that is one, and its parent
unfoldable pub known : ℕ → ℕ
known x = 256 * known_state (x / 256) + x % 256

-- an element once the folders with one name are reached ones
unfoldable pub reached : ℕ → ℕ
reached x = cond (eqb (x / 256) 5) (x + 256) x
