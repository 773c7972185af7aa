-- The way up from an inode in the table: what it meets, and what is marked on it. State 5 is a folder with one name, 6 one that is reached.
use Rattle.std.specs.Prelude.{ℕ, zero, suc, Bool, true, false, cond, List, eqb}
use Rattle.tree.specs.Table.{state_in, parent_in, with_state}

-- whether inode k or one of the n next above it is a folder that is reached
unfoldable pub meets_in : List ℕ → ℕ → ℕ → Bool
meets_in t zero k = eqb (state_in t k) 6
meets_in t (suc n) k = let r = meets_in t n (parent_in t k) in cond (eqb (state_in t k) 6) true r

-- the table with the folders from k up reached, n at most, as far as the first of another state than 5
unfoldable pub way_marked : List ℕ → ℕ → ℕ → List ℕ
way_marked t zero k = t
way_marked t (suc n) k =
    let r = way_marked (with_state t k 6 (parent_in t k)) n (parent_in t k) in cond (eqb (state_in t k) 5) r t

-- whether inode k of N passes, and the table then
unfoldable pub passes : List ℕ → ℕ → ℕ → Bool
passes t N k =
    let r = meets_in t N k in
    cond (eqb (state_in t k) 1) false (cond (eqb (state_in t k) 4) false (cond (eqb (state_in t k) 5) r true))

unfoldable pub passed : List ℕ → ℕ → ℕ → List ℕ
passed t N k = let r = way_marked t N k in cond (eqb (state_in t k) 5) r t
