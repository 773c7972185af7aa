-- The table of the tree as a list of 256 numbers: element k is 256 times the state of inode k, plus its parent. Nothing here looks at
-- names.
use Rattle.std.specs.Prelude.{ℕ, zero, suc, ◌+◌, ◌*◌, ◌/◌, ◌%◌, ◌<◌, ◌≡◌, Bool, true, false, cond, not, List, [], ◌∷◌, ◌⊎◌, eqb, get_or, set, length}

-- the state and the parent of inode k
abbrev pub state_in : List ℕ → ℕ → ℕ
state_in t k = get_or t k 0 / 256

abbrev pub parent_in : List ℕ → ℕ → ℕ
parent_in t k = get_or t k 0 % 256

-- the table with state s and parent p of inode k
abbrev pub with_state : List ℕ → ℕ → ℕ → ℕ → List ℕ
with_state t k s p = set t k (256 * s + p)

-- the state after one name more; 7 where no inode may have that name
unfoldable pub after_name : ℕ → ℕ
after_name s = cond (eqb s 1) 2 (cond (eqb s 2) 3 (cond (eqb s 3) 3 (cond (eqb s 4) 5 7)))

unfoldable pub may_name : ℕ → Bool
may_name s = not (eqb (after_name s) 7)

-- the table after a name of folder d that leads to inode k
unfoldable pub noted : List ℕ → ℕ → ℕ → List ℕ
noted t k d = with_state t k (after_name (state_in t k)) d

-- the same of names that lead to the inodes ks, one after the other, and whether each may be noted
unfoldable pub noted_all : List ℕ → ℕ → List ℕ → List ℕ
noted_all t d [] = t
noted_all t d (k ∷ ks) = noted_all (noted t k d) d ks

unfoldable pub may_note : List ℕ → ℕ → List ℕ → Bool
may_note t d [] = true
may_note t d (k ∷ ks) = let r = may_note (noted t k d) d ks in cond (may_name (state_in t k)) r false

-- whether inode f is inode k or one of the n next above it
unfoldable pub above_in : List ℕ → ℕ → ℕ → ℕ → Bool
above_in t zero f k = eqb k f
above_in t (suc n) f k = let r = above_in t n f (parent_in t k) in cond (eqb k f) true r

-- a way up from inode k to inode 0
pub data Climbs (t : List ℕ) : ℕ → Type 0 where
  top : Climbs t 0
  up : (k : ℕ) → Climbs t (parent_in t k) → Climbs t k

-- a table of N inodes before `settle_all`: inode 0 alone is known to be reached
pub record Unsettled (N : ℕ) (t : List ℕ) : Type 0 where
  pub root : state_in t 0 ≡ 6
  pub alone : (k : ℕ) → 0 < k → k < N → state_in t k ≡ 6 → ⊥
  pub parents : (k : ℕ) → k < N → parent_in t k < N
  pub long : length t ≡ 256

-- what `settle_all` answers of N inodes, r, and the table t' that it leaves: every folder with a name is a reached one
pub record SettlesAll (N : ℕ) (t : List ℕ) (r : Bool) (t' : List ℕ) : Type 0 where
  pub named : r ≡ true → (k : ℕ) → k < N → (state_in t k ≡ 1 → ⊥) × (state_in t k ≡ 4 → ⊥)
  pub reached : r ≡ true → (k : ℕ) → k < N → state_in t k ≡ 5 → Climbs t k
  pub list : r ≡ true → (k : ℕ) → k < N → get_or t' k 0 ≡ cond (eqb (state_in t k) 5) (256 * 6 + parent_in t k) (get_or t k 0)
  pub bad : r ≡ false → (k : ℕ) × (k < N) × ((state_in t k ≡ 1) ⊎ ((state_in t k ≡ 4) ⊎ ((state_in t k ≡ 5) × (above_in t N 0 k ≡ false))))
