-- What the table of the tree means: F d are the names of folder d, and `valid` and `dir` say which inodes are valid and which are folders.
use Rattle.std.specs.Prelude.{ℕ, zero, suc, ◌+◌, ◌*◌, ◌≤◌, ◌<◌, ◌≡◌, Bool, true, cond, List, ltb, get_or, length}
use Rattle.model.specs.Lists.{lowest, has, count, or_else}
use Rattle.model.specs.Layout.{root}
use Rattle.model.specs.State.{inodes}
use Rattle.model.specs.Tree.{Folders, name_count, parent_of}
use Rattle.tree.specs.Table.{state_in, parent_in}

module _ (F : Folders) where
  -- how many names lead to inode k, in the n folders from d on
  unfoldable pub count_from : ℕ → ℕ → ℕ → ℕ
  count_from zero d k = 0
  count_from (suc n) d k = count k (inodes (F d)) + count_from n (d + 1) k

  -- the lowest of these folders with such a name; inode 0 where none has one
  unfoldable pub parent_from : ℕ → ℕ → ℕ → ℕ
  parent_from n d k = or_else (lowest (λ e. has k (inodes (F e))) n d) root

-- the state of an inode with c names, while names are noted and when the table is settled
unfoldable pub file_state : ℕ → ℕ
file_state c = cond (ltb c 2) (1 + c) 3

unfoldable pub noted_state : Bool → Bool → ℕ → ℕ
noted_state valid dir c = cond valid (cond dir (4 + c) (file_state c)) 0

unfoldable pub settled_state : Bool → Bool → ℕ → ℕ
settled_state valid dir c = cond valid (cond dir 6 (file_state c)) 0

-- the table of N inodes when c k names of inode k were noted, and p k is the parent that it has then
pub record Shows (N : ℕ) (valid dir : ℕ → Bool) (c p : ℕ → ℕ) (t : List ℕ) : Type 0 where
  pub first : get_or t 0 0 ≡ 256 * 6
  pub element : (k : ℕ) → 0 < k → k < N → get_or t k 0 ≡ 256 * noted_state (valid k) (dir k) (c k) + p k
  pub once : (k : ℕ) → 0 < k → k < N → valid k ≡ true → dir k ≡ true → c k ≤ 1
  pub near : (k : ℕ) → p k < N
  pub long : length t ≡ 256

-- the same once the names of the n folders from d on were noted
abbrev pub Noted : ℕ → (ℕ → Bool) → (ℕ → Bool) → Folders → ℕ → ℕ → List ℕ → Type 0
Noted N valid dir F n d t = Shows N valid dir (count_from F n d) (parent_from F n d) t

-- the table that the judge leaves of an accepted volume
pub record Settled (N : ℕ) (valid dir : ℕ → Bool) (F : Folders) (t : List ℕ) : Type 0 where
  pub state : (k : ℕ) → k < N → state_in t k ≡ settled_state (valid k) (dir k) (name_count N F k)
  pub parent : (k : ℕ) → k < N → parent_in t k ≡ parent_of N F k
