-- The table and the tree of folders: where the parents are the same, so are the ways up.
use Rattle.model.proofs.Prelude.{ℕ, zero, suc, ◌≤◌, ◌<◌, ◌≡◌, refl, Bool, true, false, cond, List, arith, eqb, ne_eqb, le-ltb}
use Rattle.model.specs.Tree.{Folders, name_count, parent_of, above, is_reached, is_beneath}
use Rattle.model.proofs.Tests.{by_eq}
use Rattle.model.proofs.Tree.{Reaches, top, up, parent_below}
use Rattle.tree.specs.Table as table
use Rattle.tree.specs.Table.{state_in, parent_in, above_in, Climbs}
use Rattle.tree.specs.Noted.{file_state, settled_state, Settled}

module _ (N : ℕ) (F : Folders) (t : List ℕ) (same : (k : ℕ) → k < N → parent_in t k ≡ parent_of N F k) where
  pub above_is : (n f k : ℕ) → k < N → above_in t n f k ≡ above N F n f k
  unfolding above_in above
  above_is zero f k l = refl
  above_is (suc n) f k l = rw (above_in, above, same k l, above_is n f (parent_of N F k) (parent_below N F (omega arith) k))

  pub reached_is : (k : ℕ) → k < N → above_in t N 0 k ≡ is_reached N F k
  unfolding is_reached
  reached_is k l = above_is N 0 k l

  pub beneath_is : (f k : ℕ) → k < N → above_in t N f k ≡ is_beneath N F f k
  unfolding is_beneath
  beneath_is f k l = above_is N f k l

  pub climbs_reaches : {k : ℕ} → Climbs t k → k < N → Reaches N F k
  climbs_reaches table.top l = top
  climbs_reaches (table.up k c) l =
      up k (rw (same k l) at (climbs_reaches c (rw (same k l) (parent_below N F (omega arith) k))))

-- `released`: of a file with names, and of a folder with one, it answers the inode that has no other name
module _ (N : ℕ) (valid dir : ℕ → Bool) (F : Folders) (t : List ℕ) (s : Settled N valid dir F t) (k : ℕ) (l : k < N)
    (v : valid k ≡ true) where
  pub released_folder : dir k ≡ true → cond (eqb (state_in t k) 3) 0 k ≡ k
  unfolding settled_state
  released_folder d = rw (s.state k l, v, d)

  pub released_file : dir k ≡ false → 1 ≤ name_count N F k → cond (eqb (state_in t k) 3) 0 k ≡ cond (eqb (name_count N F k) 1) k 0
  unfolding settled_state file_state
  released_file d c =
      by_eq (name_count N F k) 1 (λ e. rw (s.state k l, v, d, e))
      (λ e. rw (s.state k l, v, d, le-ltb (name_count N F k) 2 (omega arith), ne_eqb (name_count N F k) 1 e))
