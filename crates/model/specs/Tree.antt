-- Folders as a tree. Document 02, order 6. Nothing here looks at a memory: `F d` is the list of names of folder d, and empty where d is no
-- folder.
use Rattle.std.specs.Prelude.{ℕ, zero, suc, ◌+◌, Bool, true, cond, List, [], ◌∷◌, eqb}
use Rattle.model.specs.Lists.{sum_below, lowest, has, count, or_else}
use Rattle.model.specs.Layout.{root}
use Rattle.model.specs.State.{Names, inodes}

-- the names of every folder, by its inode
abbrev pub Folders : Type 0
Folders = ℕ → Names

module _ (N : ℕ) (F : Folders) where
  -- how many names lead to inode k, in all folders
  unfoldable pub name_count : ℕ → ℕ
  name_count k = sum_below N (λ d. count k (inodes (F d)))

  -- the folder that holds inode k's name, the lowest where several do; inode 0 where none does
  unfoldable pub parent_of : ℕ → ℕ
  parent_of k = or_else (lowest (λ d. has k (inodes (F d))) N 0) root

  -- whether folder f is folder k or one of the n folders next above it
  unfoldable pub above : ℕ → ℕ → ℕ → Bool
  above zero f k = eqb k f
  above (suc n) f k = let r = above n f (parent_of k) in cond (eqb k f) true r

  -- "reached from inode 0": a way up from k through N folders that does not meet inode 0 stands on a folder for the second time
  unfoldable pub is_reached : ℕ → Bool
  is_reached k = above N root k

  -- "into or beneath itself": folder k is folder f or lies beneath it
  unfoldable pub is_beneath : ℕ → ℕ → Bool
  is_beneath f k = above N f k

-- f x₀ + f x₁ + ..
unfoldable pub sum_over : (ℕ → ℕ) → List ℕ → ℕ
sum_over f [] = 0
sum_over f (x ∷ xs) = f x + sum_over f xs

-- "the bytes beneath a folder are the sum over its names, where a file counts its size once for each name and a folder counts what lies
-- beneath it". `folder` and `size` say what an inode is, `beneath` what lies beneath a folder.
module _ (F : Folders) (folder : ℕ → Bool) (size : ℕ → ℕ) where
  unfoldable pub name_counts : (ℕ → ℕ) → ℕ → ℕ
  name_counts beneath k = let b = beneath k in cond (folder k) b (size k)

  -- n inodes are still unvisited on the way down
  unfoldable pub folder_total : ℕ → ℕ → ℕ
  folder_total zero d = 0
  folder_total (suc n) d = sum_over (name_counts (folder_total n)) (inodes (F d))

  unfoldable pub name_total : ℕ → ℕ → ℕ
  name_total n k = name_counts (folder_total n) k
