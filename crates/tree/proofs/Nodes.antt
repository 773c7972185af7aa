-- The table as nodes and as numbers: a node read is its number taken apart, and a node put is its number put.
use Rattle.model.proofs.Prelude.{ℕ, ◌<◌, ◌≡◌, List, length, map, get_or, zero, suc, replicate, arith, ap, ◌⊎◌, inl, inr}
use Rattle.std.proofs.lemmas.List.{get_or-map}
use Rattle.tree.specs.declared.Node.{Node}
use Rattle.tree.specs.declared.State.{State}
use Rattle.tree.specs.declared.State.TheVariants.{Free, File, FileOnce, FileOften, Folder, FolderNamed, FolderReached}
use Rattle.tree.specs.Node.{state_number, node_number, ParentsFit}
use Rattle.tree.specs.Table.{state_in}

module _ (ns : List Node) (t : List ℕ) (v : map node_number ns ≡ t) (k : ℕ) (i : k < length ns) (d : Node) (fit : ParentsFit ns) (z : d.parent < 256) where
  number_at : get_or t k 0 ≡ node_number (get_or ns k d)
  number_at = rw (← v) (get_or-map node_number ns k d 0 i)

  pub state_at : state_number (get_or ns k d).state ≡ state_in t k
  state_at = rw number_at (let low : (get_or ns k d).parent < 256 = fit k d z in omega arith)

pub new_fits : (n : ℕ) (x : Node) → x.parent < 256 → ParentsFit (replicate n x)
new_fits zero x l k d h = h
new_fits (suc n) x l zero d h = l
new_fits (suc n) x l (suc k) d h = new_fits n x l k d h

-- a state other than FolderNamed has another number
pub not_named : (s : State) → (s ≡ FolderNamed → ⊥) → state_number s ≡ 5 → ⊥
not_named Free h e = omega (arith, e)
not_named File h e = omega (arith, e)
not_named FileOnce h e = omega (arith, e)
not_named FileOften h e = omega (arith, e)
not_named Folder h e = omega (arith, e)
not_named FolderNamed h e = h (λ i. FolderNamed)
not_named FolderReached h e = omega (arith, e)

-- no state has the number of none
pub some_state : (s : State) → state_number s ≡ 7 → ⊥
some_state Free e = omega (arith, e)
some_state File e = omega (arith, e)
some_state FileOnce e = omega (arith, e)
some_state FileOften e = omega (arith, e)
some_state Folder e = omega (arith, e)
some_state FolderNamed e = omega (arith, e)
some_state FolderReached e = omega (arith, e)

-- the states that `settle` lets pass have none of the numbers of the others
pub others : (s : State) → (s ≡ Free) ⊎ ((s ≡ FileOnce) ⊎ ((s ≡ FileOften) ⊎ (s ≡ FolderReached)))
    → (state_number s ≡ 1 → ⊥) × (state_number s ≡ 4 → ⊥) × (state_number s ≡ 5 → ⊥)
others s (inl h) = let n : state_number s ≡ 0 = ap state_number h in ((λ e. omega (arith, e)), (λ e. omega (arith, e)), (λ e. omega (arith, e)))
others s (inr (inl h)) = let n : state_number s ≡ 2 = ap state_number h in ((λ e. omega (arith, e)), (λ e. omega (arith, e)), (λ e. omega (arith, e)))
others s (inr (inr (inl h))) = let n : state_number s ≡ 3 = ap state_number h in ((λ e. omega (arith, e)), (λ e. omega (arith, e)), (λ e. omega (arith, e)))
others s (inr (inr (inr h))) = let n : state_number s ≡ 6 = ap state_number h in ((λ e. omega (arith, e)), (λ e. omega (arith, e)), (λ e. omega (arith, e)))
