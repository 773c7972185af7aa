-- The cases of the functions that climb: t is the table, s the state of inode k or its number, p its parent, and z is what the whole climb
-- comes to.
use Rattle.model.proofs.Prelude.{ℕ, suc, ◌+◌, ◌-◌, ◌≤◌, ◌<◌, ◌≡◌, Bool, true, false, List, ◌⊎◌, inl, inr, arith, eqb, eq-eqb, ne_eqb}
use Rattle.tree.specs.declared.State.{State}
use Rattle.tree.specs.declared.State.TheVariants.{Free, File, FileOnce, FileOften, Folder, FolderNamed, FolderReached}
use Rattle.tree.specs.Node.{state_number}
use Rattle.tree.specs.Table.{state_in, parent_in, with_state, above_in}
use Rattle.tree.specs.Way.{meets_in, way_marked, passes, passed}
use Rattle.tree.proofs.Nodes.{not_named, others}

-- What is left of a climb of n steps behind its first i.
one_left : (n i : ℕ) → i < n → n - i ≡ suc (n - (i + 1))
one_left n i l = omega arith

none_left : (n i : ℕ) → n ≤ i → n - i ≡ 0
none_left n i l = omega arith

-- `is_beneath`
pub above_here : (t : List ℕ) (n i f k : ℕ) (z : Bool) → above_in t (n - i) f k ≡ z → i < n → k ≡ f → true ≡ z
unfolding above_in
above_here t n i f k z a l e = rw (one_left n i l, above_in, eq-eqb k f e) at a

pub above_next : (t : List ℕ) (n i f k p : ℕ) (z : Bool) → above_in t (n - i) f k ≡ z → i < n → (k ≡ f → ⊥) → p ≡ parent_in t k
    → above_in t (n - (i + 1)) f p ≡ z
unfolding above_in
above_next t n i f k p z a l e h = rw h (rw (one_left n i l, above_in, ne_eqb k f e) at a)

pub above_last : (t : List ℕ) (n i f k : ℕ) (z : Bool) → above_in t (n - i) f k ≡ z → n ≤ i → eqb k f ≡ z
unfolding above_in
above_last t n i f k z a l = rw (none_left n i l, above_in) at a

-- `meets`
pub meets_here : (t : List ℕ) (n i k s : ℕ) (z r : Bool) → meets_in t (n - i) k ≡ z → i < n → s ≡ state_in t k → r ≡ eqb s 6 → r ≡ true
    → true ≡ z
unfolding meets_in
meets_here t n i k s z r a l e g h = rw (one_left n i l, meets_in, ← e, ← g, h) at a

pub meets_next : (t : List ℕ) (n i k s p : ℕ) (z r : Bool) → meets_in t (n - i) k ≡ z → i < n → s ≡ state_in t k → r ≡ eqb s 6 → r ≡ false
    → p ≡ parent_in t k → meets_in t (n - (i + 1)) p ≡ z
unfolding meets_in
meets_next t n i k s p z r a l e g h q = rw q (rw (one_left n i l, meets_in, ← e, ← g, h) at a)

pub meets_last : (t : List ℕ) (n i k s : ℕ) (z r : Bool) → meets_in t (n - i) k ≡ z → n ≤ i → s ≡ state_in t k → r ≡ eqb s 6 → r ≡ z
unfolding meets_in
meets_last t n i k s z r a l e g = rw (g, e) (rw (none_left n i l, meets_in) at a)

-- `mark_way`: z is the table that it comes to
pub way_stops : (t : List ℕ) (n i k : ℕ) (z : List ℕ) (s : State) → way_marked t (n - i) k ≡ z → i < n → state_number s ≡ state_in t k
    → (s ≡ FolderNamed → ⊥) → t ≡ z
unfolding way_marked
way_stops t n i k z s a l e h = rw (one_left n i l, way_marked, ← e, ne_eqb (state_number s) 5 (not_named s h)) at a

pub way_next : (t t' : List ℕ) (n i k p : ℕ) (z : List ℕ) (s : State) → way_marked t (n - i) k ≡ z → i < n → state_number s ≡ state_in t k
    → s ≡ FolderNamed → p ≡ parent_in t k → t' ≡ with_state t k 6 p → way_marked t' (n - (i + 1)) p ≡ z
unfolding way_marked
way_next t t' n i k p z s a l e h q r = rw (r, q) (rw (one_left n i l, way_marked, ← e, h) at a)

pub way_done : (t : List ℕ) (n i k : ℕ) (z : List ℕ) → way_marked t (n - i) k ≡ z → n ≤ i → t ≡ z
unfolding way_marked
way_done t n i k z a l = rw (none_left n i l, way_marked) at a

-- `settle`: s is the state of inode k
module _ (t : List ℕ) (N k : ℕ) (s : State) (e : state_number s ≡ state_in t k) where
  pub stop_nameless : (s ≡ File) ⊎ (s ≡ Folder) → false ≡ passes t N k
  unfolding passes
  stop_nameless (inl h) = rw (← e, h)
  stop_nameless (inr h) = rw (← e, h)

  pub pass_named : (r : Bool) → s ≡ FolderNamed → r ≡ meets_in t N k → r ≡ passes t N k
  unfolding passes
  pass_named r h g = rw (← e, h) g

  pub pass_marked : (r : Bool) (t' : List ℕ) → s ≡ FolderNamed → (r ≡ true → t' ≡ way_marked t N k) → r ≡ true → t' ≡ passed t N k
  unfolding passed
  pass_marked r t' h g y = rw (← e, h) (g y)

  module _ (o : (s ≡ Free) ⊎ ((s ≡ FileOnce) ⊎ ((s ≡ FileOften) ⊎ (s ≡ FolderReached)))) where
    pub pass_other : true ≡ passes t N k
    unfolding passes
    pass_other = let h = others s o in rw (← e, ne_eqb _ 1 h.0, ne_eqb _ 4 h.1, ne_eqb _ 5 h.2)

    pub pass_list : t ≡ passed t N k
    unfolding passed
    pass_list = rw (← e, ne_eqb _ 5 (others s o).2)
