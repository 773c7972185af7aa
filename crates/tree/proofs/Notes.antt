-- The cases of `note`: s is the number of the state of inode k in the table t, and n that of the state after one name more.
use Rattle.model.proofs.Prelude.{ℕ, ◌≡◌, true, false, List, ne_eqb}
use Rattle.model.proofs.Tests.{no}
use Rattle.tree.specs.Table.{state_in, with_state, after_name, may_name, noted}

module _ (t : List ℕ) (k s n : ℕ) (e : s ≡ state_in t k) (g : n ≡ after_name s) where
  pub note_bad : n ≡ 7 → false ≡ may_name (state_in t k)
  unfolding may_name
  note_bad h = rw (← e, ← g, h)

  pub note_good : (n ≡ 7 → ⊥) → true ≡ may_name (state_in t k)
  unfolding may_name
  note_good h = rw (← e, ← g, ne_eqb n 7 h)

  pub note_list : (d : ℕ) (t' : List ℕ) → t' ≡ with_state t k n d → t' ≡ noted t k d
  unfolding noted
  note_list d t' h = rw (← e, ← g) h

pub no_note : {X : Type 0} → false ≡ true → X
no_note e = no e
