-- Places of a table: each is one of an entry with a name, and the names from the i-th on are the one there and those after it.
use Rattle.model.proofs.Prelude.{ℕ, ◌+◌, ◌*◌, ◌≤◌, ◌<◌, ◌≡◌, sym, ◌∙◌, Bool, true, false, not, cond, List, ◌∷◌, arith, add-one, length, get_or, take, drop, length-drop, drop-cons, get_or-take, length-take-le, eqb, leb-true}
use Rattle.std.specs.Prelude.{Option, Some, None}
use Rattle.std.specs.Bool.{then_some}
use Rattle.model.specs.Lists.{same_list}
use Rattle.model.specs.Words.{Mem}
use Rattle.model.specs.State.{inode_of}
use Rattle.model.proofs.Tests.{by_bool, ands}
use Rattle.model.proofs.Lists.{has_get_or, all_has, no_length}
use Rattle.directory.specs.Fields.{name_at, field_at}
use Rattle.directory.specs.Places.{standing, place_ok, Filled}
use Rattle.directory.proofs.Table.{next_ok}

-- The entry at a place p.

module _ (m : Mem) (L p : ℕ) (ok : place_ok m L p ≡ true) where
  pub place_in : 64 * p + 64 ≤ L
  place_in = leb-true (64 * p + 64) L (search ands)

  pub place_field : field_at m (8 * p) ≡ true
  place_field = search ands

-- The table t has c places; the code read p, the i-th of them.

module _ (m : Mem) (L c i p : ℕ) (t : List ℕ) (filled : Filled m L c t) (l : i < c) (e : p ≡ get_or t i 0) where
  pub place_ok_lem : place_ok m L p ≡ true
  place_ok_lem =
      let k : length (take c t) ≡ c = length-take-le c t (omega arith) in
      let g : get_or (take c t) i 0 ≡ p = get_or-take c t i 0 l ∙ sym e in
      rw g at (all_has (place_ok m L) (get_or (take c t) i 0) (take c t) filled.oks (has_get_or (take c t) i (omega arith)))

  pub here_in : 64 * p + 64 ≤ L
  here_in = place_in m L p place_ok_lem

  pub here_field : field_at m (8 * p) ≡ true
  here_field = place_field m L p place_ok_lem

-- The loop over the first c places; the code read p, the i-th of them.

module _ (m : Mem) (L c i p : ℕ) (t : List ℕ) (filled : Filled m L c t) (l : i < length (take c t)) (e : p ≡ get_or (take c t) i 0) where
  pub next_in : 64 * p + 64 ≤ L
  next_in = place_in m L p (next_ok m L t c filled i p l e)

  pub next_field : field_at m (8 * p) ≡ true
  next_field = place_field m L p (next_ok m L t c filled i p l e)

  from : drop i (take c t) ≡ p ∷ drop (i + 1) (take c t)
  from = rw (e, add-one, drop-cons (take c t) i 0)

  -- n is the name that is looked up, r what `has_name` answered
  module _ (n : List ℕ) (r : Bool) (z : ℕ) (a : inode_of (standing m (drop i (take c t))) n ≡ z) (s : r ≡ same_list (name_at m (8 * p)) n) where
    pub found : (x : ℕ) (f : Bool) (o : Option ℕ) → r ≡ true → x ≡ m (8 * p + 1) → f ≡ not (eqb x 0) → o ≡ then_some f x → o ≡ cond (eqb z 0) None (Some z)
    unfolding standing inode_of
    found x f o y h g k =
        let q : x ≡ z = h ∙ (rw (from, inode_of, sym s ∙ y) at a) in
        k ∙ rw (g, q) (by_bool (eqb z 0) (λ b. rw b) (λ b. rw b))

    pub find_next : r ≡ false → inode_of (standing m (drop (i + 1) (take c t))) n ≡ z
    unfolding standing inode_of
    find_next y = rw (from, inode_of, sym s ∙ y) at a

pub find_end : (m : Mem) (t n : List ℕ) (i z : ℕ) → length t ≤ i → inode_of (standing m (drop i t)) n ≡ z
    → ◌≡◌ {A = Option ℕ} None (cond (eqb z 0) None (Some z))
unfolding standing inode_of
find_end m t n i z l a =
    let q : 0 ≡ z = rw (no_length (drop i t) (length-drop i t ∙ omega arith)) at a in
    rw (← q)
