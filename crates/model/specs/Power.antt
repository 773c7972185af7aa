-- What the power leaves of a store list. Document 01, "The store list": "A cut falls in one group: all before it has landed, its words hold
-- the old value or the new, each for itself, and nothing after it is stored."
use Rattle.std.specs.Prelude.{ℕ, zero, suc, ◌+◌, ◌/◌, Bool, cond, List, [], ◌∷◌, eqb}
use Rattle.model.specs.Stores.{fence, carried}

-- Groups count from 0. The words of the groups before group g, each with the fence that ends it; and the words of group g, without its
-- fence.
unfoldable pub before : ℕ → List ℕ → List ℕ
before zero l = []
before (suc g) [] = []
before (suc g) (i ∷ []) = []
before (suc g) (i ∷ x ∷ r) = let s = before g r in let t = before (suc g) r in i ∷ x ∷ cond (eqb i fence) s t

unfoldable pub group : ℕ → List ℕ → List ℕ
group g [] = []
group g (i ∷ []) = []
group zero (i ∷ x ∷ r) = let s = group zero r in cond (eqb i fence) [] (i ∷ x ∷ s)
group (suc g) (i ∷ x ∷ r) = let s = group g r in let t = group (suc g) r in cond (eqb i fence) s t

-- Bytes of which each aligned piece of `size` bytes is the old one or the new one: `kept` says which pieces are new. b is the index of the
-- first byte.
unfoldable pub mixed : ℕ → (ℕ → Bool) → ℕ → List ℕ → List ℕ → List ℕ
mixed size kept b [] new = []
mixed size kept b (x ∷ old) [] = x ∷ old
mixed size kept b (x ∷ old) (y ∷ new) = cond (kept (b / size)) y x ∷ mixed size kept (b + 1) old new

-- What the power did to a store list: everything landed, or a cut in group g, of which the pieces that `kept` names landed.
pub data Power : Type 0 where
  held : Power
  cut : (g : ℕ) → (kept : ℕ → Bool) → Power

-- The bytes v after the list l, where pieces of `size` bytes land whole.
unfoldable pub leaves : ℕ → Power → List ℕ → List ℕ → List ℕ
leaves size held v l = carried v l
leaves size (cut g kept) v l =
    let old = carried v (before g l) in
    mixed size kept 0 old (carried old (group g l))
