-- Bytes copied one by one into a part p of a buffer from index b of a list v on: its first i elements are those, then the first i + 1, at
-- last all.
use Rattle.model.proofs.Prelude.{ℕ, ◌+◌, ◌≤◌, ◌<◌, ◌≡◌, sym, ◌∙◌, ap, List, [], ◌∷◌, ◌++◌, arith, add-one, length, set, take, drop}
use Rattle.model.proofs.Prelude.{get_or, get_or-drop, length-drop}
use Rattle.std.proofs.Math.Seq.{take-suc}
use Rattle.std.proofs.lemmas.List.{take_more_set, take_all}

module _ (p v : List ℕ) (b i : ℕ) (a : take i p ≡ take i (drop b v)) where
  pub byte_copied : i < length p → b + i < length v → take (i + 1) (set p i (get_or v (b + i) 0)) ≡ take (i + 1) (drop b v)
  byte_copied h g =
      let e : take (i + 1) (drop b v) ≡ take i (drop b v) ++ get_or (drop b v) i 0 ∷ [] =
      rw (add-one i) (take-suc (drop b v) i 0 (rw length-drop (omega arith))) in
      take_more_set p i (get_or v (b + i) 0) h ∙ ap (λ (r : List ℕ). r ++ get_or v (b + i) 0 ∷ []) a
      ∙ ap (λ (y : ℕ). take i (drop b v) ++ y ∷ []) (sym (get_or-drop b v i 0)) ∙ sym e

  pub all_copied : length p ≤ i → p ≡ take i (drop b v)
  all_copied h = sym (take_all i p h) ∙ a
