-- The inodes of a folder, laid into a table.
use Rattle.model.proofs.Prelude.{ℕ, zero, suc, ◌+◌, ◌*◌, ◌≤◌, ◌<◌, ◌≡◌, refl, sym, ◌∙◌, ap, true, List, [], ◌∷◌, arith, drop, drop-cons, drop_of_length-le, length, get_or, set, length-set, length-map, get_or-set_same, get_or-set_other, lt-ltb}
use Rattle.model.specs.Lists.{all}
use Rattle.model.specs.Words.{Mem, word}
use Rattle.model.specs.State.{inodes}
use Rattle.model.proofs.Lists.{all_by}
use Rattle.directory.specs.Places.{Filled}
use Rattle.directory.proofs.Table.{standing_length}
use Rattle.names.specs.Inodes.{below, inodes_from}
use Rattle.names.specs.Listed.{names_in, Good, Turned}
use Rattle.names.specs.declared.FolderNames.{FolderNames}
use Rattle.names.proofs.Inodes.{inodes_at, inodes_of}
use Rattle.totals.specs.Totals.{laid_from, inodes_in, InodesOf}
use Rattle.totals.proofs.Beneath.{few, child}

-- `lay_inodes`: p is the i-th of the places ps, and k the inode that the name there leads to; z is the table that all of them give
module _ (m : Mem) (ps : List ℕ) (i : ℕ) (x z : List ℕ) (a : laid_from x i (inodes_at m (drop i ps)) ≡ z) where
  pub laid_next : (p k : ℕ) → i < length ps → p ≡ get_or ps i 0 → k ≡ m (8 * p + 1)
      → laid_from (set x i k) (i + 1) (inodes_at m (drop (i + 1) ps)) ≡ z
  unfolding laid_from
  laid_next p k l e g =
      let q : i + 1 ≡ suc i = omega arith in
      let c : inodes_at m (drop i ps) ≡ k ∷ inodes_at m (drop (i + 1) ps) = ap (inodes_at m) (drop-cons ps i 0 l) ∙ rw (g, e, q) in
      rw c at a

  pub laid_all : length ps ≤ i → x ≡ z
  unfolding laid_from
  laid_all l = let e = drop_of_length-le ps {i = i} l in rw e at a

laid_below : (t : List ℕ) (i : ℕ) (ks : List ℕ) (j : ℕ) → j < i → get_or (laid_from t i ks) j 0 ≡ get_or t j 0
unfolding laid_from
laid_below t i [] j l = refl
laid_below t i (k ∷ ks) j l = laid_below (set t i k) (i + 1) ks j (omega arith) ∙ get_or-set_other t i j k 0 (λ e. omega arith)

laid_at : (t : List ℕ) (i : ℕ) (ks : List ℕ) (j : ℕ) → i + length ks ≤ length t → j < length ks
    → get_or (laid_from t i ks) (i + j) 0 ≡ get_or ks j 0
unfolding laid_from
laid_at t i [] j r l = absurd (omega arith)
laid_at t i (k ∷ ks) zero r l =
    let e : i + 0 ≡ i = omega arith in
    rw e (laid_below (set t i k) (i + 1) ks i (omega arith) ∙ get_or-set_same t i k 0 (omega arith))
laid_at t i (k ∷ ks) (suc j) r l =
    let e : i + suc j ≡ i + 1 + j = omega arith in
    rw e (laid_at (set t i k) (i + 1) ks j (rw length-set (omega arith)) (omega arith))

-- `inodes_of`: n names of folder d stand in the table of places t
module _ (v : List ℕ) (g : Good v) (d : ℕ) (r : FolderNames) (t : List ℕ) (s : Turned v d r t) where
  leads_to_lem : inodes_in v d ≡ inodes_from (word v) t 0 r.count
  leads_to_lem = ap inodes (sym s.lists.names) ∙ inodes_of (word v) (length v) r.count t s.lists.filled

  long : r.count ≡ length (inodes_in v d)
  long =
      sym (standing_length (word v) (length v) t r.count s.lists.filled) ∙ ap length s.lists.names
      ∙ sym (length-map (names_in v d) (λ p. p.1))

  pub filled_there : Filled (word v) (length v) r.count t
  filled_there = s.lists.filled

  pub below_there : all (below 256) (inodes_from (word v) t 0 r.count) ≡ true
  unfolding below
  below_there = rw (← leads_to_lem) (all_by (below 256) (inodes_in v d) (λ k h. lt-ltb k 256 (omega (arith, (child v g d k h).1, few v g))))

  pub laid_there : (x y : List ℕ) → length x ≡ 224 → y ≡ laid_from x 0 (inodes_from (word v) t 0 r.count) → InodesOf v d r.count y
  laid_there x y l e =
      record {
        count = long;
        few = s.lists.filled.few;
        each = λ i h.
            let z : 0 + i ≡ i = omega arith in
            rw (e, ← leads_to_lem) (rw z at (laid_at x 0 (inodes_in v d) i (omega (arith, long, s.lists.filled.few)) (omega (arith, long))));
      }
