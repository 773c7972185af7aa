-- What is kept while inodes are settled: t₀ is the table at the start, of N inodes, and t the table now.
use Rattle.model.proofs.Prelude.{ℕ, zero, suc, ◌+◌, ◌*◌, ◌-◌, ◌/◌, ◌%◌, ◌≤◌, ◌<◌, ◌≡◌, refl, sym, ◌∙◌, ap, Bool, true, false, not, List, arith, ◌⊎◌, inl, inr, ⊎_elim, length, get_or, length-set, get_or-set_same, get_or-set_other, eq-eqb, ne_eqb, eqb-true, not-true, not-false}
use Rattle.model.proofs.Tests.{by_eq, no, clash}
use Rattle.tree.specs.Table.{state_in, parent_in, with_state, above_in, Climbs, top, up, Unsettled, SettlesAll}
use Rattle.tree.specs.Way.{meets_in, way_marked, passes, passed}

-- an element is as it was, or a folder with a name that climbs to inode 0 is now a reached one
pub record Marks (N : ℕ) (t₀ t : List ℕ) : Type 0 where
  pub kept : (k : ℕ) → k < N → (get_or t k 0 ≡ get_or t₀ k 0) ⊎ ((state_in t₀ k ≡ 5) × (get_or t k 0 ≡ 256 * 6 + parent_in t₀ k) × Climbs t₀ k)
  pub long : length t ≡ 256

-- and the inodes from `left` on passed
pub record Settling (N left : ℕ) (t₀ t : List ℕ) : Type 0 where
  pub marks : Marks N t₀ t
  pub done : (k : ℕ) → left ≤ k → k < N
      → (state_in t₀ k ≡ 1 → ⊥) × (state_in t₀ k ≡ 4 → ⊥) × (state_in t₀ k ≡ 5 → get_or t k 0 ≡ 256 * 6 + parent_in t₀ k)

climbs_up : (t : List ℕ) {k : ℕ} → Climbs t k → (k ≡ 0) ⊎ Climbs t (parent_in t k)
climbs_up t top = inl refl
climbs_up t (up k c) = inr c

-- a reached folder stays one
stays : (k n : ℕ) (t : List ℕ) (f : ℕ) → state_in t k ≡ 6 → get_or (way_marked t n f) k 0 ≡ get_or t k 0
unfolding way_marked
stays k zero t f h = refl
stays k (suc n) t f h =
    by_eq (state_in t f) 5
    (λ e.
    let o : get_or (with_state t f 6 (parent_in t f)) k 0 ≡ get_or t k 0
    = get_or-set_other t f k _ 0 (λ q. absurd (omega (arith, rw q at h, e))) in
    rw (way_marked, eq-eqb (state_in t f) 5 e) (stays k n (with_state t f 6 (parent_in t f)) (parent_in t f) (rw o h) ∙ o))
    (λ e. rw (way_marked, ne_eqb (state_in t f) 5 e))

module _ (N : ℕ) (few : N ≤ 256) (t₀ : List ℕ) (u : Unsettled N t₀) where
  module _ (t : List ℕ) (m : Marks N t₀ t) where
    six : (x p : ℕ) → x ≡ 256 * 6 + p % 256 → (x / 256 ≡ 6) × (x % 256 ≡ p % 256)
    six x p e = (omega arith, omega arith)

    parent_same : (k : ℕ) → k < N → parent_in t k ≡ parent_in t₀ k
    parent_same k l = ⊎_elim (λ e. ap (λ x. x % 256) e) (λ w. (six (get_or t k 0) (get_or t₀ k 0) w.1).1) (m.kept k l)

    state_was : (k : ℕ) → k < N → (state_in t k ≡ 6 → ⊥) → state_in t k ≡ state_in t₀ k
    state_was k l n = ⊎_elim (λ e. ap (λ x. x / 256) e) (λ w. absurd (n (six (get_or t k 0) (get_or t₀ k 0) w.1).0)) (m.kept k l)

    state_six : (k : ℕ) → k < N → state_in t k ≡ 6 → Climbs t₀ k
    state_six k l h =
        ⊎_elim (λ e. by_eq k 0 (λ z. rw z top) (λ z. absurd (u.alone k (omega arith) l (sym (ap (λ x. x / 256) e) ∙ h))))
        (λ w. w.2) (m.kept k l)

    root_six : 0 < N → state_in t 0 ≡ 6
    root_six l = ⊎_elim (λ e. ap (λ x. x / 256) e ∙ u.root) (λ w. absurd (omega (arith, w.0, u.root))) (m.kept 0 l)

    -- a climb that meets no reached folder does not come to inode 0, and one that meets some does
    missed : (n k : ℕ) → k < N → meets_in t n k ≡ false → above_in t₀ n 0 k ≡ false
    unfolding meets_in above_in
    missed zero k l h =
        by_eq k 0 (λ z. absurd (clash (meets_in t 0 k) (rw z (eq-eqb (state_in t 0) 6 (root_six (omega arith)))) h))
        (λ z. rw (above_in, ne_eqb k 0 z))
    missed (suc n) k l h =
        by_eq (state_in t k) 6 (λ e. absurd (clash (meets_in t (suc n) k) (rw (meets_in, eq-eqb (state_in t k) 6 e)) h))
        (λ e.
        by_eq k 0 (λ z. absurd (e (rw z (root_six (omega arith)))))
        (λ z.
        rw (above_in, ne_eqb k 0 z)
        (missed n (parent_in t₀ k) (u.parents k l) (rw (meets_in, ne_eqb (state_in t k) 6 e, parent_same k l) at h))))

    met : (n k : ℕ) → k < N → meets_in t n k ≡ true → Climbs t₀ k
    unfolding meets_in
    met zero k l h = state_six k l (eqb-true (state_in t k) 6 h)
    met (suc n) k l h =
        by_eq (state_in t k) 6 (λ e. state_six k l e)
        (λ e. up k (met n (parent_in t₀ k) (u.parents k l) (rw (meets_in, ne_eqb (state_in t k) 6 e, parent_same k l) at h)))

    mark_one : (f : ℕ) → f < N → state_in t f ≡ 5 → Climbs t₀ f → Marks N t₀ (with_state t f 6 (parent_in t f))
    mark_one f l e c =
        record {
          kept = λ k i.
              by_eq k f
              (λ q.
              rw q (inr (
                sym (state_was f l (λ z. omega arith)) ∙ e,
                get_or-set_same t f _ 0 (omega (arith, m.long)) ∙ ap (λ x. 256 * 6 + x) (parent_same f l),
                c,
              )))
              (λ q. rw (get_or-set_other t f k (256 * 6 + parent_in t f) 0 q) (m.kept k i));
          long = length-set t f _ ∙ m.long;
        }

  way_marks : (n : ℕ) (t : List ℕ) (f : ℕ) → Marks N t₀ t → f < N → Climbs t₀ f → Marks N t₀ (way_marked t n f)
  unfolding way_marked
  way_marks zero t f m l c = m
  way_marks (suc n) t f m l c =
      by_eq (state_in t f) 5
      (λ e.
      let p = parent_same t m f l in
      let above : Climbs t₀ (parent_in t f)
      = ⊎_elim (λ z. absurd (omega (arith, root_six t m (omega arith), rw z at e))) (λ k. rw p k) (climbs_up t₀ c) in
      rw (way_marked, eq-eqb (state_in t f) 5 e)
      (way_marks n (with_state t f 6 (parent_in t f)) (parent_in t f) (mark_one t m f l e c) (rw p (u.parents f l)) above))
      (λ e. rw (way_marked, ne_eqb (state_in t f) 5 e) m)

  -- The loop of `settle_all`: inode k = left - 1 was asked, and r is whether it passes.
  module _ (left k : ℕ) (t : List ℕ) (s : Settling N left t₀ t) (few_left : left ≤ N) (some : 0 < left) (ek : k ≡ left - 1)
      (r : Bool) (h : r ≡ passes t N k) where
    inside : k < N
    inside = omega arith

    pub settling_stops : (t' : List ℕ) → not r ≡ true → SettlesAll N t₀ false t'
    unfolding passes
    settling_stops t' n =
        record { named = λ y. no y; reached = λ y. no y; list = λ y. no y; bad = λ y. (k, inside, which) }
      where
        refused : passes t N k ≡ false
        refused = sym h ∙ not-true r n

        was : (x : ℕ) → (x ≡ 6 → ⊥) → state_in t k ≡ x → state_in t₀ k ≡ x
        was x o e = sym (state_was t s.marks k inside (λ q. o (sym e ∙ q))) ∙ e

        which : (state_in t₀ k ≡ 1) ⊎ ((state_in t₀ k ≡ 4) ⊎ ((state_in t₀ k ≡ 5) × (above_in t₀ N 0 k ≡ false)))
        which =
            by_eq (state_in t k) 1 (λ e. inl (was 1 (λ q. omega arith) e))
            (λ a. by_eq (state_in t k) 4 (λ e. inr (inl (was 4 (λ q. omega arith) e)))
            (λ b. by_eq (state_in t k) 5
            (λ e. inr (inr (was 5 (λ q. omega arith) e, missed t s.marks N k inside (rw (passes, e) at refused))))
            (λ c.
            clash (passes t N k) (rw (passes, ne_eqb (state_in t k) 1 a, ne_eqb (state_in t k) 4 b, ne_eqb (state_in t k) 5 c)) refused)))

    passing : passes t N k ≡ true → (state_in t k ≡ 1 → ⊥) × (state_in t k ≡ 4 → ⊥) × (state_in t k ≡ 5 → meets_in t N k ≡ true)
    unfolding passes
    passing y = (λ e. no (rw (passes, e) at y), λ e. no (rw (passes, e) at y), λ e. rw (passes, e) at y)

    -- a state other than 5 was not changed
    seen : (x : ℕ) → (x ≡ 5 → ⊥) → state_in t₀ k ≡ x → state_in t k ≡ x
    seen x n e = ⊎_elim (λ q. ap (λ y. y / 256) q ∙ e) (λ w. absurd (n (sym e ∙ w.0))) (s.marks.kept k inside)

    marked_here : (n : ℕ) → 0 < n → state_in t k ≡ 5 → get_or (way_marked t n k) k 0 ≡ 256 * 6 + parent_in t₀ k
    unfolding way_marked
    marked_here zero l e = absurd (omega arith)
    marked_here (suc n) l e =
        let t₁ = with_state t k 6 (parent_in t k) in
        let o : get_or t₁ k 0 ≡ 256 * 6 + parent_in t k = get_or-set_same t k _ 0 (omega (arith, s.marks.long)) in
        rw (way_marked, eq-eqb (state_in t k) 5 e)
        (stays k n t₁ (parent_in t k) (rw o (omega arith)) ∙ o ∙ ap (λ x. 256 * 6 + x) (parent_same t s.marks k inside))

    pub settling_next : (t' : List ℕ) → not r ≡ false → (r ≡ true → t' ≡ passed t N k) → Settling N k t₀ t'
    unfolding passed
    settling_next t' n g =
        let y = not-false r n in
        let p = passing (sym h ∙ y) in
        let named : (state_in t₀ k ≡ 1 → ⊥) × (state_in t₀ k ≡ 4 → ⊥)
        = (λ e. p.0 (seen 1 (λ q. omega arith) e), λ e. p.1 (seen 4 (λ q. omega arith) e)) in
        by_eq (state_in t k) 5
        (λ e.
        let w : t' ≡ way_marked t N k = rw (eq-eqb (state_in t k) 5 e) at (g y) in
        rw w (record {
          marks = way_marks N t k s.marks inside (met t s.marks N k inside (p.2 e));
          done = λ j a b.
              by_eq j k (λ q. rw q (named.0, named.1, λ f. marked_here N (omega arith) e))
              (λ q.
              let d = s.done j (omega arith) b in
              (d.0, d.1, λ f. stays j N t k (rw (d.2 f) (omega arith)) ∙ d.2 f));
        }))
        (λ e.
        let w : t' ≡ t = rw (ne_eqb (state_in t k) 5 e) at (g y) in
        rw w (record {
          marks = s.marks;
          done = λ j a b.
              by_eq j k
              (λ q.
              rw q (
                named.0,
                named.1,
                λ f. ⊎_elim (λ x. absurd (e (ap (λ i. i / 256) x ∙ f))) (λ x. x.1) (s.marks.kept k inside),
              ))
              (λ q. s.done j (omega arith) b);
        }))
