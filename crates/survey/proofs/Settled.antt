-- When all names are noted: what the table says of the tree is what the acceptance asks of it. u is the view.
use Rattle.model.proofs.Prelude.{ℕ, ◌+◌, ◌≤◌, ◌<◌, ◌≡◌, refl, sym, ◌∙◌, ⊎_elim, Bool, true, false, List, arith, get_or, eq-eqb, ne_eqb, lt-ltb, le-ltb}
use Rattle.model.specs.Words.{Mem}
use Rattle.model.specs.Layout.{is_directory}
use Rattle.model.specs.Tree.{name_count, parent_of}
use Rattle.model.specs.Accept.{is_valid, is_folder, folders_of, log_ok, named_ok, view_ok}
use Rattle.model.proofs.Tests.{by_bool, by_eq, by_lt, clash, not_true_false}
use Rattle.model.proofs.Tree.{reaches_above}
use Rattle.model.proofs.State.FoldersOk.{folders_fine}
use Rattle.tree.specs.Table.{state_in, parent_in, above_in, Unsettled, SettlesAll}
use Rattle.tree.specs.Noted.{noted_state, settled_state, file_state, Noted, Settled}
use Rattle.tree.proofs.Noting.{shown_state, parent_whole, count_whole}
use Rattle.tree.proofs.Meanings.{reached_is, climbs_reaches}
use Rattle.survey.proofs.Noted.{no_root}

-- States read back: of a valid inode v, a folder b, with c names.

file_low : (c : ℕ) → file_state c ≤ 3
unfolding file_state
file_low c = by_lt c 2 (λ l. rw (lt-ltb c 2 l) (omega arith)) (λ l. rw (le-ltb c 2 l) (omega arith))

file_none : (c : ℕ) → file_state c ≡ 1 → c ≡ 0
unfolding file_state
file_none c h = by_lt c 2 (λ l. let z = rw (lt-ltb c 2 l) at h in omega arith) (λ l. let z = rw (le-ltb c 2 l) at h in absurd (omega arith))

kind_file : (v b : Bool) (c : ℕ) → noted_state v b c ≡ 1 → (v ≡ true) × (b ≡ false) × (c ≡ 0)
unfolding noted_state
kind_file true true c h = absurd (omega arith)
kind_file true false c h = (refl, refl, file_none c h)
kind_file false b c h = absurd (omega arith)

kind_folder : (v b : Bool) (c : ℕ) → 4 ≤ noted_state v b c → (v ≡ true) × (b ≡ true) × (noted_state v b c ≡ 4 + c)
unfolding noted_state
kind_folder true true c h = (refl, refl, refl)
kind_folder true false c h = let l = file_low c in absurd (omega arith)
kind_folder false b c h = absurd (omega arith)

module _ (u : Mem) (P N : ℕ) (few : N ≤ 256) (pos : 0 < N) (t : List ℕ) (s : Noted N (is_valid u) (is_directory u) (folders_of u P N) N 0 t)
    (logs : (d : ℕ) → d < N → is_folder u d ≡ true → log_ok u P N d ≡ true) where
  state_is : (k : ℕ) → 0 < k → k < N → state_in t k ≡ noted_state (is_valid u k) (is_directory u k) (name_count N (folders_of u P N) k)
  state_is k a l = rw (← (count_whole (folders_of u P N) N k)) (shown_state N (is_valid u) (is_directory u) few _ _ t s k a l)

  once : (k : ℕ) → 0 < k → k < N → is_valid u k ≡ true → is_directory u k ≡ true → name_count N (folders_of u P N) k ≤ 1
  once k a l v d = rw (← (count_whole (folders_of u P N) N k)) (s.once k a l v d)

  parent_is : (k : ℕ) → k < N → parent_in t k ≡ parent_of N (folders_of u P N) k
  parent_is k l =
      by_eq k 0
      (λ z. let e = s.first in rw (z, no_root u P N few pos logs) (omega arith))
      (λ z.
      let e = s.element k (omega arith) l in
      let n = s.near k in
      rw (← (parent_whole (folders_of u P N) N k)) (omega arith))

  pub unsettled : Unsettled N t
  unfolding noted_state
  unsettled =
      let e = s.first in
      record {
        root = omega arith;
        alone = λ k a l h.
            let g = sym (state_is k a l) ∙ h in
            by_bool (is_valid u k)
            (λ v. by_bool (is_directory u k)
            (λ d. let o = once k a l v d in let z = rw (v, d) at g in omega arith)
            (λ d. let o = file_low (name_count N (folders_of u P N) k) in let z = rw (v, d) at g in omega arith))
            (λ v. let z = rw v at g in omega arith);
        parents = λ k l. rw (parent_is k l, ← (parent_whole (folders_of u P N) N k)) (s.near k);
        long = s.long;
      }

  -- a folder with a name
  folder_one : (k : ℕ) → 0 < k → k < N → is_valid u k ≡ true → is_directory u k ≡ true → (state_in t k ≡ 4 → ⊥)
      → (name_count N (folders_of u P N) k ≡ 1) × (state_in t k ≡ 5)
  unfolding noted_state
  folder_one k a l v d n =
      let o = once k a l v d in
      let e : state_in t k ≡ 4 + name_count N (folders_of u P N) k = rw (v, d) at (state_is k a l) in
      by_eq (name_count N (folders_of u P N) k) 0 (λ z. absurd (n (omega arith))) (λ z. (omega arith, omega arith))

  -- what `settle_all` finds wrong is wrong
  pub settled_not : (r : Bool) (t' : List ℕ) → SettlesAll N t r t' → r ≡ false → view_ok u P N ≡ false
  settled_not r t' x y =
      not_true_false (view_ok u P N)
      (λ ok.
      let fine = folders_fine u P N ok in
      let b = x.bad y in
      let k = b.0 in
      let l = b.1 in
      by_eq k 0
      (λ z.
      let e : state_in t k ≡ 6 = (let f = s.first in rw z (omega arith)) in
      ⊎_elim (λ h. omega arith) (λ w. ⊎_elim (λ h. omega arith) (λ h. let g = h.0 in omega arith) w) b.2)
      (λ z.
      let a : 0 < k = omega arith in
      let st = state_is k a l in
      ⊎_elim
      (λ h. let q = kind_file (is_valid u k) (is_directory u k) (name_count N (folders_of u P N) k) (sym st ∙ h) in
      let n = fine.named k l a q.0 in let w = q.2 in omega arith)
      (λ w. ⊎_elim
      (λ h. let q = kind_folder (is_valid u k) (is_directory u k) (name_count N (folders_of u P N) k) (omega arith) in
      let n = fine.named k l a q.0 in let f = q.2 in omega arith)
      (λ h.
      let g = h.0 in
      let q = kind_folder (is_valid u k) (is_directory u k) (name_count N (folders_of u P N) k) (omega arith) in
      clash (above_in t N 0 k) (reached_is N (folders_of u P N) t parent_is k l
      ∙ reaches_above N (folders_of u P N) pos k l (fine.reached k l q.0 q.1)) h.1) w) b.2))

  module _ (r : Bool) (t' : List ℕ) (x : SettlesAll N t r t') (y : r ≡ true) where
    pub settled_named : (k : ℕ) → k < N → named_ok u N (folders_of u P N) k ≡ true
    unfolding named_ok noted_state file_state
    settled_named k l =
        by_bool (is_valid u k)
        (λ v. by_eq k 0 (λ z. rw (v, eq-eqb k 0 z))
        (λ z.
        let a : 0 < k = omega arith in
        let n = x.named y k l in
        by_bool (is_directory u k)
        (λ d.
        let o = folder_one k a l v d n.1 in
        let w = reaches_above N (folders_of u P N) pos k l (climbs_reaches N (folders_of u P N) t parent_is (x.reached y k l o.1) l) in
        rw (v, ne_eqb k 0 z, rw (ne_eqb k 0 z) at d, o.0) w)
        (λ d.
        let e : state_in t k ≡ file_state (name_count N (folders_of u P N) k) = rw (v, d) at (state_is k a l) in
        let m : name_count N (folders_of u P N) k ≡ 0 → ⊥ = λ i. n.0 (e ∙ rw i refl) in
        rw (v, ne_eqb k 0 z, rw (ne_eqb k 0 z) at d, ne_eqb (name_count N (folders_of u P N) k) 0 m))))
        (λ v. rw v)

    pub settled_table : is_valid u 0 ≡ true → Settled N (is_valid u) (is_directory u) (folders_of u P N) t'
    unfolding settled_state noted_state
    settled_table root =
        record {
          state = λ k l.
              let e = x.list y k l in
              by_eq k 0
              (λ z.
              let f = s.first in
              let w : state_in t k ≡ 6 = rw z (omega arith) in
              let g = rw w at e in
              rw (z, root) (rw z at (read k g w)))
              (λ z.
              let a : 0 < k = omega arith in
              let st = state_is k a l in
              by_bool (is_valid u k)
              (λ v. by_bool (is_directory u k)
              (λ d. let o = folder_one k a l v d (x.named y k l).1 in let q = o.1 in let g = rw q at e in let m = s.near k in
              rw (v, d) (omega arith))
              (λ d.
              let w = rw (v, d) at st in
              let h = file_low (name_count N (folders_of u P N) k) in
              let g = rw (ne_eqb (state_in t k) 5 (omega arith)) at e in rw (v, d, g) w))
              (λ v. let w = rw v at st in let g = rw (ne_eqb (state_in t k) 5 (omega arith)) at e in rw (v, g) w));
          parent = λ k l.
              let e = x.list y k l in
              let p = parent_is k l in
              rw (← p) (by_eq (state_in t k) 5 (λ z. let g = rw (eq-eqb (state_in t k) 5 z) at e in omega arith)
              (λ z. let g = rw (ne_eqb (state_in t k) 5 z) at e in rw g));
        }
      where
        read : (k : ℕ) → get_or t' k 0 ≡ get_or t k 0 → state_in t k ≡ 6 → state_in t' k ≡ 6
        read k g w = rw g w
