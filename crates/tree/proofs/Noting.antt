-- Names that are noted one after the other: what the table shows of the inodes, and why a name cannot be noted.
use Rattle.model.proofs.Prelude.{ℕ, zero, suc, ◌+◌, ◌*◌, ◌≤◌, ◌<◌, ◌≡◌, refl, sym, ◌∙◌, ◌⊎◌, inl, inr, ⊎_elim, Bool, true, false, cond, List, [], ◌∷◌, arith, zero-add, length-set, get_or-set_same, get_or-set_other, eqb, eq-eqb, ne_eqb, lt-ltb, le-ltb}
use Rattle.model.specs.Lists.{bit, sum_below, all, lowest, has, count}
use Rattle.model.specs.State.{inodes}
use Rattle.model.specs.Tree.{Folders, name_count, parent_of}
use Rattle.model.proofs.Tests.{by_bool, by_eq, no, bit_same, bit_other}
use Rattle.model.proofs.Lists.{has_head, has_tail}
use Rattle.tree.specs.Table.{state_in, after_name, may_name, noted, noted_all, may_note}
use Rattle.tree.specs.Noted.{count_from, parent_from, file_state, noted_state, Shows}

-- One name more of an inode with c names.

few_file : (c : ℕ) → c < 2 → file_state c ≡ 1 + c
unfolding file_state
few_file c l = rw (lt-ltb c 2 l)

many_file : (c : ℕ) → 2 ≤ c → file_state c ≡ 3
unfolding file_state
many_file c l = rw (le-ltb c 2 l)

file_more : (c : ℕ) → (after_name (file_state c) ≡ file_state (c + 1)) × (may_name (file_state c) ≡ true)
unfolding after_name may_name
file_more c =
    by_eq c 0 (λ z. rw (z, few_file 0 (omega arith), few_file (0 + 1) (omega arith)) (refl, refl))
    (λ z. by_eq c 1 (λ o. rw (o, few_file 1 (omega arith), many_file (1 + 1) (omega arith)) (refl, refl))
    (λ o. rw (many_file c (omega arith), many_file (c + 1) (omega arith)) (refl, refl)))

module _ (v b : Bool) (c : ℕ) (once : v ≡ true → b ≡ true → c ≤ 1) where
  may_more : may_name (noted_state v b c) ≡ true → (v ≡ true) × (b ≡ true → c ≡ 0) × (after_name (noted_state v b c) ≡ noted_state v b (c + 1))
  unfolding noted_state may_name after_name
  may_more h =
      by_bool v
      (λ e. by_bool b
      (λ f. by_eq c 0 (λ z. (e, (λ _. z), rw (e, f, z)))
      (λ z. let o : c ≡ 1 = (let w = once e f in omega arith) in no (rw (e, f, o) at h)))
      (λ f. (e, (λ g. no (sym f ∙ g)), rw (e, f) (file_more c).0)))
      (λ e. no (rw e at h))

  may_not : may_name (noted_state v b c) ≡ false → (v ≡ false) ⊎ ((v ≡ true) × (b ≡ true) × (c ≡ 1))
  unfolding noted_state may_name after_name
  may_not h =
      by_bool v
      (λ e. by_bool b
      (λ f. by_eq c 0 (λ z. no (sym (rw (e, f, z) at h))) (λ z. inr (e, f, (let w = once e f in omega arith))))
      (λ f. no (sym (rw (e, f) at h) ∙ (file_more c).1)))
      (λ e. inl e)

module _ (N : ℕ) (valid dir : ℕ → Bool) (few : N ≤ 256) where
  pub shows_same : (c c' p p' : ℕ → ℕ) (t : List ℕ) → ((k : ℕ) → c k ≡ c' k) → ((k : ℕ) → p k ≡ p' k) → Shows N valid dir c p t
      → Shows N valid dir c' p' t
  shows_same c c' p p' t h g s =
      record {
        first = s.first;
        element = λ k a b. rw (← (h k), ← (g k)) (s.element k a b);
        once = λ k a b v d. rw (← (h k)) (s.once k a b v d);
        near = λ k. rw (← (g k)) (s.near k);
        long = s.long;
      }

  -- the state of inode x
  pub shown_state : (c p : ℕ → ℕ) (t : List ℕ) → Shows N valid dir c p t → (x : ℕ) → 0 < x → x < N
      → state_in t x ≡ noted_state (valid x) (dir x) (c x)
  shown_state c p t s x a b = let e = s.element x a b in let n = s.near x in omega arith

  -- A name of folder d that leads to inode x.
  module _ (c p : ℕ → ℕ) (t : List ℕ) (s : Shows N valid dir c p t) (d x : ℕ) (l : d < N) (a : 0 < x) (b : x < N) where
    abbrev more : ℕ → ℕ
    more k = c k + bit (eqb k x)

    abbrev under : ℕ → ℕ
    under k = cond (eqb k x) d (p k)

    state_is : state_in t x ≡ noted_state (valid x) (dir x) (c x)
    state_is = shown_state c p t s x a b

    name_not : may_name (state_in t x) ≡ false → (valid x ≡ false) ⊎ ((valid x ≡ true) × (dir x ≡ true) × (c x ≡ 1))
    name_not h = may_not (valid x) (dir x) (c x) (s.once x a b) (rw state_is at h)

    module _ (h : may_name (state_in t x) ≡ true) where
      named : (valid x ≡ true) × (dir x ≡ true → c x ≡ 0)
          × (after_name (noted_state (valid x) (dir x) (c x)) ≡ noted_state (valid x) (dir x) (c x + 1))
      named = may_more (valid x) (dir x) (c x) (s.once x a b) (rw state_is at h)

      more_here : more x ≡ c x + 1
      more_here = let z = bit_same x x refl in omega arith

      more_else : (k : ℕ) → (k ≡ x → ⊥) → more k ≡ c k
      more_else k n = let z = bit_other k x n in omega arith

      name_shown : Shows N valid dir more under (noted t x d)
      unfolding noted
      name_shown =
          let long = s.long in
          let new : ℕ = 256 * after_name (state_in t x) + d in
          record {
            first = rw (get_or-set_other t x 0 new 0 (omega arith)) s.first;
            element = λ k o m.
                by_eq k x
                (λ e. rw (e, get_or-set_same t x new 0 (omega arith), more_here, eq-eqb x x refl, state_is, named.2))
                (λ n. rw (get_or-set_other t x k new 0 n, more_else k n, ne_eqb k x n) (s.element k o m));
            once = λ k o m v g.
                by_eq k x
                (λ e. let z = named.1 (rw e at g) in let y = more_here in rw e (omega arith))
                (λ n. rw (more_else k n) (s.once k o m v g));
            near = λ k. by_eq k x (λ e. rw (eq-eqb k x e) l) (λ n. rw (ne_eqb k x n) (s.near k));
            long = length-set t x new ∙ s.long;
          }

  -- Names of folder d that lead to the inodes ks.
  module _ (d : ℕ) (l : d < N) where
    -- why one of them cannot be noted: its inode is not valid, or a folder with a name already
    abbrev pub Refused : (ℕ → ℕ) → List ℕ → Type 0
    Refused c ks =
        (k : ℕ) × (has k ks ≡ true) × ((valid k ≡ false) ⊎ ((valid k ≡ true) × (dir k ≡ true) × (2 ≤ c k + count k ks)))

    pub notes_shown : (ks : List ℕ) (c p : ℕ → ℕ) (t : List ℕ) → Shows N valid dir c p t → ((k : ℕ) → has k ks ≡ true → (0 < k) × (k < N))
        → may_note t d ks ≡ true
        → (all valid ks ≡ true) × Shows N valid dir (λ k. c k + count k ks) (λ k. cond (has k ks) d (p k)) (noted_all t d ks)
    unfolding may_note noted_all count has all
    notes_shown [] c p t s h m = (refl, shows_same c _ p _ t (λ k. omega arith) (λ k. refl) s)
    notes_shown (x ∷ xs) c p t s h m =
        let r = h x (has_head x xs) in
        by_bool (may_name (state_in t x))
        (λ y.
        let q = rw (may_note, y) at m in
        let z = named c p t s d x l r.0 r.1 y in
        let w = notes_shown xs _ _ (noted t x d) (name_shown c p t s d x l r.0 r.1 y) (λ k g. h k (has_tail k x xs g)) q in (
          rw (all, z.0) w.0,
          shows_same _ _ _ _ (noted_all (noted t x d) d xs) (λ k. omega arith)
              (λ k. by_bool (eqb k x) (λ e. rw (has, e) (by_bool (has k xs) (λ f. rw f) (λ f. rw f))) (λ e. rw (has, e))) w.1,
        ))
        (λ y. no (rw (may_note, y) at m))

    pub notes_refused : (ks : List ℕ) (c p : ℕ → ℕ) (t : List ℕ) → Shows N valid dir c p t → ((k : ℕ) → has k ks ≡ true → (0 < k) × (k < N))
        → may_note t d ks ≡ false → Refused c ks
    unfolding may_note count
    notes_refused [] c p t s h m = no (sym m)
    notes_refused (x ∷ xs) c p t s h m =
        let r = h x (has_head x xs) in
        by_bool (may_name (state_in t x))
        (λ y.
        let q = rw (may_note, y) at m in
        let w = notes_refused xs _ _ (noted t x d) (name_shown c p t s d x l r.0 r.1 y) (λ k g. h k (has_tail k x xs g)) q in
        (w.0, has_tail w.0 x xs w.1, ⊎_elim (λ i. inl i) (λ f. inr (f.0, f.1, (let z = f.2 in omega arith))) w.2))
        (λ y. (
          x,
          has_head x xs,
          ⊎_elim (λ i. inl i) (λ f. inr (f.0, f.1, (let z = f.2 in let e = bit_same x x refl in omega arith)))
              (name_not c p t s d x l r.0 r.1 y),
        ))

-- The folders from d on, and the whole.

module _ (F : Folders) where
  pub parent_next : (n d k : ℕ) → cond (has k (inodes (F d))) d (parent_from F n (d + 1) k) ≡ parent_from F (suc n) d k
  unfolding parent_from lowest
  parent_next n d k = by_bool (has k (inodes (F d))) (λ e. rw (lowest, e)) (λ e. rw (lowest, e))

  pub parent_whole : (N k : ℕ) → parent_from F N 0 k ≡ parent_of N F k
  unfolding parent_from parent_of
  parent_whole N k = refl

  sum_next : (f : ℕ → ℕ) (d : ℕ) → sum_below (d + 1) f ≡ f d + sum_below d f
  unfolding sum_below
  sum_next f d = let s : d + 1 ≡ suc d = omega arith in rw s

  count_sum : (k n d : ℕ) → count_from F n d k + sum_below d (λ e. count k (inodes (F e))) ≡ sum_below (n + d) (λ e. count k (inodes (F e)))
  unfolding count_from
  count_sum k zero d = rw (zero-add, zero-add)
  count_sum k (suc n) d =
      let w : n + (d + 1) ≡ suc n + d = omega arith in
      let r = rw w at (count_sum k n (d + 1)) in
      let s = sum_next (λ e. count k (inodes (F e))) d in omega arith

  pub count_whole : (N k : ℕ) → count_from F N 0 k ≡ name_count N F k
  unfolding name_count sum_below
  count_whole N k = let r = count_sum k N 0 in let s : N + 0 ≡ N = omega arith in let q = rw s at r in omega arith

  -- the names of some folders are among those of all
  pub count_part : (N n d k : ℕ) → n + d ≡ N → count_from F n d k ≤ name_count N F k
  unfolding name_count
  count_part N n d k e = let r = rw e at (count_sum k n d) in omega arith
