-- The names of the folders of a view, noted from the highest folder down; u is the view, and F the names of its folders.
use Rattle.model.proofs.Prelude.{ℕ, suc, ◌+◌, ◌≤◌, ◌<◌, ◌≡◌, refl, sym, ◌∙◌, ⊎_elim, Bool, true, false, ◌&&◌, List, [], Option, none, some, arith, leb, ltb, lt-ltb, le-ltb, ltb-true, leb-true}
use Rattle.model.specs.Lists.{all, has, count, lowest, or_else}
use Rattle.model.specs.Words.{Mem}
use Rattle.model.specs.Layout.{is_directory}
use Rattle.model.specs.Entry.{name_entry_ok}
use Rattle.model.specs.Log.{entries}
use Rattle.model.specs.State.{Names, names_of, inodes, name_step}
use Rattle.model.specs.Tree.{parent_of}
use Rattle.model.specs.Accept.{is_valid, is_folder, folders_of, log_ok, view_ok}
use Rattle.model.proofs.Tests.{by_bool, by_lt, no, clash, not_true_false, ands}
use Rattle.model.proofs.Lists.{all_map, all_has, has_count, lowest_is, fold_keeps}
use Rattle.model.proofs.State.FoldersOk.{past_step, folders_fine}
use Rattle.model.proofs.Frame.Inode.{names_lead}
use Rattle.tree.specs.Table.{state_in, noted_all, may_note}
use Rattle.tree.specs.Noted.{count_from, parent_from, noted_state, file_state, Noted}
use Rattle.tree.proofs.Noting.{shows_same, shown_state, notes_shown, notes_refused, parent_next, count_part}
use Rattle.inodes.specs.Judged.{States}

-- no name leads to inode 0
abbrev past : List ℕ × ℕ → Bool
past p = leb 1 p.1

state_high : (v b : Bool) (c : ℕ) → 4 ≤ noted_state v b c → b && v ≡ true
unfolding noted_state file_state
state_high true true c h = refl
state_high true false c h =
    by_lt c 2 (λ l. let z = rw (lt-ltb c 2 l) at h in absurd (omega arith)) (λ l. let z = rw (le-ltb c 2 l) at h in absurd (omega arith))
state_high false b c h = absurd (omega arith)

state_low : (v b : Bool) (c : ℕ) → noted_state v b c < 4 → b && v ≡ false
unfolding noted_state
state_low true true c h = absurd (omega arith)
state_low true false c h = refl
state_low false true c h = refl
state_low false false c h = refl

module _ (u : Mem) (P N : ℕ) (few : N ≤ 256) (pos : 0 < N) where
  abbrev F : ℕ → Names
  F = folders_of u P N

  abbrev T : ℕ → ℕ → List ℕ → Type 0
  T n d t = Noted N (is_valid u) (is_directory u) (folders_of u P N) n d t

  pub folder_names : (d : ℕ) → d < N → is_folder u d ≡ true → folders_of u P N d ≡ names_of u P N d
  unfolding folders_of
  folder_names d l f = rw (lt-ltb d N l, f)

  pub no_folder : (d : ℕ) → is_folder u d ≡ false → folders_of u P N d ≡ []
  unfolding folders_of
  no_folder d f = by_bool (ltb d N) (λ l. rw (l, f)) (λ l. rw l)

  -- before the first name
  pub noted_start : (t : List ℕ) → States u N t → T 0 N t
  unfolding count_from parent_from lowest
  noted_start t s =
      record {
        first = s.first;
        element = λ k a b. s.element k a b ∙ omega arith;
        once = λ k a b v d. omega arith;
        near = λ k. pos;
        long = s.long;
      }

  -- an inode that is no folder has no names
  pub noted_none : (n d : ℕ) (t : List ℕ) → folders_of u P N d ≡ [] → T n (d + 1) t → T (suc n) d t
  unfolding count_from count has
  noted_none n d t e s =
      shows_same N (is_valid u) (is_directory u) few _ _ _ _ t (λ k. rw (count_from, e) (omega arith))
      (λ k. sym (rw e at (sym (parent_next F n d k)))) s

  pub is_folder_lem : (n d e : ℕ) (t : List ℕ) → T n e t → 0 < d → d < N → 4 ≤ state_in t d → is_folder u d ≡ true
  is_folder_lem n d e t s a l h =
      state_high (is_valid u d) (is_directory u d) (count_from F n e d)
      (rw (← (shown_state N (is_valid u) (is_directory u) few _ _ t s d a l)) h)

  pub is_none : (n d e : ℕ) (t : List ℕ) → T n e t → 0 < d → d < N → state_in t d < 4 → is_folder u d ≡ false
  is_none n d e t s a l h =
      state_low (is_valid u d) (is_directory u d) (count_from F n e d) (rw (← (shown_state N (is_valid u) (is_directory u) few _ _ t s d a l)) h)

  -- Folder d, whose log is good.
  module _ (d : ℕ) (l : d < N) (f : is_folder u d ≡ true) (ok : log_ok u P N d ≡ true) where
    dir : is_directory u d ≡ true
    dir = search ands

    all_past : all past (names_of u P N d) ≡ true
    unfolding all names_of log_ok
    all_past =
        let o = rw dir at ok in
        fold_keeps name_step (λ ns. all past ns ≡ true) (name_entry_ok N) (past_step N) (entries u P N d) [] (search ands) refl

    leads : (k : ℕ) → has k (inodes (F d)) ≡ true → (0 < k) × (k < N)
    leads k h =
        let g = rw (folder_names d l f) at h in
        let a = all_has (leb 1) k (inodes (names_of u P N d)) (all_map (leb 1) (λ (p : List ℕ × ℕ). p.1) (names_of u P N d) ∙ all_past) g in
        let b = all_has (λ i. ltb i N) k (inodes (names_of u P N d))
        (all_map (λ i. ltb i N) (λ (p : List ℕ × ℕ). p.1) (names_of u P N d) ∙ names_lead u P N d ok dir) g in
        (leb-true 1 k a, ltb-true k N b)

    module _ (n : ℕ) (t : List ℕ) (s : T n (d + 1) t) where
      pub noted_next : may_note t d (inodes (folders_of u P N d)) ≡ true
          → (all (is_valid u) (inodes (folders_of u P N d)) ≡ true) × T (suc n) d (noted_all t d (inodes (folders_of u P N d)))
      unfolding count_from
      noted_next m =
          let r = notes_shown N (is_valid u) (is_directory u) few d l (inodes (F d)) _ _ t s leads m in (
            r.0,
            shows_same N (is_valid u) (is_directory u) few _ _ _ _ (noted_all t d (inodes (F d))) (λ k. omega arith)
                (parent_next F n d) r.1,
          )

      -- a name that cannot be noted is none of an accepted volume
      pub noted_not : suc n + d ≡ N → may_note t d (inodes (folders_of u P N d)) ≡ false → view_ok u P N ≡ false
      unfolding count_from
      noted_not e m =
          not_true_false (view_ok u P N)
          (λ good.
          let fine = folders_fine u P N good in
          let r = notes_refused N (is_valid u) (is_directory u) few d l (inodes (F d)) _ _ t s leads m in
          let k = r.0 in
          ⊎_elim (λ i. clash (is_valid u k) (fine.child d k (has_count k (inodes (F d)) r.1)).2 i)
          (λ w.
          let b = leads k r.1 in
          let o = fine.once k b.1 b.0 w.0 w.1 in
          let p = count_part F N (suc n) d k e in
          let z = w.2 in absurd (omega arith))
          r.2)

  -- no folder has a name of inode 0
  pub no_root : ((d : ℕ) → d < N → is_folder u d ≡ true → log_ok u P N d ≡ true) → parent_of N (folders_of u P N) 0 ≡ 0
  unfolding parent_of has
  no_root logs = go (lowest (λ d. has 0 (inodes (F d))) N 0) refl
    where
      go : (o : Option ℕ) → lowest (λ d. has 0 (inodes (F d))) N 0 ≡ o → or_else o 0 ≡ 0
      go none e = refl
      go (some d) e =
          let r = lowest_is (λ d. has 0 (inodes (F d))) N 0 d e in
          let l : d < N = omega (arith, r.below) in
          by_bool (is_folder u d) (λ f. let b = leads d l f (logs d l f) 0 r.holds in absurd (omega (arith, b.0)))
          (λ f. no (rw (no_folder d f) at r.holds))
