-- What the checks of an accepted volume say of its folders, and back.
use Rattle.model.proofs.Prelude.{◌≡◌, refl, ◌⊎◌, inl, inr, ⊎_elim, ℕ, ◌+◌, ◌*◌, ◌≤◌, ◌<◌, Bool, true, ◌&&◌, List, [], ◌∷◌, arith, length, take, leb, ltb, eqb, eqb-true, eq-eqb, ne_eqb, leb-true, ltb-true, le-leb}
use Rattle.model.specs.Lists.{all, count}
use Rattle.model.specs.Words.{Mem}
use Rattle.model.specs.Layout.{is_directory}
use Rattle.model.specs.Entry.{Entry, write_entry, size_entry, add_entry, remove_entry, no_entry, name_entry_ok}
use Rattle.model.specs.Log.{entries}
use Rattle.model.specs.State.{Names, names_of, inodes, name_step, with_name, without}
use Rattle.model.specs.Tree.{name_count, is_reached}
use Rattle.model.specs.Accept.{is_valid, is_folder, folders_of, log_ok, folder_ok, named_ok, view_ok}
use Rattle.model.proofs.Tests.{by_bool, by_eq, no, ands}
use Rattle.model.proofs.Lists.{has_count, count_has, all_has, all_by, all_cons, all_append, all_filter, fold_keeps}
use Rattle.model.proofs.Frame.View.{view_fine, log_ok_lem, folders_lead}
use Rattle.model.proofs.Tree.{top, above_reaches, reaches_above}
use Rattle.model.proofs.State.Names.{distinct_fold}
use Rattle.model.proofs.State.Folders.{holds, FoldersFine}

-- no name leads to inode 0
abbrev past : List ℕ × ℕ → Bool
past p = leb 1 p.1

pub past_step : (N : ℕ) (ns : Names) (e : Entry) → name_entry_ok N e ≡ true → all past ns ≡ true → all past (name_step ns e) ≡ true
unfolding name_step name_entry_ok with_name without all
past_step N ns (write_entry a d c z) e h = h
past_step N ns (size_entry z) e h = h
past_step N ns (add_entry j l n) e h =
    let g : leb 1 j ≡ true = search ands in
    all_append past (without (take l n) ns) ((take l n, j) ∷ []) (all_filter past _ ns h) (rw g)
past_step N ns (remove_entry l n) e h = all_filter past _ ns h
past_step N ns no_entry e h = h

all_pairs : (f : ℕ → Bool) (ns : Names) → all (λ (p : List ℕ × ℕ). f p.1) ns ≡ true → all f (inodes ns) ≡ true
unfolding all
all_pairs f [] a = refl
all_pairs f (p ∷ ps) a = let c = all_cons (λ (p : List ℕ × ℕ). f p.1) p ps a in rw c.0 (all_pairs f ps c.1)

-- a test of every pair holds of every inode that is counted
pair_has : (f : ℕ → Bool) (k : ℕ) (ns : Names) → all (λ (p : List ℕ × ℕ). f p.1) ns ≡ true → 1 ≤ count k (inodes ns) → f k ≡ true
pair_has f k ns a c = all_has f k (inodes ns) (all_pairs f ns a) (count_has k (inodes ns) c)

module _ (u : Mem) (P N : ℕ) where
  -- a folder, or no names
  folder_or : (d : ℕ) → (folders_of u P N d ≡ [])
      ⊎ ((d < N) × (is_valid u d ≡ true) × (is_directory u d ≡ true) × (folders_of u P N d ≡ names_of u P N d))
  unfolding folders_of
  folder_or d =
      by_bool (ltb d N && is_folder u d)
      (λ t.
      let l : ltb d N ≡ true = search ands in
      let c : is_directory u d ≡ true = search ands in
      let v : is_valid u d ≡ true = search ands in inr (ltb-true d N l, v, c, rw t))
      (λ t. inl (rw t))

  pub fine_folders : 0 < N → FoldersFine N (is_valid u) (is_directory u) (folders_of u P N)
      → ((d : ℕ) → folder_ok u (folders_of u P N d) ≡ true) × ((k : ℕ) → k < N → named_ok u N (folders_of u P N) k ≡ true)
  unfolding folder_ok named_ok
  fine_folders g f = (
    (λ d. rw (le-leb _ 224 (f.short d)) (all_by (is_valid u) (inodes (folders_of u P N d))
        (λ k h. (f.child d k (has_count k (inodes (folders_of u P N d)) h)).2))),
    (λ k l. by_bool (is_valid u k)
        (λ v. by_eq k 0 (λ z. rw (v, eq-eqb k 0 z))
        (λ z. by_bool (is_directory u k)
        (λ c. rw (v, ne_eqb k 0 z, rw (ne_eqb k 0 z) at c, eq-eqb _ _ (f.once k l (omega arith) v c))
        (reaches_above N (folders_of u P N) g k l (f.reached k l v c)))
        (λ c. let n = f.named k l (omega arith) v in rw (
          v,
          ne_eqb k 0 z,
          rw (ne_eqb k 0 z) at c,
          ne_eqb (name_count N (folders_of u P N) k) 0 (λ q. omega arith),
        ))))
        (λ v. rw v)),
  )

  module _ (ok : view_ok u P N ≡ true) where
    counted_none : (d k : ℕ) → folders_of u P N d ≡ [] → 1 ≤ holds (folders_of u P N) d k → ⊥
    unfolding count
    counted_none d k e h = let z : 1 ≤ count k (inodes []) = rw e at h in omega arith

    all_past : (d : ℕ) → all past (folders_of u P N d) ≡ true
    unfolding all names_of log_ok
    all_past d =
        ⊎_elim (λ e. rw e)
        (λ s. let o = rw s.2 at (log_ok_lem u P N ok d s.0 s.1) in
        rw s.3 (fold_keeps name_step (λ ns. all past ns ≡ true) (name_entry_ok N) (past_step N) (entries u P N d) [] (search ands) refl))
        (folder_or d)

    pub folders_fine : FoldersFine N (is_valid u) (is_directory u) (folders_of u P N)
    unfolding folder_ok named_ok names_of is_reached
    folders_fine = record {
      distinct = λ d. ⊎_elim (λ e. rw e tt) (λ s. rw s.3 (distinct_fold (entries u P N d) [] tt)) (folder_or d);
      short = λ d. ⊎_elim (λ e. rw e (omega arith))
          (λ s. let h = (view_fine u P N ok).folders d s.0 in leb-true (length (folders_of u P N d)) 224 (search ands)) (folder_or d);
      child = λ d k c. ⊎_elim (λ e. absurd (counted_none d k e c))
          (λ s.
          let h = (view_fine u P N ok).folders d s.0 in (
            leb-true 1 k (pair_has (leb 1) k (folders_of u P N d) (all_past d) c),
            ltb-true k N (pair_has (λ k. ltb k N) k (folders_of u P N d) (folders_lead u P N ok d) c),
            all_has (is_valid u) k (inodes (folders_of u P N d)) (search ands) (count_has k (inodes (folders_of u P N d)) c),
          )) (folder_or d);
      folder = λ d k c. ⊎_elim (λ e. absurd (counted_none d k e c)) (λ s. (s.0, s.1, s.2)) (folder_or d);
      named = λ k l g v. by_eq (name_count N (folders_of u P N) k) 0
          (λ z. let h = rw (v, ne_eqb k 0 (omega arith), z) at ((view_fine u P N ok).named k l) in
          by_bool (eqb (u (67 + 8 * k)) 1) (λ t. no (rw t at h)) (λ t. no (rw t at h)))
          (λ z. omega arith);
      once = λ k l g v c.
          let h = rw (v, ne_eqb k 0 (omega arith), rw (ne_eqb k 0 (omega arith)) at c) at ((view_fine u P N ok).named k l) in
          eqb-true (name_count N (folders_of u P N) k) 1 (search ands);
      reached = λ k l v c. by_eq k 0 (λ z. rw z top)
          (λ z. let h = rw (v, ne_eqb k 0 z, rw (ne_eqb k 0 z) at c) at ((view_fine u P N ok).named k l) in
          above_reaches N (folders_of u P N) N k (search ands));
    }
