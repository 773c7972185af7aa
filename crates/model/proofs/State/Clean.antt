-- The entries that clean writes for a file come to that file: its stretches map every page that it has, and each sets its size.
use Rattle.model.proofs.Prelude.{◌≡◌, refl, sym, ◌∙◌, ⊎_elim, ⊎_map, ℕ, ◌*◌, ◌≤◌, true, List, map, arith, length, length-map, leb, eq-eqb, ne_eqb}
use Rattle.model.specs.Lists.{all, foldl}
use Rattle.model.specs.Stretches.{Stretch, stretches}
use Rattle.model.specs.Entry.{file_entry_ok}
use Rattle.model.specs.State.{File, empty_file, file_step}
use Rattle.model.specs.Calls.{stretch_entries, clean_file}
use Rattle.model.proofs.Tests.{by_bool, by_eq, by_lt, inside, outside}
use Rattle.model.proofs.Lists.{no_length}
use Rattle.model.proofs.Log.Decode.{decode, decode_size, size_ok}
use Rattle.model.proofs.Frame.Placed.{Placed, in_bounds}
use Rattle.model.proofs.State.Stretches.{same_file, after, after_page, after_some, stretches_length, stretches_fit}

module _ (f : File) where
  abbrev runs : List Stretch
  runs = stretches f.page 128 0

  abbrev run_entries : List (List ℕ)
  run_entries = stretch_entries f.size runs

  runs_length : length run_entries ≡ length runs
  unfolding stretch_entries
  runs_length = length-map runs _

  pub clean_file_length : length (clean_file f) ≤ 128
  unfolding clean_file
  clean_file_length =
      let r = stretches_length f.page 128 0 in
      let l = runs_length in
      by_eq (length run_entries) 0
      (λ e. by_eq f.size 0 (λ z. rw (eq-eqb _ _ e, eq-eqb _ _ z) (omega arith)) (λ z. rw (eq-eqb _ _ e, ne_eqb _ _ z) (omega arith)))
      (λ e. rw (ne_eqb _ _ e) (omega arith))

  module _ (P N : ℕ) (placed : Placed P N f) where
    runs_page : (j : ℕ) → (after f.size empty_file runs).page j ≡ f.page j
    unfolding empty_file
    runs_page j =
        after_page f.size f.page 128 0 empty_file j
        ∙ by_eq (f.page j) 0 (λ e. rw e (by_lt j 128 (λ l. rw (inside 0 128 j (omega arith) l)) (λ l. rw (outside 0 128 j (λ a b. omega arith)))))
        (λ e. by_lt j 128 (λ l. rw (inside 0 128 j (omega arith) l, ne_eqb _ _ e)) (λ l. ⊎_elim (λ z. absurd (e z)) (λ h. absurd (omega arith)) (placed j)))

    pub clean_file_lem : foldl file_step empty_file (map decode (clean_file f)) ≡ f
    unfolding clean_file foldl empty_file file_step
    clean_file_lem =
        by_eq (length run_entries) 0
        (λ e.
        let p : (j : ℕ) → 0 ≡ f.page j = λ j. rw (no_length run_entries e) at (runs_page j) in
        by_eq f.size 0 (λ z. rw (eq-eqb _ _ e, eq-eqb _ _ z) (same_file _ f (sym z) p))
        (λ z. rw (eq-eqb _ _ e, ne_eqb _ _ z, decode_size)
        (same_file _ f refl (λ j. by_bool (leb f.size (512 * j)) (λ t. rw t (p j)) (λ t. rw t (p j))))))
        (λ e. rw (ne_eqb _ _ e) (same_file _ f (after_some f.size runs empty_file (λ z. e (runs_length ∙ z))) runs_page))

    pub clean_file_ok : f.size ≤ 65536 → all (file_entry_ok P N) (map decode (clean_file f)) ≡ true
    unfolding clean_file all
    clean_file_ok h =
        by_eq (length run_entries) 0
        (λ e. by_eq f.size 0 (λ z. rw (eq-eqb _ _ e, eq-eqb _ _ z)) (λ z. rw (eq-eqb _ _ e, ne_eqb _ _ z, decode_size, size_ok P N f.size h)))
        (λ e. rw (ne_eqb _ _ e) (stretches_fit P N f.size h f.page 128 0 (omega arith)
        (λ j. ⊎_map (λ z. z) (λ b. in_bounds P N (f.page j) b.1) (placed j))))
