-- Every entry that a file's log may hold sets the size, so that the last one decides it.
use Rattle.model.proofs.Prelude.{ℕ, zero, suc, ◌+◌, ◌*◌, ◌-◌, ◌%◌, ◌≤◌, ◌<◌, ◌≡◌, refl, sym, ◌∙◌, ap, true, false, arith, sub-one, eqb-true, ne_eqb}
use Rattle.model.specs.Lists.{all, foldl, is_some}
use Rattle.model.specs.Words.{Mem}
use Rattle.model.specs.Layout.{is_directory}
use Rattle.model.specs.Journal.{view}
use Rattle.model.specs.Entry.{Entry as Full, write_entry, size_entry, add_entry, remove_entry, no_entry, entry_at, file_entry_ok}
use Rattle.model.specs.Log.{log_pages}
use Rattle.model.specs.State.{File, empty_file, file_step, file_of}
use Rattle.model.specs.Accept.{log_ok}
use Rattle.model.proofs.Tests.{by_eq, no, and_right, cond_and}
use Rattle.inode_log.specs.Entries.{meant}
use Rattle.inode_log.specs.Steps.{landing, step_at, entries_from, within}
use Rattle.inode_log.specs.Found.{log_entries, LogOf}
use Rattle.inode_log.specs.declared.Log.{Log}
use Rattle.inode_log.specs.declared.Step.{Step}
use Rattle.inode_log.proofs.Meant.{meant_in}
use Rattle.inode_log.proofs.Turns.{next_entries, no_entries, step_there, within_turn}
use Rattle.files.specs.State.{size_in}

module _ (P N : ℕ) where
  step_size : (f : File) (e : Full) → file_entry_ok P N e ≡ true → (file_step f e).size ≡ size_in e
  unfolding file_entry_ok file_step size_in
  step_size f (write_entry i d c z) h = refl
  step_size f (size_entry z) h = refl
  step_size f (add_entry i l x) h = no h
  step_size f (remove_entry l x) h = no h
  step_size f no_entry h = no h

  -- the last entry of a log stands before its end
  last_size : (Q : ℕ) (m : Mem) (end n from : ℕ) (f : File) → within n m Q from end ≡ true
      → all (file_entry_ok P N) (entries_from n m from end) ≡ true → (from ≡ end → ⊥)
      → ((foldl file_step f (entries_from n m from end)).size ≡ size_in (entry_at m (8 * (end - 1)))) × (0 < end) × (end ≤ 8 * Q)
  unfolding within all foldl
  last_size Q m end zero from f w h d = absurd (d (eqb-true from end w))
  last_size Q m end (suc n) from f w h d =
      let p = landing m from in
      let x = entry_at m (8 * p) in
      let es = entries_from n m (p + 1) end in
      let q = next_entries (suc n) m from end (omega arith) d in
      let b = step_there (suc n) m Q from end w (omega arith) d (512 * Q) (omega arith) in
      let i = within_turn (suc n) m Q from end w (omega arith) d (step_at m from) refl in
      let g = rw (q, sub-one) at h in
      let ok = cond_and (file_entry_ok P N x) (all (file_entry_ok P N) es) g in
      by_eq (p + 1) end
      (λ z.
      let t : end - 1 ≡ p = omega arith in
      (rw (q, sub-one, no_entries n m (p + 1) end z, t) (step_size f x ok.0), omega arith, omega arith))
      (λ z.
      let r = last_size Q m end n (p + 1) (file_step f x) (rw sub-one at i) ok.1 z in
      (rw (q, sub-one) r.0, r.1, r.2))

-- `last_size`: g is the log of inode k, a file
module _ (m : Mem) (L P N k : ℕ) (g : Log) (l : LogOf m L P N k g) (file : is_directory (view m) k ≡ false)
    (ok : log_ok (view m) P N k ≡ true) where
  entries_ok : all (file_entry_ok P N) (log_entries m g) ≡ true
  unfolding log_ok
  entries_ok = rw l.entries_are (and_right (is_some (log_pages (view m) P N k)) _ (rw file at ok))

  folds : file_of (view m) P N k ≡ foldl file_step empty_file (log_entries m g)
  unfolding file_of
  folds = rw l.entries_are

  pub nothing_written : g.end ≡ 0 → 0 ≡ (file_of (view m) P N k).size
  unfolding foldl empty_file
  nothing_written z =
      by_eq g.start g.end (λ d. rw (folds, no_entries (7 * g.pages) m g.start g.end d))
      (λ d.
      absurd (omega (arith, (last_size P N g.pages m g.end (7 * g.pages) g.start empty_file l.inside.steps entries_ok d).1)))

  module _ (some : g.end ≡ 0 → ⊥) where
    last : ((file_of (view m) P N k).size ≡ size_in (entry_at m (8 * (g.end - 1)))) × (g.end ≤ 8 * g.pages)
    last =
        let r = last_size P N g.pages m g.end (7 * g.pages) g.start empty_file l.inside.steps entries_ok
        (λ d. l.to_slot some (rw d at l.from_page)) in
        (ap (λ (f : File). f.size) folds ∙ r.0, r.2)

    lands : landing m (g.end - 1) ≡ g.end - 1
    unfolding landing
    lands = rw (ne_eqb ((g.end - 1) % 8) 7 (λ e. l.to_slot some (omega arith)))

    pub last_here : 64 * (g.end - 1) + 8 ≤ L
    last_here = omega (arith, last.1, l.inside.bytes, some)

    pub last_there : 64 * landing m (g.end - 1) + 64 ≤ L
    last_there = rw lands (omega (arith, last.1, l.inside.bytes, some))

    pub last_low : landing m (g.end - 1) < 32768
    last_low = rw lands (omega (arith, last.1, l.inside.few, some))

    pub last_sets : (s : Step) (r : ℕ) → s ≡ step_at m (g.end - 1) → r ≡ size_in (meant s.entry) → r ≡ (file_of (view m) P N k).size
    last_sets s r e h =
        h ∙ ap (λ (x : Step). size_in (meant x.entry)) e
        ∙ rw (lands, meant_in m (8 * (g.end - 1))) (sym last.0)
