-- One turn of the fold over a file's log: the entry that a step hands back is the first of those that are left.
use Rattle.model.proofs.Prelude.{ℕ, ◌*◌, ◌-◌, ◌≤◌, ◌<◌, ◌≡◌, sym, ◌∙◌, ap, Bool, true, false, not, List, []}
use Rattle.std.specs.Prelude.{Some, None}
use Rattle.std.proofs.lemmas.Option.{none-some, same_Some}
use Rattle.model.specs.Words.{Mem}
use Rattle.model.specs.Lists.{all, foldl}
use Rattle.model.specs.Entry.{entry_at, file_entry_ok}
use Rattle.model.specs.State.{File, file_step}
use Rattle.words.proofs.Cond.{asked_true, asked_false}
use Rattle.inode_log.specs.declared.Step.{Step}
use Rattle.inode_log.specs.Entries.{meant}
use Rattle.inode_log.specs.Steps.{landing, step_at, entries_from}
use Rattle.inode_log.proofs.Meant.{meant_in}
use Rattle.inode_log.proofs.Turns.{next_entries, no_entries, spent_entries}
use Rattle.files.specs.State.{file_from, Applied, Folds}

-- the entry that a step handed back
module _ (m : Mem) (from : ℕ) (r : Step) (e : r ≡ step_at m from) where
  is_entry : meant r.entry ≡ entry_at m (8 * landing m from)
  is_entry = ap (λ (s : Step). meant s.entry) e ∙ meant_in m (8 * landing m from)

module _ (n : ℕ) (m : Mem) (from end : ℕ) (l : 0 < n) (d : from ≡ end → ⊥) (r : Step) (e : r ≡ step_at m from) where
  module _ (P N : ℕ) (z f : Bool) (a : all (file_entry_ok P N) (entries_from n m from end) ≡ z) (h : f ≡ file_entry_ok P N (meant r.entry)) where
    pub all_turn : not f ≡ false → all (file_entry_ok P N) (entries_from (n - 1) m r.next.place end) ≡ z
    unfolding all
    all_turn k =
        let b = rw (is_entry m from r e) at (asked_true (file_entry_ok P N (meant r.entry)) f h k) in
        rw e (rw (next_entries n m from end l d, all, b) at a)

    pub all_bad : (g : File) (t : List ℕ) → not f ≡ true → Folds z g None t
    unfolding all
    all_bad g t k =
        let b = rw (is_entry m from r e) at (asked_false (file_entry_ok P N (meant r.entry)) f h k) in
        let c : z ≡ false = sym (rw (next_entries n m from end l d, all, b) at a) in
        record { good = sym c; file = λ s y. absurd (none-some s y) }

  pub fold_turn : (s x : ℕ) (t u : List ℕ) (z : File) → foldl file_step (file_from s t) (entries_from n m from end) ≡ z → Applied s t r.entry x u
      → foldl file_step (file_from x u) (entries_from (n - 1) m r.next.place end) ≡ z
  unfolding foldl
  fold_turn s x t u z a g =
      rw (e, g.file ∙ ap (file_step (file_from s t)) (is_entry m from r e)) (rw (next_entries n m from end l d, foldl) at a)

-- the end of the loop
module _ (P N n : ℕ) (m : Mem) (from end s : ℕ) (t : List ℕ) (z : Bool) (g : File) (a : all (file_entry_ok P N) (entries_from n m from end) ≡ z)
    (f : foldl file_step (file_from s t) (entries_from n m from end) ≡ g) where
  folded : entries_from n m from end ≡ [] → Folds z g (Some s) t
  unfolding all foldl
  folded e =
      let b : true ≡ z = rw e at a in
      let c : file_from s t ≡ g = rw e at f in
      record { good = b; file = λ x y. rw (← same_Some s x y) c }

  pub fold_done : from ≡ end → Folds z g (Some s) t
  fold_done e = folded (no_entries n m from end e)

  pub fold_spent : n ≤ 0 → Folds z g (Some s) t
  fold_spent e = folded (spent_entries n m from end e)
