-- Clean behind the gate: an inode that is not there is refused, an empty log is left, and any other log is an append that writes it anew.
use Rattle.model.proofs.Prelude.{ℕ, ◌+◌, ◌*◌, ◌/◌, ◌≤◌, ◌<◌, ◌≡◌, refl, sym, ◌∙◌, Bool, true, false, not, ◌||◌, List, [], ◌∷◌, arith, le-leb, lt-leb, lt-ltb, le-ltb, leb-false, eq-eqb, ne_eqb, not-false, leb, length, take, length-take, length-take-le}
use Rattle.std.specs.Prelude.{Result, Ok, Err, IsErrAnd}
use Rattle.model.specs.Words.{Mem, word}
use Rattle.model.specs.Layout.{tail_word, is_directory}
use Rattle.model.specs.Journal.{view}
use Rattle.model.specs.State.{names_of, file_of}
use Rattle.model.specs.Accept.{is_valid, folders_of, log_ok}
use Rattle.model.specs.FileMap.{clean}
use Rattle.model.specs.Stores.{no_words, store_list}
use Rattle.model.specs.Calls.{clean_file, clean_names, clean_entries, clean_action, entries_only, none_there, checks, groups, action, action_checks, action_groups}
use Rattle.model.proofs.Tests.{by_lt, or_false}
use Rattle.model.proofs.Frame.View.{log_ok_lem}
use Rattle.model.proofs.Crash.Journal.{closed_view}
use Rattle.inode_log.specs.Ready.{Ready}
use Rattle.directory.specs.Places.{standing, Filled}
use Rattle.names.specs.Inodes.{Readable, below, valid_in}
use Rattle.names.specs.Listed.{names_in, Good, Turned}
use Rattle.names.specs.declared.FolderNames.{FolderNames}
use Rattle.names.proofs.Listing.{good_long, good_view, good_ready, good_readable, good_reads}
use Rattle.files.specs.State.{file_from}
use Rattle.entries.specs.Table.{entries_of, Holds}
use Rattle.entries.proofs.Entries.{entries_take}
use Rattle.answer.specs.Comes.{Comes, came_to}
use Rattle.answer.specs.declared.Refusal.{Refusal}
use Rattle.answer.specs.declared.Refusal.TheVariants.{NotThere}
use Rattle.answer.proofs.Coming.{comes_refused, comes_none, comes_as}
use Rattle.append.specs.declared.Append.{Append}
use Rattle.append.specs.Appended.{plain, action_of, outcome, Ready as AppendReady}
use Rattle.append.proofs.Volumes.{closed_bytes, closed_sizes}
use Rattle.append.proofs.Outcomes.{one_log_ready, one_log, asked_only, zeroed_none, also_nothing}
use Rattle.gate.specs.Gated.{fill_checks, Gated}
use Rattle.gate.proofs.Gates.{gate_good, gate_turned}
use Rattle.gate.proofs.Lists.{fill_refused, fill_behind, fill_long, fill_closed, fill_view}
use Rattle.cleaning.specs.Cleanable.{Cleanable, Checked}

-- the first words of a table are as many as its first entries take
pub slice_long : (ws₀ ws : List ℕ) (r : ℕ) (es : List (List ℕ)) → Holds ws₀ ws r es → length ws₀ ≡ 1792 → r ≤ 224
    → 8 * r ≡ length (take (8 * r) ws)
slice_long ws₀ ws r es h e f = sym (length-take-le (8 * r) ws (omega (arith, h.long)))

-- the append that writes the log of inode k anew, and what it comes to
abbrev anew_append : ℕ → Append
anew_append k = record { log = k; file = 0; size = 0; second = 0; moved = 0; other = 0; valid = 0; kind = 0; anew = true; keeps = false }

anew_outcome : (v : List ℕ) (k : ℕ) (ws : List ℕ) (es : List (List ℕ)) → entries_of ws 0 (length ws / 8) ≡ es
    → outcome v (action_of (anew_append k) ws []) ≡ outcome v (plain false (entries_only true k es ∷ []) no_words [])
anew_outcome v k ws es p =
    rw (
      one_log (anew_append k) ws [] refl,
      asked_only (anew_append k) ws refl refl refl,
      p,
      zeroed_none (anew_append k) refl,
      also_nothing (anew_append k) refl,
    )

-- `clean_entries`
module _ (v : List ℕ) (n : ℕ) (places : List ℕ) (k : ℕ) (c : Cleanable v n places k) where
  pub entries_long : 16 ≤ length v
  entries_long = good_long v c.volume

  pub entries_readable : Readable (word v) (length v) (word v 1)
  entries_readable = good_reads v c.volume

  pub entries_below : k < word v 1
  entries_below = c.below

  pub entries_filled : Filled (word v) (length v) n places
  entries_filled = c.lists.filled

  pub names_few : (r : ℕ) → r ≡ n → r ≤ 224
  names_few r e = omega (arith, c.lists.filled.few)

  -- d is what `is_directory` answered
  module _ (d : Bool) (a : d ≡ is_directory (view (word v)) k) where
    -- a folder
    pub names_laid : (w x : List ℕ) (r : ℕ) → d ≡ true → Holds w x r (clean_names (standing (word v) (take n places)))
        → Holds w x r (clean_entries (view (word v)) (word v 0) (word v 1) k)
    unfolding clean_entries folders_of
    names_laid w x r y h =
        let e = sym a ∙ y in
        let z : names_in v k ≡ names_of (view (word v)) (word v 0) (word v 1) k = rw (lt-ltb k (word v 1) c.below, e, c.valid) in
        rw (e, ← z) (rw c.lists.names at h)

    -- a file
    pub is_file_lem : d ≡ false → is_directory (view (word v)) k ≡ false
    is_file_lem y = sym a ∙ y

    -- P and N are the sizes that the code read, s and t what `judged_file` answered and left
    pub file_laid : (P N : ℕ) → P ≡ word v 0 → N ≡ word v 1 → (s : ℕ) (t : List ℕ) → file_from s t ≡ file_of (view (word v)) P N k → d ≡ false
        → (w x : List ℕ) (r : ℕ) → Holds w x r (clean_file (file_from s t))
        → Holds w x r (clean_entries (view (word v)) (word v 0) (word v 1) k)
    unfolding clean_entries
    file_laid P N p q s t f y w x r h = rw (sym a ∙ y) (rw (f, p, q) at h)

  module _ (P N : ℕ) (p : P ≡ word v 0) (q : N ≡ word v 1) where
    pub file_ready : Ready (word v) (length v) P N
    file_ready = good_ready v c.volume P N p q

    pub file_below : k < N
    file_below = rw q c.below

    pub file_log : log_ok (view (word v)) P N k ≡ true
    file_log = rw (p, q) (log_ok_lem (view (word v)) (word v 0) (word v 1) (good_view v c.volume) k c.below c.valid)

-- `clean_log`
module _ (v l : List ℕ) (n : ℕ) (places marks : List ℕ) (k : ℕ) (c : Cleanable v n places k) (g : Checked v l marks k) where
  abbrev m : Mem
  m = word v

  same_view : view m ≡ m
  same_view = closed_view m g.closed.closed

  is_valid_lem : is_valid m k ≡ true
  is_valid_lem = rw same_view at c.valid

  pub inode_low : k < 1152921504606846976
  inode_low = omega (arith, c.below, (closed_sizes v marks g.closed).1)

  pub tail_inside : (w : ℕ) → w ≡ tail_word k → 8 * w + 8 ≤ length v
  tail_inside w i = omega (arith, i, c.below, closed_bytes v marks g.closed, (closed_sizes v marks g.closed).2)

  there : none_there m (m 0) (m 1) k ≡ false
  unfolding none_there
  there = rw (lt-leb (m 1) k c.below, is_valid_lem)

  -- the append o of the first words of the table ws
  pub anew_ready : (o : Append) → o ≡ anew_append k → (ws : List ℕ) (r : ℕ) → r ≤ 224 → AppendReady v marks o (take (8 * r) ws) [] l
  anew_ready o f ws r few =
      let s = length-take (8 * r) ws in
      let t = g.room in
      rw f (one_log_ready v marks (anew_append k) (take (8 * r) ws) [] l g.closed refl refl c.below is_valid_lem (omega (arith, c.below))
      (λ e. absurd (let j : ◌≡◌ {A = ℕ} 0 1 = cc in omega arith)) (omega arith) refl (omega arith) (omega arith) (omega arith))

  -- x is the tail, read from word w
  module _ (w x : ℕ) (i : w ≡ tail_word k) (b : x ≡ m w) where
    tail_is : x ≡ m (tail_word k)
    tail_is = rw (← i) b

    pub clean_empty : x ≡ 0 → Comes (came_to v l (clean k)) l (Ok 0) l
    unfolding outcome action_checks action_groups clean_action store_list
    clean_empty z = comes_none (came_to v l (clean k)) l (g.comes ∙ rw (there, eq-eqb (m (tail_word k)) 0 (sym tail_is ∙ z)))

    -- the first r entries of the table ws are those of the clean log
    module _ (z : x ≡ 0 → ⊥) (ws₀ ws : List ℕ) (r : ℕ) (h : Holds ws₀ ws r (clean_entries (view m) (m 0) (m 1) k)) (few : r ≤ 224)
        (long : length ws₀ ≡ 1792) (o : Append) (f : o ≡ anew_append k) where
      table_entries : entries_of (take (8 * r) ws) 0 (length (take (8 * r) ws) / 8) ≡ clean_entries m (m 0) (m 1) k
      table_entries =
          let e : length (take (8 * r) ws) / 8 ≡ r = omega (arith, slice_long ws₀ ws r _ h long few) in
          rw e (entries_take ws (8 * r) 0 r (omega arith) ∙ (rw same_view at h.entries))

      pub anew_comes : (t : Result ℕ Refusal) (l' : List ℕ) → Comes (outcome v (action_of o (take (8 * r) ws) [])) l t l'
          → Comes (came_to v l (clean k)) l t l'
      unfolding outcome action_checks action_groups clean_action
      anew_comes t l' d =
          comes_as (came_to v l (clean k)) (outcome v (action_of o (take (8 * r) ws) [])) l t l'
          (g.comes ∙ rw (there, ne_eqb (m (tail_word k)) 0 (λ j. z (tail_is ∙ j)), f)
          (sym (anew_outcome v k (take (8 * r) ws) (clean_entries m (m 0) (m 1) k) table_entries))) d

-- `clean`: places, marks and tree are what the gate left
module _ (v l places marks tree : List ℕ) where
  pub gate_told : (e : Refusal) (r : Result ℕ Refusal) → IsErrAnd r (λ d. d ≡ e)
      → Gated v (fill_checks (length v) (word v) (length l)) (Err e) places marks tree → (k : ℕ) → Comes (came_to v l (clean k)) l r l
  gate_told e r p g k = fill_refused v l (clean k) refl places marks tree e r p g

  module _ (n : ℕ) (g : Gated v (fill_checks (length v) (word v) (length l)) (Ok n) places marks tree) where
    pub clean_long : 16 ≤ length v
    clean_long = good_long v (gate_good v _ n places marks tree g)

    pub clean_good : Good v
    clean_good = gate_good v _ n places marks tree g

    pub clean_readable : (N : ℕ) → N ≡ word v 1 → Readable (word v) (length v) N
    clean_readable N q = good_readable v clean_good N q

    pub clean_turned : Turned v 0 (record { folder = 0; count = n }) places
    clean_turned = gate_turned v _ n places marks tree g

    view_here : view (word v) ≡ word v
    view_here = fill_view v l n places marks tree g

    behind : (k : ℕ) → came_to v l (clean k) ≡ outcome v (clean_action (word v) (word v 0) (word v 1) k)
    unfolding checks groups action outcome
    behind k = fill_behind v l (clean k) refl places marks tree n g ∙ rw view_here

    -- k is the inode, N the count of inodes as the code read it, and d what `is_valid` answered
    module _ (k N : ℕ) (q : N ≡ word v 1) (d : Bool) (a : d ≡ valid_in (view (word v)) N k) where
      absent_is : not d ≡ leb (word v 1) k || not (is_valid (word v) k)
      unfolding valid_in below
      absent_is =
          let b = rw (view_here, q) at a in
          by_lt k (word v 1) (λ h. rw (lt-leb (word v 1) k h, b, lt-ltb k (word v 1) h))
          (λ h. rw (le-leb (word v 1) k h, b, le-ltb k (word v 1) h))

      pub clean_absent : not d ≡ true → Comes (came_to v l (clean k)) l (Err NotThere) l
      unfolding outcome action_checks clean_action none_there
      clean_absent y = comes_refused (came_to v l (clean k)) l NotThere (behind k ∙ rw (← absent_is, y))

      module _ (y : not d ≡ false) where
        found : (leb (word v 1) k ≡ false) × (not (is_valid (word v) k) ≡ false)
        found = or_false (leb (word v 1) k) (not (is_valid (word v) k)) (sym absent_is ∙ y)

        -- t and places' are what `turn` answered and left
        pub can_clean : (t : FolderNames) (places' : List ℕ) → Turned v k t places' → Cleanable v t.count places' k
        can_clean t places' h =
            record {
              volume = clean_good;
              lists = h.lists;
              below = leb-false (word v 1) k found.0;
              valid = rw view_here (not-false (is_valid (word v) k) found.1);
            }

    pub is_checked : (k : ℕ) → Checked v l marks k
    is_checked k =
        record { closed = fill_closed v l n places marks tree g; room = fill_long v l n places marks tree g; comes = behind k }
