-- The log of one folder goes on, or the logs of two. Two logs share no word: a page serves one log at most, and the second takes pages that
-- the first has left.
use Rattle.model.proofs.Prelude.{◌≡◌, refl, sym, ◌∙◌, fun_ext, ◌⊎◌, inl, inr, ⊎_elim, ℕ, ◌+◌, ◌-◌, ◌/◌, ◌≤◌, ◌<◌, Bool, true, false, cond, ◌||◌, or-true, List, [], ◌∷◌, ◌++◌, map, Option, none, some, arith, length, eqb, eqb-true, eqb-false, eq-eqb, ne_eqb}
use Rattle.model.specs.Lists.{sum_below, all, has, count, foldl}
use Rattle.model.specs.Words.{Mem}
use Rattle.model.specs.Layout.{valid_word, head_word, tail_word, is_directory, in_pages}
use Rattle.model.specs.Entry.{name_entry_ok}
use Rattle.model.specs.Log.{pages, tail_slots}
use Rattle.model.specs.State.{Names, name_step}
use Rattle.model.specs.Accept.{is_valid, folders_of, uses_by, uses, free, free_count, view_ok}
use Rattle.model.specs.FileMap.{FileMap, map_of}
use Rattle.model.specs.Stores.{Stores, both}
use Rattle.model.specs.Calls.{Change, Append, entries_only, tail_pages, targets, data_pages, appended, fresh_pages, fresh_log, pages_needed, pages_left, prepared, new_tail, all_needed}
use Rattle.model.proofs.Tests.{by_bool, by_eq, no, clash, or_false}
use Rattle.model.proofs.Tree.{with_folder}
use Rattle.model.proofs.Lists.{sum_below_add, sum_below_two, count_none, has_cons, has_append}
use Rattle.model.proofs.Log.Decode.{decode}
use Rattle.model.proofs.Log.Live.{lay_in}
use Rattle.model.proofs.Frame.Placed.{sizes_whole, in_bounds}
use Rattle.model.proofs.Frame.Inode.{page_in, tail_page}
use Rattle.model.proofs.Frame.View.{log_ok_lem, once}
use Rattle.model.proofs.Frame.Dead.{serves}
use Rattle.model.proofs.State.Folders.{FoldersFine}
use Rattle.model.proofs.Crash.Stores.{Only, Each, only_both, only_if_lem, only_word}
use Rattle.model.proofs.Crash.Commit.{Ready, ready_view, Owed}
use Rattle.model.proofs.Calls.DataPages.{left_count}
use Rattle.model.proofs.Calls.Room.{HasRoom, Room, Lone, room_in, room_found, left_may, fresh_may, free_bounds, free_in_lem, pages_in}
use Rattle.model.proofs.Calls.Still.{Still, still_prepared}
use Rattle.model.proofs.Calls.Actions.{only_entries, no_data}
use Rattle.model.proofs.Calls.Changed.{After, Grew, changed_one, changed_two}
use Rattle.model.proofs.Calls.Stored.{Stored, prepared_on, not_logged, Appends}
use Rattle.model.proofs.Calls.Small.{Inside, SmallEntries}
use Rattle.model.proofs.Calls.Grown.{free_behind, DeadIn, grown_lone, grown_taken, grown_small, grown_tail}
use Rattle.model.proofs.Calls.Names.{target_here, target_other, Valid, Tails, one_tail, two_tails, valid_change, head_off, in_table, valid_off, valid_values, Naming, now, folders_now, grew, naming_owed}

-- a folder's inode
pub record Folder (m : Mem) (N d : ℕ) : Type 0 where
  pub below : d < N
  pub valid : is_valid m d ≡ true
  pub directory : is_directory m d ≡ true

module _ (m : Mem) (P N : ℕ) (ok : view_ok m P N ≡ true) where
  -- the page on which a log goes on is one of its pages
  tail_logged : (k x : ℕ) → k < N → is_valid m k ≡ true → has x (tail_pages m k) ≡ true → has x (pages m P N k) ≡ true
  unfolding tail_pages has
  tail_logged k x l v h =
      by_eq (m (tail_word k)) 0 (λ t. no (rw t at h))
      (λ t. ⊎_elim (λ q. rw q (tail_page m P N k (log_ok_lem m P N ok k l v) t)) (λ q. no q)
      (has_cons x (m (tail_word k) / 512) [] (rw (ne_eqb _ _ t) at h)))

  -- no page is one of two logs
  two_logs : (j k x : ℕ) → j < N → k < N → (j ≡ k → ⊥) → is_valid m j ≡ true → is_valid m k ≡ true
      → has x (pages m P N j) ≡ true → has x (pages m P N k) ≡ true → ⊥
  unfolding uses
  two_logs j k x l h n v w p q =
      let a = serves m P N j x v p in
      let b = serves m P N k x w q in
      let s = sum_below_two N j k (uses_by m P N x) l h n in
      let o = once m P N ok x (page_in m P N j (log_ok_lem m P N ok j l v) x p) in omega arith

  -- where the first group of an append to a log stores: the head, and the pages on which its entries are laid
  abbrev Touches : (ℕ → Bool) → ℕ → List (List ℕ) → ℕ → Type 0
  Touches f k es w = (w ≡ head_word k) ⊎ (has (w / 64) (tail_pages m k ++ fresh_log m P f (entries_only false k es)) ≡ true)

  touches : (f : ℕ → Bool) (k : ℕ) (es : List (List ℕ)) → Only (Touches f k es) (prepared m P f (entries_only false k es))
  unfolding has entries_only
  touches f k es =
      let a = entries_only false k es in
      let ls = fresh_log m P f a in
      rw (prepared_on m P f a refl)
      (only_both (λ w x e. inr (lay_in (tail_pages m k ++ ls) (tail_slots m k) (appended m P f a) w x e))
      (only_both (only_if_lem (eqb (m (tail_word k)) 0) (λ t. only_word (λ w x. Touches f k es w) (head_word k) _ (inl refl)))
      (λ w x e. no (rw (no_data m P f false k es) at (pages_in (data_pages m P f a) a.words w x e)))))

-- A call that continues the log of folder d with the entries es, stores s, and commits the tail and the changes vs of valid words.
pub record OneLog (P N : ℕ) (m : Mem) (d : ℕ) (es : List (List ℕ)) (s : Stores) (vs : List Change) : Type 0 where
  pub naming : Naming P N m (λ i. eqb i d) (λ i. free m P N) (λ i. es) s (new_tail m P (free m P N) (entries_only false d es) ∷ []) vs

-- the pages that may be taken after the entries es of folder d
abbrev pub rest_of : Mem → ℕ → ℕ → ℕ → List (List ℕ) → ℕ → Bool
rest_of m P N d es = pages_left m P (free m P N) (entries_only false d es)

-- One that continues the log of folder d with es and then that of folder e with fs.
pub record TwoLogs (P N : ℕ) (m : Mem) (d e : ℕ) (es fs : List (List ℕ)) (s : Stores) (vs : List Change) : Type 0 where
  pub apart : d ≡ e → ⊥
  pub naming : Naming P N m (λ i. eqb i d || eqb i e) (λ i. cond (eqb i d) (free m P N) (rest_of m P N d es)) (λ i. cond (eqb i d) es fs) s
      (new_tail m P (free m P N) (entries_only false d es) ∷ new_tail m P (rest_of m P N d es) (entries_only false e fs) ∷ []) vs

module _ (P N : ℕ) (m : Mem) (r : Ready P N m) where
  ok : view_ok m P N ≡ true
  ok = ready_view P N m r

  module _ {d : ℕ} (is : Folder m N d) (es : List (List ℕ)) (some_es : 0 < length es) (room : HasRoom m P N (entries_only false d es)) where
    abbrev a : Append
    a = entries_only false d es

    room_one : Room m P N (data_pages m P (free m P N) a) a.count (fresh_log m P (free m P N) a) (fresh_pages m P (free m P N) a)
    room_one = room_found m P N a room

    pub one_still : Only (Still m P N) (prepared m P (free m P N) a)
    unfolding entries_only
    one_still = still_prepared m P N ok (free m P N) a is.below is.valid room_one

    one_tails : Tails N (new_tail m P (free m P N) a ∷ [])
    unfolding new_tail entries_only
    one_tails = one_tail d _ is.below

    module _ {s : Stores} {vs : List Change} (still : Only (Still m P N) s)
        (stores : (w x : ℕ) → prepared m P (free m P N) a w ≡ some x → s w ≡ some x)
        (valids : Valid N vs) (stays : targets vs (valid_word d) ≡ none) where
      abbrev cs : List Change
      cs = (new_tail m P (free m P N) a ∷ []) ++ vs

      one_did : Stored m P N s cs
      one_did = record { sizes = r.sizes; ok = ok; still = still; in_table = in_table one_tails valids }

      one_appends : Appends m P N (free m P N) a s cs
      unfolding entries_only new_tail
      one_appends = record {
        did = one_did;
        goes_on = refl;
        below = is.below;
        valid = is.valid;
        room = room_one;
        some_entries = rw (only_entries m P (free m P N) false d es) some_es;
        stores = stores;
        same_valid = valid_change one_tails valids d ∙ stays;
        same_head = head_off one_tails valids d;
        new_tail_lem = target_here (new_tail m P (free m P N) a) vs;
      }

      one_naming : Naming P N m (λ i. eqb i d) (λ i. free m P N) (λ i. es) s (new_tail m P (free m P N) a ∷ []) vs
      unfolding new_tail entries_only
      one_naming = record {
        ready = r;
        did = one_did;
        appends = λ i o. rw (eqb-true i d o) one_appends;
        folder = λ i o. rw (eqb-true i d o) is.directory;
        others = λ i o.
            let n = eqb-false i d o in
            target_other (new_tail m P (free m P N) a) vs (tail_word i) (omega arith) ∙ valid_off valids (tail_word i) (omega arith);
        tails = one_tails;
        valids = valids;
      }

      pub one_log : OneLog P N m d es s vs
      one_log = record { naming = one_naming }

  -- Two folders: the second takes pages that the first has left.
  module _ {d e : ℕ} (is : Folder m N d) (to : Folder m N e) (apart : d ≡ e → ⊥) (es fs : List (List ℕ)) (some_es : 0 < length es)
      (some-fs : 0 < length fs)
      (room : all_needed m P (free m P N) (entries_only false d es ∷ entries_only false e fs ∷ []) ≤ free_count m P N) where
    abbrev first : Append
    first = entries_only false d es

    abbrev second : Append
    second = entries_only false e fs

    abbrev left : ℕ → Bool
    left = pages_left m P (free m P N) first

    abbrev prepares : Stores
    prepares = both (prepared m P (free m P N) first) (prepared m P left second)

    needs : pages_needed m P (free m P N) first + pages_needed m P left second ≤ free_count m P N
    unfolding all_needed
    needs = omega (arith, room)

    room_first : Room m P N (data_pages m P (free m P N) first) first.count (fresh_log m P (free m P N) first)
        (fresh_pages m P (free m P N) first)
    room_first = room_found m P N first (omega (arith, needs))

    room_second : Room m P N (data_pages m P left second) second.count (fresh_log m P left second) (fresh_pages m P left second)
    unfolding free_count
    room_second =
        let n = needs in
        let c = left_count m P (free m P N) first (λ p h. (free_bounds m P N p h).1) (omega arith) in
        room_in m P N left (λ p h. (left_may m P N (free m P N) first p h).0) second (omega arith)

    two_tails_now : Tails N (new_tail m P (free m P N) first ∷ new_tail m P left second ∷ [])
    unfolding new_tail entries_only
    two_tails_now = two_tails d _ e _ is.below to.below apart

    two_still : Only (Still m P N) prepares
    unfolding entries_only
    two_still =
        only_both (still_prepared m P N ok (free m P N) first is.below is.valid room_first)
        (still_prepared m P N ok left second to.below to.valid room_second)

    -- a page of the second is none that the first has taken
    pub fresh_apart : (x : ℕ) → has x (fresh_log m P left second) ≡ true → has x (fresh_log m P (free m P N) first) ≡ false
    fresh_apart x h = (left_may m P N (free m P N) first x (fresh_may m P N left second x h)).1

    inside_of : (f : ℕ → Bool) (k : ℕ) (gs : List (List ℕ)) → Folder m N k
        → ((x : ℕ) → has x (fresh_log m P f (entries_only false k gs)) ≡ true → free m P N x ≡ true)
        → (x : ℕ) → has x (tail_pages m k ++ fresh_log m P f (entries_only false k gs)) ≡ true → in_pages P N x ≡ true
    inside_of f k gs i u x h =
        ⊎_elim (λ t. page_in m P N k (log_ok_lem m P N ok k i.below i.valid) x (tail_logged m P N ok k x i.below i.valid t))
        (λ t. (free_in_lem m P N x (u x t)).0) (has_append x (tail_pages m k) (fresh_log m P f (entries_only false k gs)) h)

    -- no word is stored by both
    words_apart : (w : ℕ) → Touches m P N ok (free m P N) d es w → Touches m P N ok left e fs w → ⊥
    words_apart w (inl p) (inl q) = apart (omega arith)
    words_apart w (inl p) (inr q) =
        let b = in_bounds P N (w / 64) (inside_of left e fs to room_second.for_log.unused (w / 64) q) in
        omega (arith, is.below, (sizes_whole P N r.sizes).0)
    words_apart w (inr p) (inl q) =
        let b = in_bounds P N (w / 64) (inside_of (free m P N) d es is room_first.for_log.unused (w / 64) p) in
        omega (arith, to.below, (sizes_whole P N r.sizes).0)
    words_apart w (inr p) (inr q) =
        let x = w / 64 in
        let logged : (k : ℕ) → Folder m N k → has x (tail_pages m k) ≡ true → has x (pages m P N k) ≡ true =
        λ k i t. tail_logged m P N ok k x i.below i.valid t in
        ⊎_elim
        (λ s. ⊎_elim
        (λ t. two_logs m P N ok d e x is.below to.below apart is.valid to.valid (logged d is s) (logged e to t))
        (λ t. not_logged m P N d is.below is.valid x (room_second.for_log.unused x t) (logged d is s))
        (has_append x (tail_pages m e) (fresh_log m P left second) q))
        (λ s. ⊎_elim
        (λ t. not_logged m P N e to.below to.valid x (room_first.for_log.unused x s) (logged e to t))
        (λ t. clash (has x (fresh_log m P (free m P N) first)) s (fresh_apart x t))
        (has_append x (tail_pages m e) (fresh_log m P left second) q))
        (has_append x (tail_pages m d) (fresh_log m P (free m P N) first) p)

    -- what the second stores is stored
    second_stored : (w x : ℕ) → prepared m P left second w ≡ some x → prepares w ≡ some x
    unfolding both
    second_stored w x h = go (prepared m P (free m P N) first w) refl
      where
        go : (o : Option ℕ) → prepared m P (free m P N) first w ≡ o → prepares w ≡ some x
        go none q = rw (q, h)
        go (some y) q = absurd (words_apart w (touches m P N ok (free m P N) d es w y q) (touches m P N ok left e fs w x h))

    first_stored : (w x : ℕ) → prepared m P (free m P N) first w ≡ some x → prepares w ≡ some x
    unfolding both
    first_stored w x h = rw h

    module _ {vs : List Change} (valids : Valid N vs) (stays : targets vs (valid_word d) ≡ none)
        (stays-too : targets vs (valid_word e) ≡ none) where
      abbrev tails : List Change
      tails = new_tail m P (free m P N) first ∷ new_tail m P left second ∷ []

      two_did : Stored m P N prepares (tails ++ vs)
      two_did = record { sizes = r.sizes; ok = ok; still = two_still; in_table = in_table two_tails_now valids }

      first_appends : Appends m P N (free m P N) first prepares (tails ++ vs)
      unfolding entries_only new_tail
      first_appends = record {
        did = two_did;
        goes_on = refl;
        below = is.below;
        valid = is.valid;
        room = room_first;
        some_entries = rw (only_entries m P (free m P N) false d es) some_es;
        stores = first_stored;
        same_valid = valid_change two_tails_now valids d ∙ stays;
        same_head = head_off two_tails_now valids d;
        new_tail_lem = target_here (new_tail m P (free m P N) first) (new_tail m P left second ∷ vs);
      }

      second_appends : Appends m P N left second prepares (tails ++ vs)
      unfolding entries_only new_tail
      second_appends = record {
        did = two_did;
        goes_on = refl;
        below = to.below;
        valid = to.valid;
        room = room_second;
        some_entries = rw (only_entries m P left false e fs) some-fs;
        stores = second_stored;
        same_valid = valid_change two_tails_now valids e ∙ stays-too;
        same_head = head_off two_tails_now valids e;
        new_tail_lem = target_other (new_tail m P (free m P N) first) (new_tail m P left second ∷ vs) (tail_word e) (omega arith)
            ∙ target_here (new_tail m P left second) vs;
      }

      two_naming : Naming P N m (λ i. eqb i d || eqb i e) (λ i. cond (eqb i d) (free m P N) left)
          (λ i. cond (eqb i d) es fs) prepares tails vs
      unfolding new_tail entries_only
      two_naming = record {
        ready = r;
        did = two_did;
        appends = λ i o. by_eq i d (λ q. rw (eq-eqb i d q, q) first_appends)
            (λ q. let t : eqb i e ≡ true = rw (ne_eqb i d q) at o in rw (ne_eqb i d q, eqb-true i e t) second_appends);
        folder = λ i o. by_eq i d (λ q. rw q is.directory)
            (λ q. let t : eqb i e ≡ true = rw (ne_eqb i d q) at o in rw (eqb-true i e t) to.directory);
        others = λ i o.
            let n = or_false (eqb i d) (eqb i e) o in
            let p = eqb-false i d n.0 in
            let q = eqb-false i e n.1 in
            target_other (new_tail m P (free m P N) first) (new_tail m P left second ∷ vs) (tail_word i) (omega arith)
            ∙ target_other (new_tail m P left second) vs (tail_word i) (omega arith) ∙ valid_off valids (tail_word i) (omega arith);
        tails = two_tails_now;
        valids = valids;
      }

      pub two_logs_on : TwoLogs P N m d e es fs prepares vs
      two_logs_on = record { apart = apart; naming = two_naming }

-- What is owed of a call that continues one folder's log.
module _ {P N : ℕ} {m : Mem} {d : ℕ} {es : List (List ℕ)} {s : Stores} {vs : List Change} (one : OneLog P N m d es s vs) where
  abbrev c : Naming P N m (λ i. eqb i d) (λ i. free m P N) (λ i. es) s (new_tail m P (free m P N) (entries_only false d es) ∷ []) vs
  c = one.naming

  pub here : Appends m P N (free m P N) (entries_only false d es) s ((new_tail m P (free m P N) (entries_only false d es) ∷ []) ++ vs)
  here = c.appends d (eq-eqb d d refl)

  abbrev Others : Type 0
  Others = (i : ℕ) → i < N → (i ≡ d → ⊥) → After m (now c) P N i

  -- the names of the folder are those that its entries come to
  pub one_folders : Others → ((i : ℕ) → is_valid (now c) i ≡ false → folders_of m P N i ≡ []) → (ns : Names)
      → foldl name_step (folders_of m P N d) (map decode es) ≡ ns → folders_of (now c) P N ≡ with_folder d ns (folders_of m P N)
  unfolding with_folder
  one_folders others empty ns e =
      folders_now c (λ i l o. others i l (eqb-false i d o)) empty
      ∙ fun_ext (λ i. by_eq i d (λ q. rw (eq-eqb i d q, q) e) (λ q. rw (ne_eqb i d q)))

  pub one_inside : SmallEntries es → Each (Inside P) (prepared m P (free m P N) (entries_only false d es))
  unfolding entries_only
  one_inside small = grown_small here (λ j. omega arith) (rw (only_entries m P (free m P N) false d es) small)

  pub one_owed : Others → all (name_entry_ok N) (map decode es) ≡ true
      → FoldersFine N (is_valid (now c)) (is_directory (now c)) (folders_of (now c) P N)
      → Each (Inside P) s → (M : FileMap) → map_of (now c) P N ≡ M
      → Owed P N (free_behind m P N (entries_only false d es)) (DeadIn P N) m s (new_tail m P (free m P N) (entries_only false d es) ∷ vs) M
  unfolding entries_only
  one_owed others ok fine inside M e =
      naming_owed c
      (changed_one (sizes_whole P N c.ready.sizes).1 (ready_view P N m c.ready) fine (grew c d (eq-eqb d d refl) ok)
      (grown_lone here) others)
      (pages_needed m P (free m P N) (entries_only false d es)) (grown_taken here) inside (grown_tail here, valid_values c.valids) M e

-- and of one that continues two.
module _ {P N : ℕ} {m : Mem} {d e : ℕ} {es fs : List (List ℕ)} {s : Stores} {vs : List Change} (two : TwoLogs P N m d e es fs s vs) where
  open two use {apart}

  abbrev g : Naming P N m (λ i. eqb i d || eqb i e) (λ i. cond (eqb i d) (free m P N) (rest_of m P N d es)) (λ i. cond (eqb i d) es fs) s
      (new_tail m P (free m P N) (entries_only false d es) ∷ new_tail m P (rest_of m P N d es) (entries_only false e fs) ∷ []) vs
  g = two.naming

  abbrev source : Append
  source = entries_only false d es

  abbrev target : Append
  target = entries_only false e fs

  abbrev rest : ℕ → Bool
  rest = rest_of m P N d es

  abbrev tails_now : List Change
  tails_now = new_tail m P (free m P N) source ∷ new_tail m P rest target ∷ []

  first_on : eqb d d || eqb d e ≡ true
  first_on = rw (eq-eqb d d refl)

  second_on : eqb e d || eqb e e ≡ true
  second_on = rw (eq-eqb e e refl) (or-true (eqb e d))

  source_appends : Appends m P N (free m P N) source s (tails_now ++ vs)
  source_appends = rw (eq-eqb d d refl) at (g.appends d first_on)

  target_appends : Appends m P N rest target s (tails_now ++ vs)
  target_appends = rw (ne_eqb e d (λ q. apart (sym q))) at (g.appends e second_on)

  abbrev OthersThan : Type 0
  OthersThan = (i : ℕ) → i < N → (i ≡ d → ⊥) → (i ≡ e → ⊥) → After m (now g) P N i

  pub two_folders : OthersThan → ((i : ℕ) → is_valid (now g) i ≡ false → folders_of m P N i ≡ []) → (ns ms : Names)
      → foldl name_step (folders_of m P N d) (map decode es) ≡ ns → foldl name_step (folders_of m P N e) (map decode fs) ≡ ms
      → folders_of (now g) P N ≡ with_folder e ms (with_folder d ns (folders_of m P N))
  unfolding with_folder
  two_folders others empty ns ms p q =
      folders_now g (λ i l o. let n = or_false (eqb i d) (eqb i e) o in others i l (eqb-false i d n.0) (eqb-false i e n.1)) empty
      ∙ fun_ext (λ i. by_eq i d
      (λ x. rw (eq-eqb i d x, ne_eqb i e (λ y. apart (sym x ∙ y)), x) p)
      (λ x. by_eq i e (λ y. rw (ne_eqb i d x, eq-eqb i e y, y) q) (λ y. rw (ne_eqb i d x, ne_eqb i e y))))

  pub two_inside : SmallEntries es → SmallEntries fs → Each (Inside P) (both (prepared m P (free m P N) source) (prepared m P rest target))
  unfolding entries_only
  two_inside small small-too =
      only_both (grown_small source_appends (λ j. omega arith) (rw (only_entries m P (free m P N) false d es) small))
      (grown_small target_appends (λ j. omega arith) (rw (only_entries m P rest false e fs) small-too))

  -- the pages that both take
  two_lone : Lone m P N (λ p. count p (fresh_log m P (free m P N) source) + count p (data_pages m P (free m P N) source)
      + (count p (fresh_log m P rest target) + count p (data_pages m P rest target)))
  unfolding count
  two_lone p =
      let x = rw (no_data m P (free m P N) false d es) at (grown_lone source_appends p) in
      let y = rw (no_data m P rest false e fs) at (grown_lone target_appends p) in
      rw (no_data m P (free m P N) false d es, no_data m P rest false e fs)
      (by_bool (has p (fresh_log m P rest target))
      (λ h.
      let z = count_none p (fresh_log m P (free m P N) source) (left_may m P N (free m P N) source p (fresh_may m P N rest target p h)).1 in
      ⊎_elim (λ q. inl (omega arith)) (λ q. let k = q.1 in inr (q.0, omega arith)) y)
      (λ h.
      let z = count_none p (fresh_log m P rest target) h in
      ⊎_elim (λ q. inl (omega arith)) (λ q. let k = q.1 in inr (q.0, omega arith)) x))

  two_taken : sum_below P (λ p. count p (fresh_log m P (free m P N) source) + count p (data_pages m P (free m P N) source)
      + (count p (fresh_log m P rest target) + count p (data_pages m P rest target))) ≤ all_needed m P (free m P N) (source ∷ target ∷ [])
  unfolding all_needed
  two_taken =
      let x = grown_taken source_appends in
      let y = grown_taken target_appends in
      let h : ℕ → ℕ = λ p. count p (fresh_log m P (free m P N) source) + count p (data_pages m P (free m P N) source) in
      let k : ℕ → ℕ = λ p. count p (fresh_log m P rest target) + count p (data_pages m P rest target) in
      let z = sum_below_add P (λ p. h p + k p) h k (λ p l. omega arith) in omega arith

  source_grew : all (name_entry_ok N) (map decode es) ≡ true
      → Grew m (now g) P N d (fresh_log m P (free m P N) source) (λ p. count p (data_pages m P (free m P N) source))
  source_grew ok = rw (eq-eqb d d refl) at (grew g d first_on (rw (eq-eqb d d refl) ok))

  target_grew : all (name_entry_ok N) (map decode fs) ≡ true
      → Grew m (now g) P N e (fresh_log m P rest target) (λ p. count p (data_pages m P rest target))
  target_grew ok = let n : e ≡ d → ⊥ = λ q. apart (sym q) in rw (ne_eqb e d n) at (grew g e second_on (rw (ne_eqb e d n) ok))

  pub two_owed : OthersThan → all (name_entry_ok N) (map decode es) ≡ true → all (name_entry_ok N) (map decode fs) ≡ true
      → FoldersFine N (is_valid (now g)) (is_directory (now g)) (folders_of (now g) P N) → Each (Inside P) s → (M : FileMap)
      → map_of (now g) P N ≡ M
      → Owed P N (free_count m P N - all_needed m P (free m P N) (source ∷ target ∷ [])) (DeadIn P N) m s (tails_now ++ vs) M
  two_owed others ok ok-too fine inside M x =
      naming_owed g
      (changed_two (sizes_whole P N g.ready.sizes).1 (ready_view P N m g.ready) fine apart (source_grew ok)
      (target_grew ok-too) two_lone others)
      (all_needed m P (free m P N) (source ∷ target ∷ [])) two_taken inside
      (grown_tail source_appends, (grown_tail target_appends, valid_values g.valids)) M x
