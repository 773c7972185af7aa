-- A call that stores dead words and then commits words of the inode table. An inode none of whose words is committed is kept word for word;
-- the log that the call appends to reads as its old entries and the new ones.
use Rattle.model.proofs.Prelude.{◌≡◌, ◌∙◌, ap, fun_ext, and-false, ◌⊎◌, inl, inr, ⊎_elim, ℕ, ◌+◌, ◌-◌, ◌*◌, ◌/◌, ◌%◌, ◌≤◌, ◌<◌, Bool, true, false, cond, ◌&&◌, not, List, [], ◌∷◌, ◌++◌, map, none, some, arith, length, get_or, eqb, ltb, eq-eqb, ne_eqb, ltb-true}
use Rattle.model.specs.Lists.{all, has}
use Rattle.model.specs.Words.{Mem}
use Rattle.model.specs.Layout.{sizes_ok, in_pages, valid_word, head_word, tail_word, type_word, is_directory}
use Rattle.model.specs.Journal.{target_ok}
use Rattle.model.specs.Log.{pages, tail_slots, entries}
use Rattle.model.specs.State.{file_of, names_of}
use Rattle.model.specs.Accept.{is_valid, folders_of, uses_by, uses, free, type_ok, log_ok, view_ok}
use Rattle.model.specs.Stores.{Stores, one_word, both, only_if, over}
use Rattle.model.specs.Calls.{Change, Append, lay_entries, lay_pages, pages_for, tail_after, tail_pages, targets, data_pages, appended, old_pages, old_slots, fresh_pages, fresh_log, prepared, new_tail, own_changes}
use Rattle.model.proofs.Tests.{by_bool, by_eq, no, clash, not_true_false, ands}
use Rattle.model.proofs.Lists.{sum_below_one, has_cons, has_append, has_get_or, all_has, all_by}
use Rattle.model.proofs.Log.Decode.{decode}
use Rattle.model.proofs.Log.Pages.{Reads, SameLive}
use Rattle.model.proofs.Log.Live.{lay_page, lay_in}
use Rattle.model.proofs.Log.Extend.{Holds, Fits, append_log}
use Rattle.model.proofs.Log.Append.{lay_low, tail_inside}
use Rattle.model.proofs.Frame.Placed.{sizes_whole, in_bounds, SamePages}
use Rattle.model.proofs.Frame.Inode.{Agree, log_is_lem, page_in, tail_page, mapped_in}
use Rattle.model.proofs.Frame.View.{inode_fine, inode_ok_lem, log_ok_lem}
use Rattle.model.proofs.Frame.Dead.{Dead, serves, same_valid, agrees}
use Rattle.model.proofs.Crash.Stores.{Only, only_cases, over_none, over_some, one_here, one_other}
use Rattle.model.proofs.Crash.Journal.{targets_of, targets_outside, target_high}
use Rattle.model.proofs.Crash.Commit.{committed}
use Rattle.model.proofs.Calls.Room.{Room, free_in_lem, free_bounds, fresh_at, pages_off, pages_at}
use Rattle.model.proofs.Calls.Still.{Still}
use Rattle.model.proofs.Calls.Changed.{After, kept, idle}

target_kind : (N t : ℕ) → target_ok N t ≡ true → t % 8 < 3
unfolding target_ok
target_kind N t h = ltb-true (t % 8) 3 (search ands)

-- the stores s touch words that no reading looks at, and cs are changes of words of the inode table
pub record Stored (m : Mem) (P N : ℕ) (s : Stores) (cs : List Change) : Type 0 where
  pub sizes : sizes_ok P N ≡ true
  pub ok : view_ok m P N ≡ true
  pub still : Only (Still m P N) s
  pub in_table : all (target_ok N) (targets_of cs) ≡ true

module _ {m : Mem} {P N : ℕ} {s : Stores} {cs : List Change} (did : Stored m P N s cs) where
  open did use {sizes, ok}

  abbrev u : Mem
  u = committed m s cs

  near : (w : ℕ) → (over s m w ≡ m w) ⊎ Dead m P N w
  near w = ⊎_elim (λ e. inl e) (λ d. inr d.0) (only_cases did.still m w)

  -- a word that is not committed is as the stores leave it
  pub not_committed : (w : ℕ) → targets cs w ≡ none → u w ≡ over s m w
  unfolding committed
  not_committed w e = over_none (targets cs) (over s m) w e

  -- so are the words behind the table
  pub high_same : (w : ℕ) → 64 + 8 * N ≤ w → u w ≡ over s m w
  high_same w h =
      not_committed w (targets_outside cs w (by_bool (has w (targets_of cs))
      (λ t. let a = target_high N w (all_has (target_ok N) w (targets_of cs) did.in_table t) in absurd (omega arith)) (λ t. t)))

  -- a valid word that is not committed is as before
  pub valid_same : (i : ℕ) → i < N → targets cs (valid_word i) ≡ none → u (valid_word i) ≡ m (valid_word i)
  valid_same i l e = not_committed (valid_word i) e ∙ same_valid P N sizes m (over s m) ok near i l

  -- no type is committed
  type_off : (i : ℕ) → targets cs (type_word i) ≡ none
  type_off i =
      targets_outside cs (type_word i) (by_bool (has (type_word i) (targets_of cs))
      (λ t. let a = target_kind N (type_word i) (all_has (target_ok N) (type_word i) (targets_of cs) did.in_table t) in absurd (omega arith))
      (λ t. t))

  -- so a type is as the stores leave it
  pub type_now : (i : ℕ) → u (type_word i) ≡ over s m (type_word i)
  type_now i = not_committed (type_word i) (type_off i)

  module _ (i : ℕ) (l : i < N) (v : is_valid m i ≡ true) where
    before : Agree m (over s m) P N i
    before = agrees P N sizes m (over s m) ok near i l v

    -- the live words of its log, and of its file's pages
    pub live : SameLive m u (pages m P N i) (m (tail_word i) / 512) (tail_slots m i)
    live w h d =
        let y = in_bounds P N (w / 64) (page_in m P N i (log_ok_lem m P N ok i l v) (w / 64) h) in
        let z = (sizes_whole P N sizes).0 in
        high_same w (omega arith) ∙ before.log w h d

    pub file_words : is_directory m i ≡ false → SamePages m u (file_of m P N i)
    file_words n j o h d =
        let y = in_bounds P N _ (mapped_in m P N i (log_ok_lem m P N ok i l v) n j d).1 in
        let z = (sizes_whole P N sizes).0 in
        high_same _ (omega arith) ∙ before.file n j o h d

    -- its type, where it is read
    type_same : (i ≡ 0 → ⊥) → u (type_word i) ≡ m (type_word i)
    type_same n = type_now i ∙ before.type n

    pub directory_same : is_directory u i ≡ is_directory m i
    directory_same = by_eq i 0 (λ c. rw (eq-eqb i 0 c)) (λ c. rw (type_same c))

    pub type_fine : type_ok u i ≡ true
    unfolding type_ok
    type_fine =
        by_eq i 0 (λ c. rw (eq-eqb i 0 c))
        (λ c. rw (type_same c) ((inode_fine m P N i (inode_ok_lem m P N ok i l)).type_word_lem v))

    -- none of its words is committed
    pub agree_after : targets cs (valid_word i) ≡ none → targets cs (tail_word i) ≡ none → targets cs (head_word i) ≡ none → Agree m u P N i
    agree_after e t h = record {
      valid = not_committed (valid_word i) e ∙ before.valid;
      tail = not_committed (tail_word i) t ∙ before.tail;
      head = λ n. not_committed (head_word i) h ∙ before.head n;
      log = live;
      type = type_same;
      file = file_words;
    }

  -- an inode none of whose words is committed
  pub after_by : (i : ℕ) → i < N → targets cs (valid_word i) ≡ none → targets cs (tail_word i) ≡ none → targets cs (head_word i) ≡ none
      → After m u P N i
  after_by i l e t h = by_bool (is_valid m i) (λ v. kept v (agree_after i l v e t h)) (λ v. idle v (valid_same i l e))

  -- the names of every folder, where no valid word changes and the names of each folder are as they were
  pub folders_same : ((i : ℕ) → i < N → u (valid_word i) ≡ m (valid_word i))
      → ((i : ℕ) → i < N → is_valid m i ≡ true → is_directory m i ≡ true → names_of u P N i ≡ names_of m P N i)
      → folders_of u P N ≡ folders_of m P N
  unfolding folders_of
  folders_same valids names =
      fun_ext (λ i. by_bool (ltb i N)
      (λ t.
      let l = ltb-true i N t in
      rw (t, valids i l) (by_bool (is_valid m i)
      (λ v. rw (v, directory_same i l v) (by_bool (is_directory m i) (λ c. rw (c, names i l v c)) (λ c. rw c)))
      (λ v. rw (v, and-false, and-false))))
      (λ t. rw t))

-- An append to a log that goes on: where entries are laid, and what commits them.
module _ (u : Mem) (P : ℕ) (f : ℕ → Bool) (a : Append) (on : a.anew ≡ false) where
  abbrev k : ℕ
  k = a.log

  abbrev ls : List ℕ
  ls = fresh_log u P f a

  pages_on : old_pages u P f a ≡ tail_pages u k
  unfolding old_pages
  pages_on = ap (λ b. cond b [] (tail_pages u k)) on

  slots_on : old_slots u P f a ≡ tail_slots u k
  unfolding old_slots
  slots_on = ap (λ b. cond b 0 (tail_slots u k)) on

  pub fresh_on : fresh_pages u P f a ≡ pages_for (tail_slots u k + length (appended u P f a)) - length (tail_pages u k)
  unfolding fresh_pages
  fresh_on = rw (pages_on, slots_on)

  pub prepared_on : prepared u P f a
      ≡ both (lay_entries (tail_pages u k ++ ls) (tail_slots u k) (appended u P f a))
      (both (only_if (eqb (u (tail_word k)) 0) (one_word (head_word k) (get_or ls 0 0))) (lay_pages (data_pages u P f a) a.words))
  unfolding prepared
  prepared_on =
      rw (pages_on, slots_on) (ap (λ b. both (lay_entries (tail_pages u k ++ ls) (tail_slots u k) (appended u P f a))
      (both (only_if (not b && eqb (u (tail_word k)) 0) (one_word (head_word k) (get_or ls 0 0))) (lay_pages (data_pages u P f a) a.words))) on)

  pub tail_on : new_tail u P f a ≡ (tail_word k, tail_after (tail_pages u k ++ ls) (tail_slots u k) (length (appended u P f a)))
  unfolding new_tail
  tail_on = rw (pages_on, slots_on)

  pub changes_on : own_changes u P f a ≡ new_tail u P f a ∷ []
  unfolding own_changes
  changes_on = ap (λ b. cond b ((head_word k, get_or ls 0 0) ∷ new_tail u P f a ∷ []) (new_tail u P f a ∷ [])) on

-- a page that is free serves no log
pub not_logged : (m : Mem) (P N i : ℕ) → i < N → is_valid m i ≡ true → (x : ℕ) → free m P N x ≡ true → has x (pages m P N i) ≡ true → ⊥
unfolding uses
not_logged m P N i l v x f h =
    let a = sum_below_one N i (uses_by m P N x) l in
    let b = (free_in_lem m P N x f).1 in
    let g = serves m P N i x v h in omega arith

-- An append that takes pages of which f holds: s stores its first group, beside other words, and cs commits its tail, but neither head nor
-- valid word of its log's inode.
pub record Appends (m : Mem) (P N : ℕ) (f : ℕ → Bool) (a : Append) (s : Stores) (cs : List Change) : Type 0 where
  pub did : Stored m P N s cs
  pub goes_on : a.anew ≡ false
  pub below : a.log < N
  pub valid : is_valid m a.log ≡ true
  pub room : Room m P N (data_pages m P f a) a.count (fresh_log m P f a) (fresh_pages m P f a)
  pub some_entries : 0 < length (appended m P f a)
  pub stores : (w x : ℕ) → prepared m P f a w ≡ some x → s w ≡ some x
  pub same_valid : targets cs (valid_word a.log) ≡ none
  pub same_head : targets cs (head_word a.log) ≡ none
  pub new_tail_lem : targets cs (tail_word a.log) ≡ some (new_tail m P f a).1

module _ {m : Mem} {P N : ℕ} {f : ℕ → Bool} {a : Append} {s : Stores} {cs : List Change} (c : Appends m P N f a s cs) where
  open c use {did, room}
  open c.did use {sizes, ok}

  abbrev i : ℕ
  i = a.log

  abbrev ds : List ℕ
  ds = data_pages m P f a

  abbrev fresh : List ℕ
  fresh = fresh_log m P f a

  abbrev es : List (List ℕ)
  es = appended m P f a

  abbrev now : Mem
  now = committed m s cs

  log_fine : log_ok m P N i ≡ true
  log_fine = log_ok_lem m P N ok i c.below c.valid

  pub fits : Fits m P N i (pages m P N i) fresh es
  fits = record {
    was = log_is_lem m P N i log_fine;
    apart_ls = room.for_log.apart;
    inside = all_by (in_pages P N) fresh (λ x h. (free_in_lem m P N x (room.for_log.unused x h)).0);
    new = λ x h. by_bool (has x fresh) (λ g. absurd (not_logged m P N i c.below c.valid x (room.for_log.unused x g) h)) (λ g. g);
    needed = room.for_log.number ∙ fresh_on m P f a c.goes_on;
    some_es = c.some_entries;
  }

  abbrev laid : Stores
  laid = lay_entries (tail_pages m i ++ fresh) (tail_slots m i) es

  -- no data page is one of the log's
  off_log : (w : ℕ) → has (w / 64) ds ≡ true → has (w / 64) (tail_pages m i ++ fresh) ≡ false
  unfolding tail_pages has
  off_log w d =
      not_true_false _ (λ h. ⊎_elim
      (λ g. by_eq (m (tail_word i)) 0 (λ t. no (rw t at g))
      (λ t. ⊎_elim (λ q. not_logged m P N i c.below c.valid (w / 64) (room.for_data.unused (w / 64) d)
      (rw q (tail_page m P N i log_fine t))) (λ q. no q)
      (has_cons (w / 64) (m (tail_word i) / 512) [] (rw (ne_eqb _ _ t) at g))))
      (λ g. clash (has (w / 64) ds) d (room.beside (w / 64) g)) (has_append (w / 64) (tail_pages m i) fresh h))

  -- what is laid is stored
  laid_stored : (w x : ℕ) → laid w ≡ some x → s w ≡ some x
  unfolding both
  laid_stored w x e = c.stores w x (rw (prepared_on m P f a c.goes_on, e))

  holds : Holds now laid
  holds w x e =
      let y = all_has (in_pages P N) (w / 64) (tail_pages m i ++ fresh) (tail_inside fits)
      (lay_in (tail_pages m i ++ fresh) (tail_slots m i) es w x e) in
      let b = in_bounds P N (w / 64) y in
      let z = (sizes_whole P N sizes).0 in
      high_same did w (omega arith) ∙ over_some s m w x (laid_stored w x e)

  -- no data in page 0 and the inode table
  data_low : (w : ℕ) → w < 64 + 8 * N → lay_pages ds a.words w ≡ none
  data_low w l =
      let z = (sizes_whole P N sizes).0 in
      pages_off ds a.words w (by_bool (has (w / 64) ds)
      (λ h. let b = free_bounds m P N (w / 64) (room.for_data.unused (w / 64) h) in absurd (omega arith)) (λ h. h))

  -- there nothing is stored but a head
  pub prepared_low : (w : ℕ) → w < 64 + 8 * N → (w ≡ head_word i → ⊥) → prepared m P f a w ≡ none
  unfolding both only_if
  prepared_low w l n =
      let z = (sizes_whole P N sizes).0 in
      rw (
        prepared_on m P f a c.goes_on,
        data_low w l,
        lay_low P N (tail_pages m i ++ fresh) (tail_slots m i) es z (tail_inside fits) w l,
        one_other (head_word i) (get_or fresh 0 0) w n,
      )
      (by_bool (eqb (m (tail_word i)) 0) (λ t. rw t) (λ t. rw t))

  -- an empty log gets its head
  head_stored : m (tail_word i) ≡ 0 → s (head_word i) ≡ some (get_or fresh 0 0)
  unfolding both only_if
  head_stored t =
      let l = c.below in
      let z = (sizes_whole P N sizes).0 in
      c.stores (head_word i) (get_or fresh 0 0) (rw (
        prepared_on m P f a c.goes_on,
        lay_low P N (tail_pages m i ++ fresh) (tail_slots m i) es z (tail_inside fits) (head_word i) (omega arith),
        eq-eqb _ _ t,
        one_here (head_word i) (get_or fresh 0 0),
      ))

  head_after : now (head_word i) ≡ cond (eqb (m (tail_word i)) 0) (get_or fresh 0 0) (m (head_word i))
  head_after =
      not_committed did (head_word i) c.same_head ∙
      by_eq (m (tail_word i)) 0 (λ t. rw (eq-eqb _ _ t) (over_some s m (head_word i) _ (head_stored t)))
      (λ t. rw (ne_eqb _ _ t) ((before did i c.below c.valid).head t))

  -- the log reads as the old entries and the new ones
  pub reads_after : Reads now P N i (pages m P N i ++ fresh) (entries m P N i ++ map decode es)
  unfolding committed
  reads_after =
      append_log (record {
        fits = fits;
        live = live did i c.below c.valid;
        holds = holds;
        head = head_after;
        tail = over_some (targets cs) (over s m) (tail_word i) _ c.new_tail_lem ∙ rw (tail_on m P f a c.goes_on);
      })

  -- the words of the fresh data pages
  pub data_stored : (j : ℕ) → j < 64 * a.count → now (64 * get_or ds (j / 64) 0 + j % 64) ≡ a.words j
  unfolding both only_if
  data_stored j l =
      let n = room.for_data.number in
      let p = get_or ds (j / 64) 0 in
      let w = 64 * p + j % 64 in
      let b = free_bounds m P N p (fresh_at m P N ds a.count room.for_data (j / 64) (omega arith)) in
      let z = (sizes_whole P N sizes).0 in
      let g = c.below in
      let d : w / 64 ≡ p = omega arith in
      let h : has (w / 64) ds ≡ true = rw d (has_get_or ds (j / 64) (omega arith)) in
      high_same did w (omega arith)
      ∙ over_some s m w (a.words j)
      (c.stores w (a.words j) (rw (
        prepared_on m P f a c.goes_on,
        lay_page (tail_pages m i ++ fresh) (tail_slots m i) es w (off_log w h),
        one_other (head_word i) (get_or fresh 0 0) w (omega arith),
        pages_at ds a.words room.for_data.apart j (omega arith),
      )
      (by_bool (eqb (m (tail_word i)) 0) (λ t. rw t) (λ t. rw t))))

  pub valid_after : is_valid now i ≡ true
  valid_after = rw (valid_same did i c.below c.same_valid) c.valid
