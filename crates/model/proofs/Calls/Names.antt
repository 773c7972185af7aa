-- What the calls owe that change names: create, link, unlink, rename. Each appends to the log of one folder or of two and commits their
-- tails, with the valid word of an inode where a first name comes or a last one goes.
use Rattle.model.proofs.Prelude.{◌≡◌, refl, sym, ◌∙◌, ap, fun_ext, ℕ, ◌+◌, ◌-◌, ◌*◌, ◌%◌, ◌≤◌, ◌<◌, Bool, true, false, cond, ◌&&◌, List, [], ◌∷◌, ◌++◌, map, map-append, none, some, arith, length, ltb, and-false, ltb-true, lt-ltb, ne_eqb, le-leb}
use Rattle.model.specs.Lists.{sum_below, all, has, count, distinct, foldl}
use Rattle.model.specs.Words.{Mem}
use Rattle.model.specs.Layout.{valid_word, head_word, tail_word, is_directory}
use Rattle.model.specs.Journal.{target_ok}
use Rattle.model.specs.Entry.{name_entry_ok}
use Rattle.model.specs.State.{name_step}
use Rattle.model.specs.Tree.{Folders}
use Rattle.model.specs.Accept.{is_valid, is_file, is_folder, folders_of, free_count, view_ok}
use Rattle.model.specs.FileMap.{FileMap, map_of}
use Rattle.model.specs.Stores.{Stores, over}
use Rattle.model.specs.Calls.{Change, Append, entries_only, targets, data_pages, fresh_log}
use Rattle.model.proofs.Tests.{by_bool, clash}
use Rattle.model.proofs.Lists.{all_append}
use Rattle.model.proofs.Log.Decode.{decode}
use Rattle.model.proofs.Frame.Inode.{same_names, same_bytes, same_directory}
use Rattle.model.proofs.Frame.View.{file_is, log_ok_lem}
use Rattle.model.proofs.State.Maps.{SameBytes}
use Rattle.model.proofs.Crash.Stores.{Each, over_some, one_here, one_other}
use Rattle.model.proofs.Crash.Journal.{targets_of, Values}
use Rattle.model.proofs.Crash.Commit.{Ready, ready_view, committed, Owed}
use Rattle.model.proofs.Calls.Actions.{only_entries}
use Rattle.model.proofs.Calls.Changed.{After, kept, idle, gone, made, new_names, Grew, Changed, changed_fine, changed_free}
use Rattle.model.proofs.Calls.Stored.{Stored, not_committed, valid_same, directory_same, agree_after, after_by, Appends, valid_after}
use Rattle.model.proofs.Calls.Small.{Inside}
use Rattle.model.proofs.Calls.Grown.{DeadIn, grown, grown_names}

-- a committed word is what the first change of it says; a change leaves the other words to the changes after it
pub target_here : (c : Change) (cs : List Change) → targets (c ∷ cs) c.0 ≡ some c.1
unfolding targets
target_here c cs = rw (one_here c.0 c.1)

pub target_other : (c : Change) (cs : List Change) (w : ℕ) → (w ≡ c.0 → ⊥) → targets (c ∷ cs) w ≡ targets cs w
unfolding targets
target_other c cs w n = rw (one_other c.0 c.1 w n)

pub target_none : (w : ℕ) → targets [] w ≡ none
unfolding targets
target_none w = refl

pub target_ok_lem : (N t : ℕ) → 64 ≤ t → t < 64 + 8 * N → t % 8 < 3 → target_ok N t ≡ true
unfolding target_ok
target_ok_lem N t a b c = rw (le-leb _ _ a, lt-ltb _ _ b, lt-ltb _ _ c)

-- Changes of valid words beside tails: none, or one, of an inode other than inode 0.
pub data Valid (N : ℕ) : List Change → Type 0 where
  no_change : Valid N []
  one_change : (i x : ℕ) → 1 ≤ i → i < N → x ≤ 1 → Valid N ((valid_word i, x) ∷ [])

pub valid_off : {N : ℕ} {cs : List Change} → Valid N cs → (w : ℕ) → (w % 8 ≡ 0 → ⊥) → targets cs w ≡ none
valid_off no_change w n = target_none w
valid_off (one_change i x a b c) w n = target_other (valid_word i, x) [] w (omega arith) ∙ target_none w

-- the valid words of the folders whose tails are committed stay
pub valid_values : {N : ℕ} {cs : List Change} → Valid N cs → Values cs
valid_values no_change = tt
valid_values (one_change i x a b c) = (omega arith, tt)

-- Changes of the tails of one folder, or of two.
pub data Tails (N : ℕ) : List Change → Type 0 where
  one_tail : (d x : ℕ) → d < N → Tails N ((tail_word d, x) ∷ [])
  two_tails : (d x e y : ℕ) → d < N → e < N → (d ≡ e → ⊥) → Tails N ((tail_word d, x) ∷ (tail_word e, y) ∷ [])

-- a word that is no tail is left to the changes of valid words, and a tail to those of tails
tails_off : {N : ℕ} {ts : List Change} → Tails N ts → (vs : List Change) (w : ℕ) → (w % 8 ≡ 2 → ⊥) → targets (ts ++ vs) w ≡ targets vs w
tails_off (one_tail d x l) vs w n = target_other (tail_word d, x) vs w (omega arith)
tails_off (two_tails d x e y l k a) vs w n =
    target_other (tail_word d, x) ((tail_word e, y) ∷ vs) w (omega arith) ∙ target_other (tail_word e, y) vs w (omega arith)

tails_in : {N : ℕ} {ts : List Change} → Tails N ts → all (target_ok N) (targets_of ts) ≡ true
unfolding all
tails_in {N} (one_tail d x l) = rw (target_ok_lem N (tail_word d) (omega arith) (omega arith) (omega arith))
tails_in {N} (two_tails d x e y l k a) =
    rw (
      target_ok_lem N (tail_word d) (omega arith) (omega arith) (omega arith),
      target_ok_lem N (tail_word e) (omega arith) (omega arith) (omega arith),
    )

valid_in_lem : {N : ℕ} {vs : List Change} → Valid N vs → all (target_ok N) (targets_of vs) ≡ true
unfolding all
valid_in_lem no_change = refl
valid_in_lem {N} (one_change i x a b c) = rw (target_ok_lem N (valid_word i) (omega arith) (omega arith) (omega arith))

both_apart : {N : ℕ} {ts vs : List Change} → Tails N ts → Valid N vs → (distinct (targets_of (ts ++ vs)) ≡ true) × (length (ts ++ vs) ≤ 4)
unfolding distinct has
both_apart (one_tail d x l) no_change = (refl, omega arith)
both_apart (one_tail d x l) (one_change i y a b c) = (rw (ne_eqb (tail_word d) (valid_word i) (omega arith)), omega arith)
both_apart (two_tails d x e y l k a) no_change = (rw (ne_eqb (tail_word d) (tail_word e) (omega arith)), omega arith)
both_apart (two_tails d x e y l k a) (one_change i z p q r) = (
  rw (
    ne_eqb (tail_word d) (tail_word e) (omega arith),
    ne_eqb (tail_word d) (valid_word i) (omega arith),
    ne_eqb (tail_word e) (valid_word i) (omega arith),
  ),
  omega arith,
)

module _ {N : ℕ} {ts vs : List Change} (t : Tails N ts) (v : Valid N vs) where
  pub valid_change : (i : ℕ) → targets (ts ++ vs) (valid_word i) ≡ targets vs (valid_word i)
  valid_change i = tails_off t vs (valid_word i) (omega arith)

  pub head_off : (i : ℕ) → targets (ts ++ vs) (head_word i) ≡ none
  head_off i = tails_off t vs (head_word i) (omega arith) ∙ valid_off v (head_word i) (omega arith)

  pub in_table : all (target_ok N) (targets_of (ts ++ vs)) ≡ true
  in_table =
      ap (all (target_ok N)) (map-append (λ (c : Change). c.0) ts vs)
      ∙ all_append (target_ok N) (targets_of ts) (targets_of vs) (tails_in t) (valid_in_lem v)

  -- the words that are committed differ, and there are at most three
  pub apart : (distinct (targets_of (ts ++ vs)) ≡ true) × (length (ts ++ vs) ≤ 4)
  apart = both_apart t v

no_folder : (u : Mem) (P N i : ℕ) → is_valid u i ≡ false → folders_of u P N i ≡ []
unfolding folders_of
no_folder u P N i v = rw (v, and-false, and-false)

-- A call that appends to the logs of folders: `on i` says whether that of folder i is one of them, es i are the entries and f i the pages
-- that may be taken for them. s is stored, and the changes ts of tails and vs of valid words are committed.
pub record Naming (P N : ℕ) (m : Mem) (on : ℕ → Bool) (f : ℕ → ℕ → Bool) (es : ℕ → List (List ℕ)) (s : Stores)
    (ts vs : List Change) : Type 0 where
  pub ready : Ready P N m
  pub did : Stored m P N s (ts ++ vs)
  pub appends : (i : ℕ) → on i ≡ true → Appends m P N (f i) (entries_only false i (es i)) s (ts ++ vs)
  pub folder : (i : ℕ) → on i ≡ true → is_directory m i ≡ true
  pub others : (i : ℕ) → on i ≡ false → targets (ts ++ vs) (tail_word i) ≡ none
  pub tails : Tails N ts
  pub valids : Valid N vs

module _ {P N : ℕ} {m : Mem} {on : ℕ → Bool} {f : ℕ → ℕ → Bool} {es : ℕ → List (List ℕ)} {s : Stores} {ts vs : List Change}
    (c : Naming P N m on f es s ts vs) where
  open c use {ready, did, tails, valids}

  abbrev pub now : Mem
  now = committed m s (ts ++ vs)

  abbrev F : Folders
  F = folders_of m P N

  abbrev a : ℕ → Append
  a i = entries_only false i (es i)

  ok : view_ok m P N ≡ true
  ok = ready_view P N m ready

  -- the valid words
  pub valid_now : (i : ℕ) → i < N → targets vs (valid_word i) ≡ none → now (valid_word i) ≡ m (valid_word i)
  valid_now i l e = valid_same did i l (valid_change tails valids i ∙ e)

  pub valid_set : (i x : ℕ) → targets vs (valid_word i) ≡ some x → now (valid_word i) ≡ x
  unfolding committed
  valid_set i x e = over_some (targets (ts ++ vs)) (over s m) (valid_word i) x (valid_change tails valids i ∙ e)

  -- a word that is no valid word and no tail, and the tail of an inode whose log does not go on
  pub word_now : (w : ℕ) → (w % 8 ≡ 0 → ⊥) → (w % 8 ≡ 2 → ⊥) → now w ≡ over s m w
  word_now w n t = not_committed did w (tails_off tails vs w t ∙ valid_off valids w n)

  pub tail_now : (i : ℕ) → on i ≡ false → now (tail_word i) ≡ over s m (tail_word i)
  tail_now i o = not_committed did (tail_word i) (c.others i o)

  -- the types
  pub directory_now : (i : ℕ) → i < N → is_valid m i ≡ true → is_directory now i ≡ is_directory m i
  directory_now i l v = directory_same did i l v

  -- the other inodes
  pub after_now : (i : ℕ) → i < N → on i ≡ false → targets vs (valid_word i) ≡ none → After m now P N i
  after_now i l o e = after_by did i l (valid_change tails valids i ∙ e) (c.others i o) (head_off tails valids i)

  pub bytes_now : (i : ℕ) → i < N → is_file m i ≡ true → targets vs (valid_word i) ≡ none → SameBytes m now P N i
  bytes_now i l h e =
      let v = file_is m i h in
      by_bool (on i) (λ o. clash (is_directory m i) (c.folder i o) v.0)
      (λ o. same_bytes m now P N i (log_ok_lem m P N ok i l v.1)
      (agree_after did i l v.1 (valid_change tails valids i ∙ e) (c.others i o) (head_off tails valids i)) v.0)

  -- a log that goes on
  pub grew : (i : ℕ) → on i ≡ true → all (name_entry_ok N) (map decode (es i)) ≡ true
      → Grew m now P N i (fresh_log m P (f i) (a i)) (λ p. count p (data_pages m P (f i) (a i)))
  unfolding entries_only
  grew i o e =
      grown (c.appends i o) (rw (c.folder i o, only_entries m P (f i) false i (es i)) e)
      (λ q. clash (is_directory m i) (c.folder i o) q) (λ q. clash (is_directory m i) (c.folder i o) q)

  own_folder : (i : ℕ) → on i ≡ true → folders_of now P N i ≡ foldl name_step (F i) (map decode (es i))
  unfolding folders_of entries_only
  own_folder i o =
      let x = c.appends i o in
      rw (lt-ltb i N x.below, directory_now i x.below x.valid, c.folder i o, valid_after x, x.valid)
      (grown_names x ∙ rw (only_entries m P (f i) false i (es i)))

  -- the names of a folder whose log does not go on: it is kept, or has none before and after
  other_folder : (i : ℕ) → on i ≡ false → (i < N → After m now P N i) → (is_valid now i ≡ false → F i ≡ []) → folders_of now P N i ≡ F i
  unfolding folders_of
  other_folder i o h e = by_bool (ltb i N) (λ t. let l = ltb-true i N t in go l t (h l)) (λ t. rw t)
    where
      go : i < N → ltb i N ≡ true → After m now P N i → folders_of now P N i ≡ F i
      go l t (kept v x) =
          let g = log_ok_lem m P N ok i l v in
          rw (t, same_directory m now P N i g x, same_names m now P N i g x, x.valid)
      go l t (idle v x) = no_folder now P N i (rw x v) ∙ sym (no_folder m P N i v)
      go l t (gone n x) = no_folder now P N i (rw x) ∙ sym (e (rw x))
      go l t (made v n x y z) =
          by_bool (ltb i N && is_folder now i) (λ q. rw (q, new_names now P N i y)) (λ q. rw q) ∙ sym (no_folder m P N i v)

  -- the names of all folders
  pub folders_now : ((i : ℕ) → i < N → on i ≡ false → After m now P N i) → ((i : ℕ) → is_valid now i ≡ false → F i ≡ [])
      → folders_of now P N ≡ (λ i. cond (on i) (foldl name_step (F i) (map decode (es i))) (F i))
  folders_now h e =
      fun_ext (λ i. by_bool (on i) (λ o. rw o (own_folder i o)) (λ o. rw o (other_folder i o (λ l. h i l o) (e i))))

  -- what is owed, from what changes and the map; n pages are taken at most
  pub naming_owed : {taken : ℕ → ℕ} → Changed m now P N taken → (n : ℕ) → sum_below P taken ≤ n → Each (Inside P) s → Values (ts ++ vs)
      → (M : FileMap)
      → map_of now P N ≡ M → Owed P N (free_count m P N - n) (DeadIn P N) m s (ts ++ vs) M
  naming_owed x n t small values M e = record {
    harmless = did.still;
    small = small;
    few = (apart tails valids).1;
    in_table = in_table tails valids;
    apart = (apart tails valids).0;
    values = values;
    fine = changed_fine x;
    new = e;
    was_free = omega arith;
    now_free = let y = changed_free x in omega arith;
  }
