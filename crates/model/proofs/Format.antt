-- Format: up to the end of the table every word but 0, 1, 2 and 64 is 0. So the journal is closed, inode 0's log is empty and no other
-- inode is valid.
use Rattle.model.proofs.Prelude.{◌≡◌, sym, ◌∙◌, ℕ, ◌+◌, ◌-◌, ◌*◌, ◌≤◌, ◌<◌, true, false, cond, and-false, List, [], ◌++◌, none, some, arith, length, get_or, drop, replicate, length-append, length-drop, length-replicate, get_or-replicate, get_or-append, eqb, eq-eqb, ne_eqb, lt-ltb, le-ltb}
use Rattle.model.specs.Lists.{bit, all, count, foldl}
use Rattle.model.specs.Words.{Mem, word, put_word}
use Rattle.model.specs.Layout.{sizes_ok, table_pages, valid_word, tail_word, is_directory, in_pages, root}
use Rattle.model.specs.Journal.{dequeue_word, enqueue_word, is_open}
use Rattle.model.specs.Log.{pages}
use Rattle.model.specs.State.{names_of, inodes}
use Rattle.model.specs.Accept.{is_valid, folders_of, uses_by, uses, free, free_count, valid_ok, type_ok, log_ok, inode_ok, accepted}
use Rattle.model.specs.FileMap.{map_of}
use Rattle.model.specs.Answer.{done}
use Rattle.model.specs.Public.{is_volume, is_accepted, formatted, format, format_answer, format_volume, free_answer}
use Rattle.model.specs.Claim.{map_in}
use Rattle.model.specs.Promises.{Formatted, FormatDone}
use Rattle.model.proofs.Tests.{by_eq, by_lt, no}
use Rattle.model.proofs.Lists.{sum_below_from}
use Rattle.model.proofs.Words.{le_from_same, word_put, length_put_word}
use Rattle.model.proofs.Log.Pages.{Reads}
use Rattle.model.proofs.Log.Extend.{empty_log}
use Rattle.model.proofs.Frame.View.{Fine, fine_view}
use Rattle.model.proofs.Tree.{top}
use Rattle.model.proofs.State.Folders.{FoldersFine}
use Rattle.model.proofs.State.FoldersOk.{fine_folders}
use Rattle.model.proofs.Crash.Journal.{closed_view, closed_ok, equal_closed}
use Rattle.model.proofs.Crash.Landing.{Sizes, sizes_parts}
use Rattle.model.proofs.Crash.Commit.{accepted_of}
use Rattle.model.proofs.Reading.{free_done}

module _ (v : List ℕ) (P N : ℕ) (sizes : sizes_ok P N ≡ true) (whole : length v ≡ 512 * P) where
  s : Sizes P N
  s = sizes_parts P N sizes

  -- The words.

  abbrev t : ℕ
  t = 512 * (table_pages N + 1)

  abbrev zeros : List ℕ
  zeros = replicate t 0 ++ drop t v

  abbrev m : Mem
  m = word (formatted v P N)

  zeros_at_lem : (w : ℕ) → w < 64 * (table_pages N + 1) → word zeros w ≡ 0
  unfolding word
  zeros_at_lem w h =
      le_from_same 8 (λ i. get_or zeros i 0) (λ i. 0) (8 * w)
      (λ k g f. get_or-append (replicate t 0) (drop t v) 0 k (rw length-replicate (omega arith)) ∙ get_or-replicate t k 0 0 (omega arith))

  zeros_length : length zeros ≡ 512 * P
  zeros_length = rw (length-append, length-replicate, length-drop, whole) (omega (arith, s.room))

  formatted_length : length (formatted v P N) ≡ 512 * P
  unfolding formatted
  formatted_length = simp length_put_word zeros_length

  put_at : (b : List ℕ) (i x w : ℕ) → length b ≡ 512 * P → i ≤ 64 → x ≤ 4096 → word (put_word b i x) w ≡ cond (eqb w i) x (word b w)
  put_at b i x w e h g = word_put b i x w (omega (arith, s.room, s.some_inodes)) (omega arith)

  word_at : (w : ℕ) → m w ≡ cond (eqb w 64) 1 (cond (eqb w 2) 1 (cond (eqb w 1) N (cond (eqb w 0) P (word zeros w))))
  unfolding formatted
  word_at w =
      let a = put_word zeros 0 P in
      let b = put_word a 1 N in
      rw (
        put_at (put_word b 2 1) 64 1 w (simp length_put_word zeros_length) (omega arith) (omega arith),
        put_at b 2 1 w (simp length_put_word zeros_length) (omega arith) (omega arith),
        put_at a 1 N w (simp length_put_word zeros_length) (omega arith) (omega (arith, s.most_inodes)),
        put_at zeros 0 P w zeros_length (omega arith) s.most_pages,
      )

  zero_at : (w : ℕ) → 3 ≤ w → w < 64 * (table_pages N + 1) → (w ≡ 64 → ⊥) → m w ≡ 0
  zero_at w g h n =
      word_at w ∙ rw (ne_eqb w 64 n, ne_eqb w 2 (omega arith), ne_eqb w 1 (omega arith), ne_eqb w 0 (omega arith)) (zeros_at_lem w h)

  -- What is read of them.

  dequeue : m dequeue_word ≡ 0
  dequeue = zero_at dequeue_word (omega arith) (omega arith) (λ e. omega arith)

  enqueue : m enqueue_word ≡ 0
  enqueue = zero_at enqueue_word (omega arith) (omega arith) (λ e. omega arith)

  closed : is_open m ≡ false
  closed = equal_closed m (dequeue ∙ sym enqueue) (omega (arith, enqueue))

  invalid : (k : ℕ) → k < N → (k ≡ 0 → ⊥) → m (valid_word k) ≡ 0
  invalid k l n = zero_at (valid_word k) (omega arith) (omega (arith, s.whole)) (λ e. n (omega arith))

  empty : Reads m P N root [] []
  empty = empty_log m P N root (zero_at (tail_word root) (omega arith) (omega (arith, s.some_inodes)) (λ e. omega arith))

  no_names : names_of m P N root ≡ []
  unfolding names_of foldl
  no_names = rw empty.1

  no_files : (k : ℕ) → (map_of m P N).files k ≡ none
  unfolding map_of
  no_files k =
      by_lt k N (λ l. rw (lt-ltb k N l) (by_eq k 0 (λ e. rw e) (λ e. rw (invalid k l e, and-false)))) (λ l. rw (le-ltb k N l))

  -- inode 0 is the only folder, and has no names
  one_folder : (k : ℕ) → (map_of m P N).folders k ≡ cond (eqb k root) (some []) none
  unfolding map_of
  one_folder k =
      by_lt k N
      (λ l. rw (lt-ltb k N l) (by_eq k 0 (λ e. rw (e, word_at 64, no_names)) (λ e. rw (ne_eqb k 0 e, invalid k l e, and-false))))
      (λ l. rw (le-ltb k N l, ne_eqb k 0 (omega (arith, s.some_inodes))))

  empty_folders : (d : ℕ) → folders_of m P N d ≡ []
  unfolding folders_of
  empty_folders d =
      by_lt d N
      (λ l. rw (lt-ltb d N l) (by_eq d 0 (λ e. rw (e, word_at 64, no_names)) (λ e. rw (invalid d l e, and-false))))
      (λ l. rw (le-ltb d N l))

  no_uses : (p : ℕ) → uses m P N p ≡ 0
  unfolding uses uses_by pages count
  no_uses p =
      sum_below_from N N (uses_by m P N p)
      (λ k l h. by_eq k 0 (λ e. rw (e, word_at 64, empty.0)) (λ e. rw (invalid k l e)))
      (λ k l h. absurd (omega arith)) ∙ omega arith

  all_free : free_count m P N ≡ P - table_pages N - 1
  unfolding free_count free bit in_pages
  all_free =
      sum_below_from P (table_pages N + 1) (λ p. bit (free m P N p))
      (λ p l h. rw (le-ltb (table_pages N) p (omega arith)))
      (λ p l h. rw (lt-ltb (table_pages N) p (omega arith), lt-ltb p P l, no_uses p)) ∙ omega arith

  -- It is accepted.

  inodes_ok : (k : ℕ) → k < N → inode_ok m P N k ≡ true
  unfolding inode_ok valid_ok type_ok log_ok all
  inodes_ok k l = by_eq k 0 (λ e. rw (e, word_at 64, empty.0, empty.1)) (λ e. rw (ne_eqb k 0 e, invalid k l e))

  no_child : {X : Type 0} (d k : ℕ) → 1 ≤ count k (inodes (folders_of m P N d)) → X
  unfolding count
  no_child d k h = let z : 1 ≤ count k (inodes []) = rw (empty_folders d) at h in absurd (omega arith)

  not_valid : {X : Type 0} (k : ℕ) → k < N → (k ≡ 0 → ⊥) → is_valid m k ≡ true → X
  not_valid k l n v = no (rw (invalid k l n) at v)

  folders_ok : FoldersFine N (is_valid m) (is_directory m) (folders_of m P N)
  folders_ok = record {
    distinct = λ d. rw (empty_folders d) tt;
    short = λ d. rw (empty_folders d) (omega arith);
    child = λ d k h. no_child d k h;
    folder = λ d k h. no_child d k h;
    named = λ k l g v. not_valid k l (omega arith) v;
    once = λ k l g v f. not_valid k l (omega arith) v;
    reached = λ k l v f. by_eq k 0 (λ z. rw z top) (λ z. not_valid k l z v);
  }

  ok : accepted m P N ≡ true
  ok =
      let f = fine_folders m P N (omega (arith, s.some_inodes)) folders_ok in
      let fine : Fine m P N =
      record { inodes = inodes_ok; folders = λ d l. f.0 d; named = f.1; once = λ p l n. let z = no_uses p in omega arith } in
      accepted_of m P N (closed_ok m N (omega (arith, dequeue)) (omega (arith, enqueue)) closed)
      (rw (closed_view m closed) (fine_view m P N fine))

  accepted_after : is_accepted (formatted v P N) ≡ true
  unfolding is_accepted is_volume
  accepted_after = rw (word_at 0, word_at 1, word_at 2, sizes, eq-eqb (length (formatted v P N)) (512 * P) formatted_length) ok

  -- The bytes that format leaves.

  format_is : format v P N ≡ done (formatted v P N)
  unfolding format
  format_is = rw (sizes, eq-eqb (length v) (512 * P) whole)

  volume_is : format_volume v P N ≡ formatted v P N
  unfolding format_volume
  volume_is = rw format_is

  map_is : map_in (formatted v P N) ≡ map_of m P N
  unfolding map_in
  map_is = rw (closed_view m closed, word_at 0, word_at 1)

  free_is_lem : free_answer (formatted v P N) ≡ done (P - table_pages N - 1)
  free_is_lem = free_done (formatted v P N) accepted_after closed ∙ rw (closed_view m closed, word_at 0, word_at 1, all_free)

  format_leaves : Formatted v P N
  unfolding format_answer map_of
  format_leaves =
      record {
        ends_done = rw format_is;
        accepted_after = rw volume_is accepted_after;
        is_closed = rw volume_is closed;
        pages = rw volume_is (word_at 0);
        inodes = rw volume_is (word_at 1);
        no_names = λ k. rw (volume_is, map_is) (one_folder k);
        no_files = λ k. rw (volume_is, map_is) (no_files k);
        free = rw volume_is free_is_lem;
      }

pub format_done : FormatDone
format_done = format_leaves
