-- The cases of the functions that judge one inode: what they read from the raw memory is what the view has, and a chain of
-- judgements and marks is one judgement.
use Rattle.model.proofs.Prelude.{ℕ, zero, suc, ◌+◌, ◌*◌, ◌/◌, ◌≤◌, ◌<◌, ◌≡◌, refl, sym, ◌∙◌, ap, subst, ⊎_elim, Bool, true, false, not, ◌&&◌, List, [], append-nil, arith, length, get_or, take, length-take-le, get_or-take, leb, ltb, lt-leb, lt-ltb, eq-eqb, ne_eqb, not-true, not-false}
use Rattle.std.specs.Prelude.{Option, Some, is_some as known}
use Rattle.model.specs.Lists.{all, is_some, or_else}
use Rattle.model.specs.Words.{Mem}
use Rattle.model.specs.Layout.{valid_word, type_word, is_directory, in_pages, root, file_pages}
use Rattle.model.specs.Journal.{view, journal_ok}
use Rattle.model.specs.Log.{log_pages, entries, pages as pagesOfInode}
use Rattle.model.specs.State.{File, file_of}
use Rattle.model.specs.Accept.{log_ok, end_ok, valid_ok, type_ok}
use Rattle.model.proofs.Tests.{by_bool, by_eq, no, and_left, and_right, ands}
use Rattle.model.proofs.Frame.Placed.{Placed, in_bounds}
use Rattle.model.proofs.Frame.Inode.{file_placed}
use Rattle.model.proofs.State.Bytes.{kept_end, placed_ended, small_file}
use Rattle.tree.specs.Noted.{noted_state, file_state}
use Rattle.layout.specs.Kind.{type_of}
use Rattle.layout.specs.declared.Kind.{Kind}
use Rattle.layout.specs.declared.Kind.TheVariants.{File as FileKind, Folder as FolderKind}
use Rattle.journal.proofs.Views.{view_raw, type_raw}
use Rattle.inode_log.specs.Ready.{Ready}
use Rattle.files.specs.State.{file_from, Folds}
use Rattle.marks.specs.Marks.{fresh, marked, mapped, mapped_by, have_marks, used_by, Marked, Judged, Walked}
use Rattle.marks.proofs.Counts.{fresh_append, marked_append}
use Rattle.inodes.specs.Judged.{EndJudged, pages_of_file, FileJudged, no_marks, RootJudged, shape_ok, StateJudged, InodeJudged}

-- The answer no.

refused : (ok : Bool) (a ps b : List ℕ) → ok && fresh a ps ≡ false → Judged ok a ps false b
refused ok a ps b e = record { answer = sym e; list = λ y. no y }

pub bad : (ok : Bool) (a ps b : List ℕ) → ok ≡ false → Judged ok a ps false b
bad ok a ps b e = refused ok a ps b (rw e)

pub marked_before : (ok : Bool) (a ps b : List ℕ) → fresh a ps ≡ false → Judged ok a ps false b
marked_before ok a ps b e = refused ok a ps b (by_bool ok (λ h. rw (h, e)) (λ h. rw h))

-- what holds of every data page holds of all of them
pub mapped_all : (f : ℕ → ℕ) (g : ℕ → Bool) → ((i : ℕ) → (f i ≡ 0 → ⊥) → g (f i) ≡ true) → (n i : ℕ) → all g (mapped_by f i n) ≡ true
unfolding mapped_by all
mapped_all f g h zero i = refl
mapped_all f g h (suc n) i =
    by_eq (f i) 0 (λ z. rw (mapped_by, eq-eqb (f i) 0 z) (mapped_all f g h n (i + 1)))
    (λ z. rw (mapped_by, ne_eqb (f i) 0 z, all, h i z) (mapped_all f g h n (i + 1)))

-- file pages of which none is mapped from the c-th on have the data pages of the first c
mapped_first : (f : ℕ → ℕ) (n c i : ℕ) → c ≤ n → ((j : ℕ) → i + c ≤ j → f j ≡ 0) → mapped_by f i c ≡ mapped_by f i n
unfolding mapped_by
mapped_first f zero zero i l h = refl
mapped_first f zero (suc c) i l h = absurd (omega arith)
mapped_first f (suc n) zero i l h =
    rw (mapped_by, eq-eqb (f i) 0 (h i (omega arith))) (mapped_first f n 0 (i + 1) (omega arith) (λ j g. h j (omega arith)))
mapped_first f (suc n) (suc c) i l h = rw (mapped_first f n c (i + 1) (omega arith) (λ j g. h j (omega arith)))

-- file pages that have the same data pages
mapped_same : (n i : ℕ) (f g : ℕ → ℕ) → ((j : ℕ) → j < i + n → f j ≡ g j) → mapped_by f i n ≡ mapped_by g i n
unfolding mapped_by
mapped_same zero i f g h = refl
mapped_same (suc n) i f g h = rw (mapped_by, h i (omega arith), mapped_same n (i + 1) f g (λ j l. h j (omega arith)))

-- File k, whose log is good: s is its size and t the table of its data pages.

module _ (m : Mem) (L P N k s : ℕ) (t : List ℕ) (ready : Ready m L P N) (kf : is_directory (view m) k ≡ false)
    (ok : log_ok (view m) P N k ≡ true)
    (f : file_from s t ≡ file_of (view m) P N k) where
  set_down : Placed P N (file_from s t)
  set_down = subst (λ (g : File). Placed P N g) (sym f) (file_placed (view m) P N k ok kf)

  page_inside : (i : ℕ) → (get_or t i 0 ≡ 0 → ⊥) → in_pages P N (get_or t i 0) ≡ true
  page_inside i z = ⊎_elim (λ e. absurd (z e)) (λ h. h.1) (set_down i)

  end_size : s ≤ 65536
  unfolding log_ok file_of
  end_size =
      let h = rw kf at ok in
      let e : s ≡ (file_of (view m) P N k).size = ap (λ (g : File). g.size) f in
      rw e (small_file P N (entries (view m) P N k) (search ands))

  end_room : 512 * get_or t (s / 512) 0 + 512 ≤ L
  end_room =
      let a = ready.bytes in
      let b = ready.room in
      by_eq (get_or t (s / 512) 0) 0 (λ z. rw z (omega arith))
      (λ z. let i = in_bounds P N (get_or t (s / 512) 0) (page_inside (s / 512) z) in omega arith)

  table_in : (n : ℕ) → have_marks (mapped t 0 n) ≡ true
  unfolding mapped have_marks
  table_in n =
      mapped_all (λ j. get_or t j 0) (λ p. ltb p 4096)
      (λ i z. let b = in_bounds P N (get_or t i 0) (page_inside i z) in let l = ready.pages in lt-ltb (get_or t i 0) 4096 (omega arith)) n 0

  -- the data pages lie past the inode table, where the raw memory has the words of the view
  end_same : end_ok m (file_from s t) ≡ end_ok (view m) (file_of (view m) P N k)
  end_same =
      let e = ready.eight in
      kept_end (view m) m (file_from s t)
      (λ i o l z.
      let b = in_bounds P N (get_or t i 0) (page_inside i z) in
      sym (view_raw m N (64 * get_or t i 0 + o) ready.journal (omega arith)))
      ∙ ap (end_ok (view m)) f

  -- where the end is good, the file pages that start below the size have all data pages
  mapped_is : end_ok m (file_from s t) ≡ true → mapped t 0 ((s + 511) / 512) ≡ mapped_by (file_of (view m) P N k).page 0 file_pages
  unfolding mapped
  mapped_is good =
      let a = end_size in
      let g = placed_ended m P N (file_from s t) set_down good in
      mapped_first (λ j. get_or t j 0) 128 ((s + 511) / 512) 0 (omega arith)
      (λ j l. by_eq (get_or t j 0) 0 (λ z. z) (λ z. let b = g.starts j z in absurd (omega arith)))
      ∙ ap (λ (x : File). mapped_by x.page 0 128) f

-- The end of a file with size s and table t: r is what `end_ok` answered.
module _ (m : Mem) (s : ℕ) (t : List ℕ) (r : Bool) (e : r ≡ end_ok m (file_from s t)) where
  -- n is what `pages_below` answered, and the first n elements of the table are what `take_table` got
  module _ (n : ℕ) (h : n ≡ (s + 511) / 512) (few : n ≤ length t) where
    first : mapped (take n t) 0 (length (take n t)) ≡ mapped t 0 ((s + 511) / 512)
    unfolding mapped
    first =
        rw (length-take-le n t few, ← h)
        (mapped_same n 0 (λ j. get_or (take n t) j 0) (λ j. get_or t j 0) (λ j l. get_or-take n t j 0 (omega arith)))

    pub counted_in : have_marks (mapped t 0 ((s + 511) / 512)) ≡ true → have_marks (mapped (take n t) 0 (length (take n t))) ≡ true
    counted_in i = rw first i

    -- o is what `take_table` answered
    pub end_is : (a b : List ℕ) (o : Bool) → not r ≡ false → Marked a (mapped (take n t) 0 (length (take n t))) o b → EndJudged m s t a o b
    end_is a b o y g =
        record { answer = rw (sym e ∙ not-false r y, ← first) g.answer; list = λ w. rw (← first) (g.list w) }

-- File k: q is what `mark_log` answered, and a and b are the marks before and after it.
module _ (m : Mem) (L P N k : ℕ) (ready : Ready m L P N) (kf : is_directory (view m) k ≡ false) (a b : List ℕ) (q : Bool)
    (x : Walked (log_pages (view m) P N k) a q b) where
  abbrev u : Mem
  u = view m

  pub log_not : not q ≡ true → FileJudged (view m) P N k a false b
  unfolding log_ok pagesOfInode
  log_not y =
      let z : is_some (log_pages u P N k) && fresh a (or_else (log_pages u P N k) []) ≡ false = sym x.answer ∙ not-true q y in
      by_bool (is_some (log_pages u P N k))
      (λ i. marked_before (log_ok u P N k && end_ok u (file_of u P N k)) a (pages_of_file u P N k) b (rw (fresh_append, rw i at z)))
      (λ i. bad (log_ok u P N k && end_ok u (file_of u P N k)) a (pages_of_file u P N k) b (rw i))

  module _ (y : not q ≡ false) where
    parts : is_some (log_pages u P N k) && fresh a (or_else (log_pages u P N k) []) ≡ true
    parts = sym x.answer ∙ not-false q y

    pub log_there : is_some (log_pages (view m) P N k) ≡ true
    log_there = and_left (is_some (log_pages u P N k)) (fresh a (or_else (log_pages u P N k) [])) parts

    log_once : fresh a (pagesOfInode u P N k) ≡ true
    unfolding pagesOfInode
    log_once = and_right (is_some (log_pages u P N k)) (fresh a (or_else (log_pages u P N k) [])) parts

    log_marked : b ≡ marked a (pagesOfInode u P N k)
    unfolding pagesOfInode
    log_marked = x.list (not-false q y)

    -- f is what `file_state` answered, and t the table that it left
    module _ (f : Option ℕ) (t : List ℕ) (g : Folds (log_ok (view m) P N k) (file_of (view m) P N k) f t) where
      module _ (s : ℕ) (n : f ≡ Some s) where
        state_good : log_ok (view m) P N k ≡ true
        state_good = sym g.good ∙ ap known n

        state_file : file_from s t ≡ file_of (view m) P N k
        state_file = g.file s n

        pub size_low : s ≤ 65536
        size_low = end_size m L P N k s t ready kf state_good state_file

        pub size_room : 512 * get_or t (s / 512) 0 + 512 ≤ L
        size_room = end_room m L P N k s t ready kf state_good state_file

        pub pages_in : have_marks (mapped t 0 ((s + 511) / 512)) ≡ true
        pages_in = table_in m L P N k s t ready kf state_good state_file ((s + 511) / 512)

        -- o and c are what `judge_end` answered and left
        pub file_is : (o : Bool) (c : List ℕ) → EndJudged m s t b o c → FileJudged (view m) P N k a o c
        file_is o c j =
            let same = end_same m L P N k s t ready kf state_good state_file in
            by_bool (end_ok m (file_from s t))
            (λ e.
            let d = mapped_is m L P N k s t ready kf state_good state_file e in
            record {
              answer = rw (state_good, ← same, e, fresh_append, log_once, ← log_marked, ← d) (rw e at j.answer);
              list = λ w. rw (marked_append, ← log_marked, ← d) (j.list w);
            })
            (λ e.
            let z : o ≡ false = rw e at j.answer in
            record { answer = rw (state_good, ← same, e) z; list = λ w. no (sym z ∙ w) })

-- the state of what is bad
state_bad : (ok : Bool) (a ps : List ℕ) (s : ℕ) → ok ≡ false → StateJudged ok a ps s 7 a
state_bad ok a ps s e = record { judged = bad ok a ps a e; state = λ z. absurd (z refl); low = omega arith }

-- Inode k, not inode 0: v is its valid word, and x its type.

module _ (m : Mem) (P N k w v : ℕ) (kp : 0 < k) (i : w ≡ valid_word k) (e : v ≡ view m w) where
  abbrev u' : Mem
  u' = view m

  word_is_lem : (n : ℕ) → v ≡ n → view m (valid_word k) ≡ n
  word_is_lem n z = rw (← i, ← e) z

  pub inode_free : (a : List ℕ) → v ≡ 0 → InodeJudged (view m) P N k a 0 a
  unfolding shape_ok valid_ok used_by fresh marked noted_state
  inode_free a z =
      let h = word_is_lem 0 z in
      record {
        judged = record { answer = rw (h, ne_eqb k 0 (omega arith)); list = λ _. rw h };
        state = λ y. rw h;
        low = omega arith;
      }

  pub inode_bad : (a : List ℕ) → (v ≡ 0 → ⊥) → (v ≡ 1 → ⊥) → InodeJudged (view m) P N k a 7 a
  unfolding shape_ok valid_ok
  inode_bad a y z =
      let g : leb (view m (valid_word k)) 1 ≡ false = rw (← i, ← e) (lt-leb v 1 (omega arith)) in
      state_bad _ a _ _ (rw (shape_ok, valid_ok, ne_eqb k 0 (omega arith), g))

  -- x is its type word, and q the kind that it says
  module _ (y : v ≡ 1) (z x : ℕ) (ready : journal_ok m N ≡ true) (f : z ≡ type_word k) (g : x ≡ m z) where
    type_is : view m (type_word k) ≡ x
    type_is = type_raw m N k ready ∙ rw (← f) (sym g)

    module _ (q : Kind) (h : type_of q ≡ x) where
      type_said : (j : Kind) → q ≡ j → view m (type_word k) ≡ type_of j
      type_said j w = type_is ∙ sym h ∙ ap type_of w

      -- no folder
      pub type_file : q ≡ FileKind → is_directory (view m) k ≡ false
      type_file w = rw (ne_eqb k 0 (omega arith), type_said FileKind w)

      pub inode_file : (a b : List ℕ) (r : ℕ) → q ≡ FileKind
          → StateJudged (log_ok (view m) P N k && end_ok (view m) (file_of (view m) P N k)) a (pages_of_file (view m) P N k) 1 r b
          → InodeJudged (view m) P N k a r b
      unfolding shape_ok valid_ok type_ok used_by noted_state file_state
      inode_file a b r w j = rw (shape_ok, used_by, word_is_lem 1 y, ne_eqb k 0 (omega arith), type_said FileKind w) j

      pub inode_folder : (a b : List ℕ) (r : ℕ) → q ≡ FolderKind
          → StateJudged (is_some (log_pages (view m) P N k)) a (or_else (log_pages (view m) P N k) []) 4 r b → InodeJudged (view m) P N k a r b
      unfolding shape_ok valid_ok type_ok used_by pagesOfInode noted_state
      inode_folder a b r w j = rw (shape_ok, used_by, word_is_lem 1 y, ne_eqb k 0 (omega arith), type_said FolderKind w, append-nil) j

    pub inode_strange : (a : List ℕ) → 1 < x → InodeJudged (view m) P N k a 7 a
    unfolding shape_ok valid_ok type_ok
    inode_strange a n =
        let l : leb (view m (type_word k)) 1 ≡ false = rw type_is (lt-leb x 1 (omega arith)) in
        state_bad _ a _ _ (rw (shape_ok, type_ok, word_is_lem 1 y, ne_eqb k 0 (omega arith), l))

-- Inode 0: v is its valid word.

module _ (m : Mem) (P N w v : ℕ) (x : w ≡ valid_word root) (i : v ≡ view m w) where
  pub root_is : (a b : List ℕ) (r : Bool) → a ≡ no_marks → v ≡ 1 → Walked (log_pages (view m) P N root) a r b → RootJudged (view m) P N r b
  unfolding pagesOfInode
  root_is a b r n z j =
      let e : view m (valid_word root) ≡ 1 = rw (← x, ← i) z in
      record { answer = rw (e, ← n) j.answer; list = λ y. rw (← n) (j.list y) }
