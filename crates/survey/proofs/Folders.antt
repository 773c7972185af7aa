-- The cases of the functions that judge folders. v is a volume of which the inodes were judged.
use Rattle.model.proofs.Prelude.{ℕ, suc, ◌+◌, ◌-◌, ◌*◌, ◌^◌, ◌≤◌, ◌<◌, ◌≡◌, refl, sym, ◌∙◌, subst, Bool, true, false, ◌&&◌, List, [], arith, length, leb, leb-true, leb-false}
use Rattle.std.specs.Prelude.{Option, Some, None}
use Rattle.std.specs.Bool.{then_some}
use Rattle.std.proofs.lemmas.Option.{none-some, same_Some}
use Rattle.model.specs.Lists.{all, foldl, is_some}
use Rattle.model.specs.Words.{Mem, word}
use Rattle.model.specs.Layout.{root, tail_word, is_directory, most_names}
use Rattle.model.specs.Journal.{dequeue_word, enqueue_word, view}
use Rattle.model.specs.Log.{log_pages}
use Rattle.model.specs.State.{inodes, names_of}
use Rattle.model.specs.Accept.{is_valid, is_folder, log_ok, folder_ok, valid_ok, view_ok}
use Rattle.model.proofs.Tests.{by_bool, by_eq, no, clash, not_true_false, ands}
use Rattle.model.proofs.Lists.{all_below_at}
use Rattle.model.proofs.Log.Extend.{empty_log}
use Rattle.model.proofs.Frame.View.{view_fine, log_ok_lem}
use Rattle.inode_log.specs.Ready.{Ready}
use Rattle.directory.specs.Places.{standing, Filled}
use Rattle.directory.specs.Folds.{Folds}
use Rattle.tree.specs.Table.{state_in, noted_all, may_note}
use Rattle.names.specs.Inodes.{Readable, below, inodes_from}
use Rattle.names.specs.Listed.{names_in, Lists}
use Rattle.names.proofs.Judged.{readable, log_good, names_few, names_lead, good_filled, names_small}
use Rattle.names.proofs.Listing.{volume_long, few_inodes, some_inodes, journal_ready}
use Rattle.inodes.specs.Judged.{shape_ok}
use Rattle.survey.specs.Folders.{Walks, TreeFrom, FolderJudged, FoldersGood, FoldersJudged}
use Rattle.survey.proofs.Noted.{folder_names, no_folder, noted_none, noted_next, noted_not, is_folder_lem, is_none}

state_test : (t : List ℕ) (d s : ℕ) → s ≡ state_in t d → leb 4 s ≡ leb 4 (state_in t d)
state_test t d s e = rw e

-- once inode 0 is judged, d being 0, the first n places are those of its names
pub record RootListed (v : List ℕ) (d n : ℕ) (places : List ℕ) : Type 0 where
  pub lists : d ≡ 0 → Lists v root n places

module _ (v : List ℕ) (w : Walks v) where
  abbrev u : Mem
  u = view (word v)

  pub walk_long : 16 ≤ length v
  walk_long = let l = volume_long v w.volume in omega arith

  few : word v 1 ≤ 256
  few = few_inodes v (word v 0) (word v 1) w.volume refl refl

  pos : 0 < word v 1
  pos = some_inodes v (word v 0) (word v 1) w.volume refl refl

  -- inode 0 is a folder
  pub root_folder : is_folder (view (word v)) root ≡ true
  unfolding shape_ok valid_ok
  root_folder =
      by_bool (is_valid u root) (λ e. rw e)
      (λ e. no (rw e at (all_below_at (word v 1) root (shape_ok u (word v 0) (word v 1)) w.inodes pos)))

  walk_there : (d : ℕ) → d < word v 1 → is_folder u d ≡ true → is_some (log_pages u (word v 0) (word v 1) d) ≡ true
  unfolding shape_ok
  walk_there d l f =
      let a : is_directory u d ≡ true = search ands in
      let b : is_valid u d ≡ true = search ands in
      let h = rw (a, b) at (all_below_at (word v 1) d (shape_ok u (word v 0) (word v 1)) w.inodes l) in search ands

  -- Folder d, whose tail the code read: x, the view of word b.
  reads : Readable (word v) (length v) (word v 1)
  reads =
      readable (word v) (length v) (word v 0) (word v 1) (journal_ready v (word v 0) (word v 1) w.volume refl refl w.journal)

  pub walk_dequeue : word v dequeue_word < 16
  walk_dequeue = reads.dequeue

  pub walk_enqueue : word v enqueue_word < 16
  walk_enqueue = reads.enqueue

  pub walk_page : 512 ≤ length v
  walk_page = volume_long v w.volume

  module _ (d : ℕ) (l : d < word v 1) where
    pub tail_low : d < 2 ^ 60
    tail_low = let a = few in omega arith

    module _ (b : ℕ) (y : b ≡ tail_word d) where
      pub tail_room : 8 * b + 8 ≤ length v
      tail_room = let a = reads.bytes in omega arith

      -- the log is empty
      pub no_log : (x : ℕ) (t tree : List ℕ) → x ≡ view (word v) b → x ≡ 0 → is_folder (view (word v)) d ≡ true → length t ≡ 224
          → TreeFrom v (word v 1 - (d + 1)) (d + 1) tree → FolderJudged v d (Some 0) t tree
      unfolding log_ok folder_ok names_of standing all foldl
      no_log x t tree e z f h s =
          let a = empty_log u (word v 0) (word v 1) d (rw (← y) (sym e ∙ z)) in
          let n : names_in v d ≡ [] = folder_names u (word v 0) (word v 1) few pos d l f ∙ rw (names_of, a.1) in
          let m : suc (word v 1 - (d + 1)) ≡ word v 1 - d = omega arith in
          let i : is_directory u d ≡ true = search ands in
          record {
            good = λ _ _. record { log = rw (a.0, a.1, i); names = rw n };
            lists = λ c q. rw (← (same_Some 0 c q)) (record { filled = record { few = omega arith; long = h; oks = refl }; names = sym n });
            noted = λ _ _. rw (← m) (noted_none u (word v 0) (word v 1) few pos (word v 1 - (d + 1)) d tree n s);
            bad = λ q. absurd (none-some 0 (sym q));
            long = h;
          }

  -- Folder d; the code read the sizes P and N.
  module _ (P N d : ℕ) (p : P ≡ word v 0) (q : N ≡ word v 1) (l : d < word v 1) (f : is_folder (view (word v)) d ≡ true) where
    pub walk_ready : Ready (word v) (length v) P N
    walk_ready = journal_ready v P N w.volume p q (rw q w.journal)

    pub folder_in_lem : d < N
    folder_in_lem = rw q l

    pub folder_small : d < 256
    folder_small = let a = few in omega arith

    pub folder_type : is_directory (view (word v)) d ≡ true
    folder_type = search ands

    pub folder_walk : is_some (log_pages (view (word v)) P N d) ≡ true
    folder_walk = rw (p, q) (walk_there d l f)

    refused : (t tree : List ℕ) → length t ≡ 224 → view_ok u (word v 0) (word v 1) ≡ false → FolderJudged v d None t tree
    refused t tree k z =
        record {
          good = λ n h. absurd (none-some n h);
          lists = λ n h. absurd (none-some n h);
          noted = λ n h. absurd (none-some n h);
          bad = λ h. z;
          long = k;
        }

    names_are_lem : names_in v d ≡ names_of u P N d
    names_are_lem = rw (p, q) (folder_names u (word v 0) (word v 1) few pos d l f)

    -- x is what `names_of` answered, and t the table that it left
    module _ (x : Option ℕ) (t : List ℕ)
        (g : Folds (word v) (length v) (log_ok (view (word v)) P N d && leb (length (names_of (view (word v)) P N d)) most_names)
        (names_of (view (word v)) P N d) x t) where
      pub names_bad : (y : Option ℕ) (tree : List ℕ) → x ≡ None → y ≡ None → FolderJudged v d y t tree
      unfolding folder_ok
      names_bad y tree h e =
          rw e (refused t tree g.long (not_true_false (view_ok u (word v 0) (word v 1))
          (λ ok.
          let valid : is_valid u d ≡ true = search ands in
          let a : log_ok u P N d ≡ true = rw (p, q) (log_ok_lem u (word v 0) (word v 1) ok d l valid) in
          let i = rw names_are_lem at ((view_fine u (word v 0) (word v 1) ok).folders d l) in
          let b : leb (length (names_of u P N d)) most_names ≡ true = search ands in
          no (rw (h, a, b) at g.good))))

      module _ (n : ℕ) (h : x ≡ Some n) where
        folds : Folds (word v) (length v) (log_ok u P N d && leb (length (names_of u P N d)) most_names) (names_of u P N d) (Some n) t
        folds = rw h at g

        pub folder_filled : Filled (word v) (length v) n t
        folder_filled = good_filled (word v) u (length v) P N d n t folds

        pub folder_below : all (below 256) (inodes_from (word v) t 0 n) ≡ true
        folder_below = names_small (word v) u (length v) P N d n t folds folder_type (rw q few)

        leads : inodes_from (word v) t 0 n ≡ inodes (names_in v d)
        leads = rw names_are_lem (names_lead (word v) u (length v) P N d n t folds)

        log_there : log_ok u (word v 0) (word v 1) d ≡ true
        log_there = rw (p, q) at (log_good (word v) u (length v) P N d n t folds)

        -- r is what `note_names` answered of the tree a, and b the tree that it left
        module _ (a b : List ℕ) (r : Bool) (s : TreeFrom v (word v 1 - (d + 1)) (d + 1) a)
            (i : r ≡ may_note a d (inodes_from (word v) t 0 n)) where
          notes_bad : r ≡ false → FolderJudged v d None t b
          notes_bad z =
              refused t b g.long (noted_not u (word v 0) (word v 1) few pos d l f log_there (word v 1 - (d + 1)) a s (omega arith)
              (rw (← leads) (sym i ∙ z)))

          notes_good : r ≡ true → (r ≡ true → b ≡ noted_all a d (inodes_from (word v) t 0 n)) → FolderJudged v d (Some n) t b
          unfolding folder_ok
          notes_good y o =
              let k = noted_next u (word v 0) (word v 1) few pos d l f log_there (word v 1 - (d + 1)) a s (rw (← leads) (sym i ∙ y)) in
              let m : suc (word v 1 - (d + 1)) ≡ word v 1 - d = omega arith in
              record {
                good = λ _ _.
                    record {
                      log = log_there;
                      names = rw (names_are_lem, names_few (word v) u (length v) P N d n t folds) (rw names_are_lem at k.0);
                    };
                lists = λ c e. rw (← (same_Some n c e)) (record { filled = folder_filled; names = folds.names n refl ∙ sym names_are_lem });
                noted = λ _ _. rw (o y, leads, ← m) k.1;
                bad = λ z. absurd (none-some n (sym z));
                long = g.long;
              }

          pub names_noted : (y : Option ℕ) → y ≡ then_some r n → (r ≡ true → b ≡ noted_all a d (inodes_from (word v) t 0 n))
              → FolderJudged v d y t b
          names_noted y e o =
              by_bool r (λ z. rw (e, z) (notes_good z o)) (λ z. rw (e, z) (notes_bad z))

  -- The loop over the folders: those from n on are judged, and the tree is t.

  pub loop_small : (n N : ℕ) → n ≤ N → N ≡ word v 1 → n - 1 < 256
  loop_small n N h q = let a = few in omega arith

  pub loop_start : (N : ℕ) (t : List ℕ) → N ≡ word v 1 → TreeFrom v 0 (word v 1) t → TreeFrom v (word v 1 - N) N t
  loop_start N t q s = let z : word v 1 - word v 1 ≡ 0 = omega arith in rw (q, z) s

  pub none_judged : (N : ℕ) → N ≡ word v 1 → FoldersGood v N
  none_judged N q e l h f = absurd (omega arith)

  pub none_listed : (N c : ℕ) (b : List ℕ) → N ≡ word v 1 → RootListed v N c b
  none_listed N c b q = record { lists = λ z. let a = pos in absurd (omega arith) }

  module _ (n : ℕ) (t : List ℕ) (s : TreeFrom v (word v 1 - n) n t) where
    -- the loop's test says k < n; any k will do, so that another test fails behind the loop
    pub loop_tree : (k : ℕ) → k < n → TreeFrom v (word v 1 - (n - 1 + 1)) (n - 1 + 1) t
    loop_tree k g = let e : n - 1 + 1 ≡ n = omega arith in rw e s

    -- x is the number of the state of inode n − 1, and r whether it is a folder's
    module _ (N : ℕ) (q : N ≡ word v 1) (h : n ≤ N) (x : ℕ) (a : x ≡ state_in t (n - 1)) (r : Bool) (b : r ≡ leb 4 x) where
      e : r ≡ leb 4 (state_in t (n - 1))
      e = b ∙ state_test t (n - 1) x a

      pub loop_folder : r ≡ true → is_folder (view (word v)) (n - 1) ≡ true
      loop_folder y =
          by_eq (n - 1) 0 (λ z. rw z root_folder)
          (λ z. is_folder_lem u (word v 0) (word v 1) few pos (word v 1 - n) (n - 1) n t s (omega arith) (omega arith)
          (leb-true 4 (state_in t (n - 1)) (sym e ∙ y)))

      -- inode 0 is a folder in the table too
      past_root : r ≡ false → 0 < n - 1
      past_root y =
          by_eq (n - 1) 0
          (λ z. let a = rw z at (leb-false 4 (state_in t (n - 1)) (sym e ∙ y)) in let b = s.first in absurd (omega arith))
          (λ z. omega arith)

      is_no : r ≡ false → is_folder u (n - 1) ≡ false
      is_no y =
          let p = past_root y in
          is_none u (word v 0) (word v 1) few pos (word v 1 - n) (n - 1) n t s p (omega arith)
          (leb-false 4 (state_in t (n - 1)) (sym e ∙ y))

      pub loop_none : r ≡ false → TreeFrom v (word v 1 - (n - 1)) (n - 1) t
      loop_none y =
          let p = past_root y in
          let m : suc (word v 1 - n) ≡ word v 1 - (n - 1) = omega arith in
          let k : n - 1 + 1 ≡ n = omega arith in
          let a = noted_none u (word v 0) (word v 1) few pos (word v 1 - n) (n - 1) t
          (no_folder u (word v 0) (word v 1) few pos (n - 1) (is_no y)) (rw k s) in
          rw (← m) a

      pub good_none : FoldersGood v n → r ≡ false → FoldersGood v (n - 1)
      good_none o y i l z f = by_eq i (n - 1) (λ c. clash (is_folder u i) f (rw c (is_no y))) (λ c. o i l (omega arith) f)

      pub listed_none : (c : ℕ) (b : List ℕ) → r ≡ false → RootListed v (n - 1) c b
      listed_none c b y = record { lists = λ z. let p = past_root y in absurd (omega arith) }

  pub loop_in : (n N : ℕ) → n ≤ N → N ≡ word v 1 → n - 1 < word v 1
  loop_in n N h q = let a = pos in omega arith

  -- x is what `judge_folder` answered
  module _ (n : ℕ) (x : Option ℕ) (t b : List ℕ) (j : FolderJudged v (n - 1) x t b) where
    module _ (c : ℕ) (h : x ≡ Some c) where
      pub judged_tree : TreeFrom v (word v 1 - (n - 1)) (n - 1) b
      judged_tree = j.noted c h

      pub judged_more : FoldersGood v n → FoldersGood v (n - 1)
      judged_more o i l z f = by_eq i (n - 1) (λ e. rw e (j.good c h)) (λ e. o i l (omega arith) f)

      pub judged_listed : RootListed v (n - 1) c t
      judged_listed = record { lists = λ z. subst (λ i. Lists v i c t) z (j.lists c h) }

    pub judged_long : length t ≡ 224
    judged_long = j.long

  -- All are judged; c is how many names inode 0 has.
  pub all_judged : (n c : ℕ) (b t : List ℕ) → n ≤ 0 → FoldersGood v n → RootListed v n c b → TreeFrom v (word v 1 - n) n t
      → FoldersJudged v (Some c) b t
  all_judged n c b t a o i s =
      let z : n ≡ 0 = omega arith in
      let e : word v 1 - 0 ≡ word v 1 = omega arith in
      record {
        good = λ _ _ k l m f. o k l (omega arith) f;
        lists = λ k q. rw (← (same_Some c k q)) (i.lists z);
        noted = λ _ _. rw (z, e) at s;
        bad = λ q. absurd (none-some c (sym q));
      }
