-- Create, link, unlink and rename do what they owe: their entries add or take out names, and the valid words follow the names.
use Rattle.model.proofs.Prelude.{◌≡◌, refl, sym, ◌∙◌, ap, fun_ext, ℕ, ◌+◌, ◌-◌, ◌*◌, ◌≤◌, ◌<◌, Bool, true, false, cond, ◌&&◌, ◌||◌, not, and-false, List, [], ◌∷◌, ◌++◌, none, some, arith, length, eqb, leb, ltb, eqb-true, eqb-false, leb-false, ltb-false, ltb-true, eq-eqb, ne_eqb, not-false, not-true}
use Rattle.model.specs.Lists.{count}
use Rattle.model.specs.Words.{Mem}
use Rattle.model.specs.Layout.{valid_word, head_word, tail_word, type_word, is_directory}
use Rattle.model.specs.Entry.{name_ok, new_name_ok, add_words, remove_words}
use Rattle.model.specs.State.{with_name, without, inode_of, inodes}
use Rattle.model.specs.Tree.{Folders, name_count, is_beneath}
use Rattle.model.specs.Accept.{is_valid, is_file, folders_of, free, free_count, view_ok}
use Rattle.model.specs.FileMap.{FileMap, map_of, map_after, create, create_folder, link, unlink, rename}
use Rattle.model.specs.Stores.{Stores, one_word, no_words, both}
use Rattle.model.specs.Calls.{Change, commit, entries_only, targets, prepared, new_tail, all_needed, all_prepared, all_changes, none_there, leads_to, stands, is_absent, is_full, invalid_inode, release, same_inode, rename_appends, space_checks, action_checks, action_groups, create_action, link_action, unlink_action, rename_action}
use Rattle.model.specs.Answer.{wrong_type, into_itself, directory_full}
use Rattle.model.specs.Claim.{Bytes}
use Rattle.model.proofs.Tests.{by_bool, by_eq, no, clash, ands, or_false, some_is, bit_same}
use Rattle.model.proofs.Lists.{no_length}
use Rattle.model.proofs.Log.Decode.{name_short}
use Rattle.model.proofs.Frame.Placed.{sizes_whole}
use Rattle.model.proofs.Frame.View.{file_is}
use Rattle.model.proofs.Tree.{with_folder, with_other}
use Rattle.model.proofs.State.Folders.{holds, FoldersFine, Is, leads_to_lem, no_zero, link_fine, create_fine, removed_count, unlink_fine, moved_count, rename_fine, fine_same}
use Rattle.model.proofs.State.FoldersOk.{folders_fine}
use Rattle.model.proofs.State.NameEntries.{names_added, added_ok, names_removed, removed_ok, names_moved, moved_ok}
use Rattle.model.proofs.State.Maps.{SameBytes, is_shown, rename_same, create_inode, create_map, create_folder_map, link_map, unlink_map, rename_map}
use Rattle.model.proofs.Crash.Stores.{only_both, only_word, over_some, one_here, one_other}
use Rattle.model.proofs.Crash.Commit.{Ready, ready_view, Owed, Sound, nothing_safe}
use Rattle.model.proofs.Crash.History.{Passed, Duty}
use Rattle.model.proofs.Calls.Room.{HasRoom}
use Rattle.model.proofs.Calls.Actions.{room_passed, all_passed, append_sound, plain_sound, two_sound}
use Rattle.model.proofs.Calls.Still.{still_inode}
use Rattle.model.proofs.Calls.Changed.{After, gone, made, new_file}
use Rattle.model.proofs.Calls.Stored.{prepared_low}
use Rattle.model.proofs.Calls.Small.{Inside, SmallEntries, no_small, cons_small, add_small, remove_small}
use Rattle.model.proofs.Calls.Grown.{few_pages, free_behind, DeadIn}
use Rattle.model.proofs.Calls.Names.{target_here, target_other, target_none, Valid, no_change, one_change, Naming, now, word_now, tail_now, valid_now, valid_set, directory_now, after_now, bytes_now}
use Rattle.model.proofs.Calls.Logs.{Folder, rest_of, OneLog, one_still, one_log, one_folders, one_inside, one_owed, here, TwoLogs, two_logs_on, two_folders, two_inside, two_owed}

-- a name that a file may be given may stand
may_stand : (n : List ℕ) → new_name_ok n ≡ true → name_ok n ≡ true
unfolding new_name_ok
may_stand n h = search ands

module _ (P N : ℕ) (m : Mem) (r : Ready P N m) where
  ok : view_ok m P N ≡ true
  ok = ready_view P N m r

  some_inode : 0 < N
  some_inode = (sizes_whole P N r.sizes).1

  abbrev F : Folders
  F = folders_of m P N

  fine : FoldersFine N (is_valid m) (is_directory m) F
  fine = folders_fine m P N ok

  -- What the checks give.

  -- a folder
  folder_there : (d : ℕ) → none_there m P N d ≡ false → is_directory m d ≡ true → Folder m N d
  unfolding none_there
  folder_there d e c =
      let o = or_false (leb N d) (not (is_valid m d)) e in record { below = leb-false N d o.0; valid = not-false _ o.1; directory = c }

  is_folder_lem : {d : ℕ} → Folder m N d → Is N (is_valid m) (is_directory m) d
  is_folder_lem f = (f.below, f.valid, f.directory)

  -- a name that stands in a folder
  name_there : (d : ℕ) (n : List ℕ) → is_absent m P N d n ≡ false → is_directory m d ≡ true → leads_to m P N d n ≡ 0 → ⊥
  unfolding is_absent stands
  name_there d n e c = let s = rw c at e in eqb-false _ _ (not-true _ (not-false _ s))

  -- where it leads
  child : (d : ℕ) (n : List ℕ) → (leads_to m P N d n ≡ 0 → ⊥)
      → (1 ≤ leads_to m P N d n) × (leads_to m P N d n < N) × (is_valid m (leads_to m P N d n) ≡ true)
  unfolding leads_to
  child d n h = fine.child d (inode_of (F d) n) (leads_to_lem N (is_valid m) (is_directory m) F fine d n h)

  -- what is no valid folder has no names
  none_there_lem : (i : ℕ) → is_valid m i ≡ false → F i ≡ []
  unfolding folders_of
  none_there_lem i e = rw (e, and-false, and-false)

  none_in_file : (i : ℕ) → is_directory m i ≡ false → F i ≡ []
  unfolding folders_of
  none_in_file i e = rw (e, and-false)

  none_beyond : (i : ℕ) → ltb i N ≡ false → F i ≡ []
  unfolding folders_of
  none_beyond i e = rw e

  -- Link.
  module _ (d : ℕ) (a : List ℕ) (e : ℕ) (b : List ℕ) (to : Folder m N e) (small : Bytes b) (nice : name_ok b ≡ true)
      (there : leads_to m P N d a ≡ 0 → ⊥) (file : is_directory m (leads_to m P N d a) ≡ false) (absent : leads_to m P N e b ≡ 0)
      (short : length (F e) < 224)
      (room : HasRoom m P N (entries_only false e (add_words (leads_to m P N d a) b ∷ []))) where
    abbrev i : ℕ
    i = leads_to m P N d a

    abbrev es : List (List ℕ)
    es = add_words i b ∷ []

    small_es : SmallEntries es
    small_es =
        cons_small _ [] (add_small i b (omega (arith, (child d a there).1, (few_pages P N r.sizes).1)) (name_short b nice) small) no_small

    link_log : OneLog P N m e es (prepared m P (free m P N) (entries_only false e es)) []
    link_log =
        one_log P N m r to es (omega arith) room (one_still P N m r to es (omega arith) room)
        (λ w x h. h) no_change (target_none (valid_word e))

    abbrev u : Mem
    u = now link_log.naming

    link_valid : (k : ℕ) → k < N → is_valid u k ≡ is_valid m k
    link_valid k l = rw (valid_now link_log.naming k l (target_none (valid_word k)))

    link_others : (k : ℕ) → k < N → (k ≡ e → ⊥) → After m u P N k
    link_others k l n = after_now link_log.naming k l (ne_eqb k e n) (target_none (valid_word k))

    link_folders : folders_of u P N ≡ with_folder e (with_name b i (F e)) F
    link_folders =
        one_folders link_log link_others
        (λ k v. by_bool (ltb k N) (λ t. none_there_lem k (sym (link_valid k (ltb-true k N t)) ∙ v)) (λ t. none_beyond k t))
        (with_name b i (F e)) (names_added b nice small i (F e))

    link_fine_now : FoldersFine N (is_valid u) (is_directory u) (folders_of u P N)
    unfolding leads_to
    link_fine_now =
        let c = child d a there in
        rw link_folders (fine_same N (is_valid m) (is_directory m) (is_valid u) (is_directory u) _ link_valid
        (λ k l v. directory_now link_log.naming k l v)
        (link_fine N (is_valid m) (is_directory m) F fine e b i c.0 absent (is_folder_lem to) short c.1 c.2 file))

    link_owed : Owed P N (free_behind m P N (entries_only false e es)) (DeadIn P N) m (prepared m P (free m P N) (entries_only false e es))
        (new_tail m P (free m P N) (entries_only false e es) ∷ []) (map_after N (link d a e b) (map_of m P N))
    unfolding leads_to
    link_owed =
        let c = child d a there in
        one_owed link_log link_others (added_ok b nice small N i c.0 c.1) link_fine_now (one_inside link_log small_es) _
        (link_map m u P N d a e b (is_shown m P N e to.below to.valid to.directory) link_folders link_valid
        (λ k l v. directory_now link_log.naming k l v)
        (λ k l f. bytes_now link_log.naming k l (by_bool (is_valid m k)
        (λ v. rw (link_valid k l, directory_now link_log.naming k l v) at f)
        (λ v. clash (is_valid u k) (file_is u k f).1 (link_valid k l ∙ v)))
        (target_none (valid_word k))))

  pub link_done : (d : ℕ) (a : List ℕ) (e : ℕ) (b : List ℕ) → Duty P N m (link d a e b) (link_action m P N d a e b)
  unfolding action_checks action_groups link_action is_full stands entries_only
  link_done d a e b bytes p =
      let h : name_ok a && new_name_ok b ≡ true = not-false _ p.0 in
      let o = or_false (none_there m P N d || none_there m P N e) (is_absent m P N d a) p.1.0 in
      let q = or_false (none_there m P N d) (none_there m P N e) o.0 in
      let w = or_false (not (is_directory m d) || not (is_directory m e)) (is_directory m (leads_to m P N d a)) p.1.1.1.0 in
      let x = or_false (not (is_directory m d)) (not (is_directory m e)) w.0 in
      plain_sound P N m r _ refl [] _
      (link_owed d a e b (folder_there e q.1 (not-false _ x.1)) bytes.1 (may_stand b (search ands))
      (name_there d a o.1 (not-false _ x.0)) w.1
      (eqb-true _ _ (not-false _ p.1.1.0)) (leb-false _ _ p.1.1.1.1.0) (room_passed m P N true _ p.1.1.1.1.1))

  -- A call that may let go of the inode that name n of folder d leads to: it goes with its only name.
  module _ (d : ℕ) (n : List ℕ) where
    abbrev j : ℕ
    j = leads_to m P N d n

    abbrev goes : Bool
    goes = not (eqb j 0) && eqb (name_count N F j) 1

    release_is : release m P N d n ≡ cond goes ((valid_word j, 0) ∷ []) []
    unfolding release stands
    release_is = refl

    goes_there : goes ≡ true → j ≡ 0 → ⊥
    goes_there t = let e : not (eqb j 0) ≡ true = search ands in eqb-false j 0 (not-true _ e)

    release_valid : (k : ℕ) → targets (release m P N d n) (valid_word k) ≡ cond (eqb k j && goes) (some 0) none
    unfolding targets one_word
    release_valid k =
        rw release_is (by_bool goes
        (λ h. rw h (by_eq k j (λ e. rw (eq-eqb k j e, eq-eqb (valid_word k) (valid_word j) (omega arith)))
        (λ e. rw (ne_eqb k j e, ne_eqb (valid_word k) (valid_word j) (omega arith)))))
        (λ h. rw h (by_bool (eqb k j) (λ e. rw e) (λ e. rw e))))

    release_one : Valid N (release m P N d n)
    release_one =
        rw release_is (by_bool goes
        (λ t. let c = child d n (goes_there t) in rw t (one_change j 0 c.0 c.1 (omega arith))) (λ t. rw t no_change))

    release_stays : (k : ℕ) → (goes ≡ true → k ≡ j → ⊥) → targets (release m P N d n) (valid_word k) ≡ none
    release_stays k h =
        release_valid k ∙ by_bool goes (λ t. rw (ne_eqb k j (h t))) (λ t. rw (t, and-false))

    -- the valid inodes after it
    abbrev valid' : ℕ → Bool
    valid' k = cond (eqb k j && goes) false (is_valid m k)

    keeps : (k : ℕ) → (k ≡ j → ⊥) → valid' k ≡ is_valid m k
    keeps k q = rw (ne_eqb k j q)

    more : (name_count N F j ≡ 1 → ⊥) → valid' j ≡ is_valid m j
    more q = rw (ne_eqb _ 1 q, and-false, and-false)

    clears : name_count N F j ≡ 1 → valid' j ≡ false
    clears q =
        by_eq j 0
        (λ z. let o = no_zero N (is_valid m) (is_directory m) F fine in let y = ap (name_count N F) z in absurd (omega arith))
        (λ z. rw (eq-eqb j j refl, ne_eqb j 0 z, eq-eqb _ 1 q))

    was_valid : (k : ℕ) → valid' k ≡ true → is_valid m k ≡ true
    was_valid k h = by_bool (eqb k j && goes) (λ t. no (rw t at h)) (λ t. rw t at h)

    module _ {on : ℕ → Bool} {f : ℕ → ℕ → Bool} {gs : ℕ → List (List ℕ)} {s : Stores} {ts : List Change}
        (c : Naming P N m on f gs s ts (release m P N d n)) where
      gone_now : (k : ℕ) → eqb k j && goes ≡ true → now c (valid_word k) ≡ 0
      gone_now k t = valid_set c k 0 (release_valid k ∙ rw t)

      stays_now : (k : ℕ) → eqb k j && goes ≡ false → targets (release m P N d n) (valid_word k) ≡ none
      stays_now k t = release_valid k ∙ rw t

      released : (k : ℕ) → k < N → is_valid (now c) k ≡ valid' k
      released k l =
          by_bool (eqb k j && goes) (λ t. rw (t, gone_now k t)) (λ t. rw (t, valid_now c k l (stays_now k t)))

      released_after : (k : ℕ) → k < N → on k ≡ false → After m (now c) P N k
      released_after k l o =
          by_bool (eqb k j && goes)
          (λ t.
          let q : eqb k j ≡ true = search ands in
          let g : goes ≡ true = search ands in
          gone (λ z. goes_there g (sym (eqb-true k j q) ∙ z)) (gone_now k t))
          (λ t. after_now c k l o (stays_now k t))

      released_directory : (k : ℕ) → k < N → is_valid m k ≡ true → is_directory (now c) k ≡ is_directory m k
      released_directory k l v = directory_now c k l v

      released_bytes : (k : ℕ) → k < N → is_file (now c) k ≡ true → SameBytes m (now c) P N k
      released_bytes k l h =
          let v = sym (released k l) ∙ (file_is (now c) k h).1 in
          by_bool (eqb k j && goes) (λ t. no (rw t at v))
          (λ t.
          let w = was_valid k v in
          bytes_now c k l (rw (released k l, t, directory_now c k l w) at h) (stays_now k t))

      -- what is no valid folder after it has no names before it
      released_empty : (goes ≡ true → F j ≡ []) → (i : ℕ) → is_valid (now c) i ≡ false → F i ≡ []
      released_empty h i v =
          by_bool (ltb i N)
          (λ t.
          let w = sym (released i (ltb-true i N t)) ∙ v in
          by_bool (eqb i j && goes)
          (λ y. let q : eqb i j ≡ true = search ands in let g : goes ≡ true = search ands in rw (eqb-true i j q) (h g))
          (λ y. none_there_lem i (rw y at w)))
          (λ t. none_beyond i t)

      released_fine : (G : Folders) → FoldersFine N valid' (is_directory m) G → FoldersFine N (is_valid (now c)) (is_directory (now c)) G
      released_fine G g =
          fine_same N valid' (is_directory m) (is_valid (now c)) (is_directory (now c)) G released
          (λ k l v. directory_now c k l (was_valid k v)) g

  -- Unlink.
  module _ (d : ℕ) (n : List ℕ) (is : Folder m N d) (small : Bytes n) (nice : name_ok n ≡ true) (there : leads_to m P N d n ≡ 0 → ⊥)
      (empty : F (leads_to m P N d n) ≡ []) (room : HasRoom m P N (entries_only false d (remove_words n ∷ []))) where
    abbrev gone_name : List (List ℕ)
    gone_name = remove_words n ∷ []

    -- the folder has a name, and the inode that goes has none
    not_itself : d ≡ leads_to m P N d n → ⊥
    unfolding leads_to count
    not_itself q =
        let h = leads_to_lem N (is_valid m) (is_directory m) F fine d n there in
        let z : F d ≡ [] = ap F q ∙ empty in
        let y : 1 ≤ count (inode_of (F d) n) (inodes []) = rw z at h in omega arith

    unlink_log : OneLog P N m d gone_name (prepared m P (free m P N) (entries_only false d gone_name)) (release m P N d n)
    unlink_log =
        one_log P N m r is gone_name (omega arith) room (one_still P N m r is gone_name (omega arith) room) (λ w x h. h)
        (release_one d n) (release_stays d n d (λ t. not_itself))

    abbrev after : Mem
    after = now unlink_log.naming

    unlink_others : (k : ℕ) → k < N → (k ≡ d → ⊥) → After m after P N k
    unlink_others k l q = released_after d n unlink_log.naming k l (ne_eqb k d q)

    unlink_folders : folders_of after P N ≡ with_folder d (without n (F d)) F
    unlink_folders =
        one_folders unlink_log unlink_others (released_empty d n unlink_log.naming (λ t. empty)) (without n (F d))
        (names_removed n nice small (F d))

    holds_none : (x : ℕ) → holds F (leads_to m P N d n) x ≡ 0
    unfolding count
    holds_none x = rw empty

    unlink_fine_now : FoldersFine N (is_valid after) (is_directory after) (folders_of after P N)
    unfolding leads_to
    unlink_fine_now =
        rw unlink_folders (released_fine d n unlink_log.naming _
        (unlink_fine N (is_valid m) (is_directory m) F fine (leads_to m P N d n) (valid' d n) (keeps d n) (more d n) (clears d n) d n
        (is_folder_lem is) refl there holds_none))

    one_less_name : name_count N (with_folder d (without n (F d)) F) (leads_to m P N d n) + 1 ≡ name_count N F (leads_to m P N d n)
    unfolding leads_to
    one_less_name =
        let i = leads_to m P N d n in
        let c = removed_count N (is_valid m) (is_directory m) F fine i (valid' d n) (keeps d n) (more d n) (clears d n) d n
        (is_folder_lem is) refl there holds_none i
        (child d n there).0 in
        let b = bit_same i i refl in omega arith

    unlink_owed : Owed P N (free_behind m P N (entries_only false d gone_name)) (DeadIn P N) m
        (prepared m P (free m P N) (entries_only false d gone_name))
        (new_tail m P (free m P N) (entries_only false d gone_name) ∷ release m P N d n) (map_after N (unlink d n) (map_of m P N))
    unfolding leads_to
    unlink_owed =
        one_owed unlink_log unlink_others (removed_ok n nice small N) unlink_fine_now
        (one_inside unlink_log (cons_small _ [] (remove_small n (name_short n nice) small) no_small)) _
        (unlink_map m after P N d n (is_shown m P N d is.below is.valid is.directory) unlink_folders (λ z. one_less_name)
        (released d n unlink_log.naming) (released_directory d n unlink_log.naming) (released_bytes d n unlink_log.naming))

  pub unlink_done : (d : ℕ) (n : List ℕ) → Duty P N m (unlink d n) (unlink_action m P N d n)
  unfolding action_checks action_groups unlink_action entries_only
  unlink_done d n bytes p =
      let o = or_false (none_there m P N d) (is_absent m P N d n) p.1.0 in
      let c = not-false _ p.1.1.0 in
      let e = ltb-false 0 (length (F (leads_to m P N d n))) p.1.1.1.0 in
      plain_sound P N m r _ refl (release m P N d n) _
      (unlink_owed d n (folder_there d o.0 c) bytes (not-false _ p.0) (name_there d n o.1 c)
      (no_length (F (leads_to m P N d n)) (omega arith))
      (room_passed m P N false _ p.1.1.1.1))

  -- Rename and move: name a of folder d becomes name b of folder e.
  module _ (d : ℕ) (a : List ℕ) (e : ℕ) (b : List ℕ) (from : Folder m N d) (to : Folder m N e) (small-a : Bytes a) (small_b : Bytes b)
      (nice-a : name_ok a ≡ true) (nice-b : name_ok b ≡ true) (there : leads_to m P N d a ≡ 0 → ⊥)
      (other : leads_to m P N d a ≡ leads_to m P N e b → ⊥)
      (files : (leads_to m P N e b ≡ 0 → ⊥) → (is_directory m (leads_to m P N d a) ≡ false) × (is_directory m (leads_to m P N e b) ≡ false))
      (beside : is_directory m (leads_to m P N d a) ≡ true → is_beneath N F (leads_to m P N d a) e ≡ false)
      (roomy : (d ≡ e → ⊥) → leads_to m P N e b ≡ 0 → length (F e) < 224) where
    abbrev it : ℕ
    it = leads_to m P N d a

    abbrev taken_out : Folders
    taken_out = with_folder d (without a (F d)) F

    abbrev moved_in : Folders
    moved_in = with_folder e (with_name b it (taken_out e)) taken_out

    -- the inode that goes is a file
    goes_file : goes e b ≡ true → is_directory m (leads_to m P N e b) ≡ false
    goes_file t = (files (goes_there e b t)).1

    folder_stays : {k : ℕ} → Folder m N k → targets (release m P N e b) (valid_word k) ≡ none
    folder_stays {k} f = release_stays e b k (λ t q. clash (is_directory m k) f.directory (rw q (goes_file t)))

    -- what the names after it come to
    module _ {on : ℕ → Bool} {f : ℕ → ℕ → Bool} {gs : ℕ → List (List ℕ)} {s : Stores} {ts : List Change}
        (c : Naming P N m on f gs s ts (release m P N e b)) (folders : folders_of (now c) P N ≡ moved_in) where
      rename_fine_now : FoldersFine N (is_valid (now c)) (is_directory (now c)) (folders_of (now c) P N)
      unfolding leads_to
      rename_fine_now =
          rw folders (released_fine e b c _
          (rename_fine N (is_valid m) (is_directory m) F fine (leads_to m P N e b) (valid' e b) (keeps e b) (more e b) (clears e b) d a e b it
          (is_folder_lem from) (is_folder_lem to) refl refl there other files beside roomy))

      rename_map_now : map_of (now c) P N ≡ map_after N (rename d a e b) (map_of m P N)
      unfolding leads_to
      rename_map_now =
          rename_map m (now c) P N d a e b (is_shown m P N d from.below from.valid from.directory)
          (is_shown m P N e to.below to.valid to.directory) other folders
          (λ z.
          let k = leads_to m P N e b in
          let x = moved_count N (is_valid m) (is_directory m) F fine k (valid' e b) (keeps e b) (more e b) (clears e b) d a e b it
          (is_folder_lem from) (is_folder_lem to) refl refl there other files beside roomy k (child e b z).0 in
          let y = bit_same k k refl in omega arith)
          (released e b c) (released_directory e b c) (released_bytes e b c)

    small_remove : SmallEntries (remove_words a ∷ [])
    small_remove = cons_small _ [] (remove_small a (name_short a nice-a) small-a) no_small

    small_add : SmallEntries (add_words it b ∷ [])
    small_add =
        cons_small _ []
        (add_small it b (omega (arith, (child d a there).1, (few_pages P N r.sizes).1)) (name_short b nice-b) small_b) no_small

    -- in one folder
    module _ (same : d ≡ e) (room : HasRoom m P N (entries_only false d (remove_words a ∷ add_words it b ∷ []))) where
      abbrev swaps : List (List ℕ)
      swaps = remove_words a ∷ add_words it b ∷ []

      rename_log : OneLog P N m d swaps (prepared m P (free m P N) (entries_only false d swaps)) (release m P N e b)
      rename_log =
          one_log P N m r from swaps (omega arith) room (one_still P N m r from swaps (omega arith) room)
          (λ w x h. h) (release_one e b) (folder_stays from)

      abbrev renamed : Mem
      renamed = now rename_log.naming

      rename_others : (k : ℕ) → k < N → (k ≡ d → ⊥) → After m renamed P N k
      rename_others k l q = released_after e b rename_log.naming k l (ne_eqb k d q)

      rename_folders : folders_of renamed P N ≡ moved_in
      unfolding with_folder
      rename_folders =
          one_folders rename_log rename_others (released_empty e b rename_log.naming (λ t. none_in_file _ (goes_file t)))
          (with_name b it (without a (F d)))
          (names_moved a b nice-a small-a nice-b small_b it (F d))
          ∙ fun_ext (λ k. by_eq k d (λ q. rw (eq-eqb k d q, eq-eqb k e (q ∙ same), eq-eqb e d (sym same)))
          (λ q. rw (ne_eqb k d q, ne_eqb k e (λ z. q (z ∙ sym same)))))

      rename_owed : Owed P N (free_behind m P N (entries_only false d swaps)) (DeadIn P N) m
          (prepared m P (free m P N) (entries_only false d swaps))
          (new_tail m P (free m P N) (entries_only false d swaps) ∷ release m P N e b) (map_after N (rename d a e b) (map_of m P N))
      rename_owed =
          let c = child d a there in
          one_owed rename_log rename_others (moved_ok a b nice-a small-a nice-b small_b it N c.0 c.1)
          (rename_fine_now rename_log.naming rename_folders)
          (one_inside rename_log (cons_small (remove_words a) (add_words it b ∷ []) (small_remove 0) small_add)) _
          (rename_map_now rename_log.naming rename_folders)

    -- between two
    module _ (apart : d ≡ e → ⊥)
        (room : all_needed m P (free m P N) (entries_only false d (remove_words a ∷ []) ∷ entries_only false e (add_words it b ∷ [])
        ∷ []) ≤ free_count m P N) where
      abbrev removes : List (List ℕ)
      removes = remove_words a ∷ []

      abbrev adds : List (List ℕ)
      adds = add_words it b ∷ []

      abbrev left : ℕ → Bool
      left = rest_of m P N d removes

      move_log : TwoLogs P N m d e removes adds
          (both (prepared m P (free m P N) (entries_only false d removes)) (prepared m P left (entries_only false e adds)))
          (release m P N e b)
      move_log =
          two_logs_on P N m r from to apart removes adds (omega arith) (omega arith) room (release_one e b) (folder_stays from)
          (folder_stays to)

      abbrev beyond : Mem
      beyond = now move_log.naming

      move_others : (k : ℕ) → k < N → (k ≡ d → ⊥) → (k ≡ e → ⊥) → After m beyond P N k
      move_others k l p q = released_after e b move_log.naming k l (rw (ne_eqb k d p, ne_eqb k e q))

      move_folders : folders_of beyond P N ≡ moved_in
      move_folders =
          two_folders move_log move_others (released_empty e b move_log.naming (λ t. none_in_file _ (goes_file t))) (without a (F d))
          (with_name b it (F e))
          (names_removed a nice-a small-a (F d)) (names_added b nice-b small_b it (F e))
          ∙ ap (λ ns. with_folder e (with_name b it ns) taken_out) (sym (with_other N F d (without a (F d)) e (λ q. apart (sym q))))

      move_owed : Owed P N (free_count m P N - all_needed m P (free m P N) (entries_only false d removes ∷ entries_only false e adds ∷ []))
          (DeadIn P N) m
          (both (prepared m P (free m P N) (entries_only false d removes)) (prepared m P left (entries_only false e adds)))
          (new_tail m P (free m P N) (entries_only false d removes) ∷ new_tail m P left (entries_only false e adds) ∷ release m P N e b)
          (map_after N (rename d a e b) (map_of m P N))
      move_owed =
          let c = child d a there in
          two_owed move_log move_others (removed_ok a nice-a small-a N) (added_ok b nice-b small_b N it c.0 c.1)
          (rename_fine_now move_log.naming move_folders) (two_inside move_log small_remove small_add) _
          (rename_map_now move_log.naming move_folders)

  same_leads : (d : ℕ) (a : List ℕ) (e : ℕ) (b : List ℕ) → eqb (leads_to m P N d a) (leads_to m P N e b) ≡ true
      → map_after N (rename d a e b) (map_of m P N) ≡ map_of m P N
  unfolding leads_to
  same_leads d a e b t = rename_same m P N d a e b (eqb-true _ _ t)

  goes_on : (k : ℕ) (es : List (List ℕ)) → (entries_only false k es).anew ≡ false
  unfolding entries_only
  goes_on k es = refl

  stands_there : (e : ℕ) (b : List ℕ) → (leads_to m P N e b ≡ 0 → ⊥) → stands m P N e b ≡ true
  unfolding stands
  stands_there e b z = rw (ne_eqb _ 0 z)

  -- what the checks give of a rename that changes something
  module _ (d : ℕ) (a : List ℕ) (e : ℕ) (b : List ℕ)
      (p : Passed ((
        not (is_directory m d) || not (is_directory m e)
            || (stands m P N e b && (is_directory m (leads_to m P N d a) || is_directory m (leads_to m P N e b))),
        wrong_type,
      )
      ∷ (is_directory m (leads_to m P N d a) && is_beneath N F (leads_to m P N d a) e, into_itself)
      ∷ (not (eqb d e) && not (stands m P N e b) && is_full m P N e, directory_full)
      ∷ space_checks m P N false (rename_appends m P N d a e b))) where
    types : ((is_directory m d ≡ true) × (is_directory m e ≡ true))
        × ((leads_to m P N e b ≡ 0 → ⊥) → (is_directory m (leads_to m P N d a) ≡ false) × (is_directory m (leads_to m P N e b) ≡ false))
    types =
        let w = or_false (not (is_directory m d) || not (is_directory m e)) _ p.0 in
        let x = or_false (not (is_directory m d)) (not (is_directory m e)) w.0 in (
          (not-false _ x.0, not-false _ x.1),
          λ z. or_false (is_directory m (leads_to m P N d a)) (is_directory m (leads_to m P N e b)) (rw (stands_there e b z) at w.1),
        )

    not_beneath : is_directory m (leads_to m P N d a) ≡ true → is_beneath N F (leads_to m P N d a) e ≡ false
    not_beneath t = rw t at p.1.0

    not_full : (d ≡ e → ⊥) → leads_to m P N e b ≡ 0 → length (F e) < 224
    unfolding stands is_full
    not_full n z = leb-false _ _ (rw (ne_eqb d e n, eq-eqb _ 0 z) at p.1.1.0)

    abbrev entry : List ℕ
    entry = add_words (leads_to m P N d a) b

    module _ (bytes : Bytes a × Bytes b) (nice-a : name_ok a ≡ true) (nice-b : name_ok b ≡ true) (in-d : none_there m P N d ≡ false)
        (in_e : none_there m P N e ≡ false)
        (present : is_absent m P N d a ≡ false) (apart : is_directory m d && is_directory m e && eqb (leads_to m P N d a) (leads_to m P N e b)
        ≡ false) where
      source : Folder m N d
      source = folder_there d in-d types.0.0

      target : Folder m N e
      target = folder_there e in_e types.0.1

      leads_there : leads_to m P N d a ≡ 0 → ⊥
      leads_there = name_there d a present types.0.0

      leads_apart : leads_to m P N d a ≡ leads_to m P N e b → ⊥
      leads_apart = eqb-false _ _ (rw (types.0.0, types.0.1) at apart)

      abbrev s : Stores
      s = both (all_prepared m P (free m P N) (rename_appends m P N d a e b)) no_words

      changes_done : Sound P N (free_count m P N - all_needed m P (free m P N) (rename_appends m P N d a e b)) m
          (commit m s (all_changes m P (free m P N) (rename_appends m P N d a e b) ++ release m P N e b))
          (map_after N (rename d a e b) (map_of m P N))
      unfolding rename_appends
      changes_done =
          by_eq d e
          (λ q.
          let space : Passed (space_checks m P N false (entries_only false d (remove_words a ∷ entry ∷ []) ∷ [])) =
          rw (eq-eqb d e q) at p.1.1.1 in
          rw (eq-eqb d e q)
          (plain_sound P N m r (entries_only false d (remove_words a ∷ entry ∷ [])) (goes_on d (remove_words a ∷ entry ∷ []))
          (release m P N e b) _
          (rename_owed d a e b source target bytes.0 bytes.1 nice-a nice-b leads_there leads_apart types.1 not_beneath not_full q
          (room_passed m P N false _ space))))
          (λ q.
          let space : Passed (space_checks m P N false (entries_only false d (remove_words a ∷ []) ∷ entries_only false e (entry ∷ []) ∷ [])) =
          rw (ne_eqb d e q) at p.1.1.1 in
          rw (ne_eqb d e q) (two_sound P N m r (entries_only false d (remove_words a ∷ [])) (entries_only false e (entry ∷ []))
          (goes_on d (remove_words a ∷ [])) (goes_on e (entry ∷ [])) (release m P N e b) _
          (move_owed d a e b source target bytes.0 bytes.1 nice-a nice-b leads_there leads_apart types.1 not_beneath not_full q
          (all_passed m P N false _ space))))

  pub rename_done : (d : ℕ) (a : List ℕ) (e : ℕ) (b : List ℕ) → Duty P N m (rename d a e b) (rename_action m P N d a e b)
  unfolding action_checks action_groups rename_action same_inode
  rename_done d a e b bytes p =
      let h : name_ok a && new_name_ok b ≡ true = not-false _ p.0 in
      let o = or_false (none_there m P N d || none_there m P N e) (is_absent m P N d a) p.1.0 in
      let q = or_false (none_there m P N d) (none_there m P N e) o.0 in
      by_bool (is_directory m d && is_directory m e && eqb (leads_to m P N d a) (leads_to m P N e b))
      (λ t.
      let i : eqb (leads_to m P N d a) (leads_to m P N e b) ≡ true = search ands in
      rw t (nothing_safe P N _ m _ r (omega arith) (sym (same_leads d a e b i))))
      (λ t. rw t (changes_done d a e b (rw t at p.1.1) bytes (search ands) (may_stand b (search ands)) q.0 q.1 o.1 t))

  -- Create: inode i of type t.
  module _ (t : ℕ) (kind : t ≤ 1) (d : ℕ) (n : List ℕ) (is : Folder m N d) (small : Bytes n) (nice : name_ok n ≡ true) (new : ℕ)
      (found : invalid_inode m P N ≡ some new) (absent : leads_to m P N d n ≡ 0) (short : length (F d) < 224)
      (room : HasRoom m P N (entries_only false d (add_words new n ∷ []))) where
    free_inode : (is_valid m new ≡ false) × (1 ≤ new) × (new < N)
    free_inode = create_inode m P N new found

    abbrev first_name : List (List ℕ)
    first_name = add_words new n ∷ []

    abbrev emptied : Stores
    emptied = both (one_word (head_word new) 0) (both (one_word (tail_word new) 0) (one_word (type_word new) t))

    not_parent : d ≡ new → ⊥
    not_parent q = clash (is_valid m d) is.valid (rw q free_inode.0)

    other_valid : (k : ℕ) → (k ≡ new → ⊥) → targets ((valid_word new, 1) ∷ []) (valid_word k) ≡ none
    other_valid k q = target_other (valid_word new, 1) [] (valid_word k) (omega arith) ∙ target_none (valid_word k)

    create_log : OneLog P N m d first_name (both (prepared m P (free m P N) (entries_only false d first_name)) emptied)
        ((valid_word new, 1) ∷ [])
    unfolding both
    create_log =
        let i = free_inode in
        one_log P N m r is first_name (omega arith) room
        (only_both (one_still P N m r is first_name (omega arith) room) (still_inode m P N new 0 0 t i.2 i.0)) (λ w x h. rw h)
        (one_change new 1 i.1 i.2 (omega arith)) (other_valid d not_parent)

    abbrev made_now : Mem
    made_now = now create_log.naming

    -- nothing else is stored in the words of the new inode
    no_entry_lem : (w : ℕ) → w < 64 + 8 * N → (w ≡ head_word d → ⊥) → prepared m P (free m P N) (entries_only false d first_name) w ≡ none
    unfolding entries_only
    no_entry_lem w l q = prepared_low (here create_log) w l q

    new_tail_lem : made_now (tail_word new) ≡ 0
    unfolding both
    new_tail_lem =
        let i = free_inode in
        tail_now create_log.naming new (ne_eqb new d (λ q. not_parent (sym q)))
        ∙ over_some _ m (tail_word new) 0
        (rw (
          no_entry_lem (tail_word new) (omega arith) (omega arith),
          one_other (head_word new) 0 (tail_word new) (omega arith),
          one_here (tail_word new) 0,
        ))

    new_type : made_now (type_word new) ≡ t
    unfolding both
    new_type =
        let i = free_inode in
        word_now create_log.naming (type_word new) (omega arith) (omega arith)
        ∙ over_some _ m (type_word new) t
        (rw (
          no_entry_lem (type_word new) (omega arith) (omega arith),
          one_other (head_word new) 0 (type_word new) (omega arith),
          one_other (tail_word new) 0 (type_word new) (omega arith),
          one_here (type_word new) t,
        ))

    new_valid : made_now (valid_word new) ≡ 1
    new_valid = valid_set create_log.naming new 1 (target_here (valid_word new, 1) [])

    new_directory : is_directory made_now new ≡ eqb t 1
    new_directory = rw (ne_eqb new 0 (omega (arith, free_inode.1)), new_type)

    create_valid : (k : ℕ) → k < N → (k ≡ new → ⊥) → is_valid made_now k ≡ is_valid m k
    create_valid k l q = rw (valid_now create_log.naming k l (other_valid k q))

    create_others : (k : ℕ) → k < N → (k ≡ d → ⊥) → After m made_now P N k
    create_others k l q =
        let i = free_inode in
        by_eq k new (λ z. rw z (made i.0 (λ y. omega (arith, i.1)) new_valid new_tail_lem (rw new_type kind)))
        (λ z. after_now create_log.naming k l (ne_eqb k d q) (other_valid k z))

    create_folders : folders_of made_now P N ≡ with_folder d (with_name n new (F d)) F
    create_folders =
        one_folders create_log create_others
        (λ k v. by_eq k new (λ z. none_there_lem k (rw z free_inode.0))
        (λ z. by_bool (ltb k N) (λ y. none_there_lem k (sym (create_valid k (ltb-true k N y) z) ∙ v)) (λ y. none_beyond k y)))
        (with_name n new (F d)) (names_added n nice small new (F d))

    -- the valid inodes and the types after it
    abbrev valid_then : ℕ → Bool
    valid_then k = cond (eqb k new) true (is_valid m k)

    abbrev directory_then : ℕ → Bool
    directory_then k = cond (eqb k new) (eqb t 1) (is_directory m k)

    create_fine_now : FoldersFine N (is_valid made_now) (is_directory made_now) (folders_of made_now P N)
    unfolding leads_to
    create_fine_now =
        let i = free_inode in
        rw create_folders (fine_same N valid_then directory_then (is_valid made_now) (is_directory made_now) _
        (λ k l. by_eq k new (λ z. rw (eq-eqb k new z, z, new_valid)) (λ z. rw (ne_eqb k new z) (create_valid k l z)))
        (λ k l v. by_eq k new (λ z. rw (eq-eqb k new z, z) new_directory)
        (λ z. rw (ne_eqb k new z) (directory_now create_log.naming k l (rw (ne_eqb k new z) at v))))
        (create_fine N (is_valid m) (is_directory m) F fine d n new i.1 absent (is_folder_lem is) short i.2 valid_then directory_then i.0
        (rw (eq-eqb new new refl)) (λ k z. rw (ne_eqb k new z)) (λ k z. rw (ne_eqb k new z))))

    create_bytes : (k : ℕ) → k < N → (k ≡ new → ⊥) → is_file made_now k ≡ true → SameBytes m made_now P N k
    create_bytes k l q f =
        let w = sym (create_valid k l q) ∙ (file_is made_now k f).1 in
        bytes_now create_log.naming k l (rw (create_valid k l q, directory_now create_log.naming k l w) at f) (other_valid k q)

    create_owed : (M : FileMap) → map_of made_now P N ≡ M → Owed P N (free_behind m P N (entries_only false d first_name)) (DeadIn P N) m
        (both (prepared m P (free m P N) (entries_only false d first_name)) emptied)
        (new_tail m P (free m P N) (entries_only false d first_name) ∷ (valid_word new, 1) ∷ []) M
    create_owed M e =
        let i = free_inode in
        let b = few_pages P N r.sizes in
        let z = sizes_whole P N r.sizes in
        one_owed create_log create_others (added_ok n nice small N new i.1 i.2) create_fine_now
        (only_both (one_inside create_log (cons_small _ [] (add_small new n (omega arith) (name_short n nice) small) no_small))
        (only_both (only_word (Inside P) (head_word new) 0 (omega arith, omega arith))
        (only_both (only_word (Inside P) (tail_word new) 0 (omega arith, omega arith))
        (only_word (Inside P) (type_word new) t (omega arith, omega arith))))) M e

    file_map_now : t ≡ 0 → map_of made_now P N ≡ map_after N (create d n) (map_of m P N)
    file_map_now q =
        create_map m made_now P N new found d n (is_shown m P N d is.below is.valid is.directory) create_folders
        (rw new_valid) create_valid
        (λ k l v. directory_now create_log.naming k l v) create_bytes (rw (new_directory, q)) (new_file made_now P N new new_tail_lem)

    folder_map_now : t ≡ 1 → map_of made_now P N ≡ map_after N (create_folder d n) (map_of m P N)
    folder_map_now q =
        create_folder_map m made_now P N new found d n (is_shown m P N d is.below is.valid is.directory) create_folders
        (rw new_valid) create_valid
        (λ k l v. directory_now create_log.naming k l v) create_bytes (rw (new_directory, q))

  -- what the checks give of a create
  module _ (t : ℕ) (d : ℕ) (n : List ℕ) (bytes : Bytes n) (p : Passed (action_checks m P N (create_action m P N t d n))) where
    create_passed : {X : Type 0}
        → ((new : ℕ) → invalid_inode m P N ≡ some new → Folder m N d → name_ok n ≡ true → leads_to m P N d n ≡ 0 → length (F d) < 224
        → HasRoom m P N (entries_only false d (add_words new n ∷ [])) → X) → X
    unfolding action_checks create_action stands is_full
    create_passed f =
        let i = some_is (invalid_inode m P N) (not-false _ p.1.1.1.1.0) in
        f i.0 i.1 (folder_there d p.1.0 (not-false _ p.1.1.1.0)) (may_stand n (not-false _ p.0))
        (eqb-true _ _ (not-false _ p.1.1.0)) (leb-false _ _ p.1.1.1.1.1.0)
        (room_passed m P N true _ (rw i.1 at p.1.1.1.1.1.1))

  pub create_done : (d : ℕ) (n : List ℕ) → Duty P N m (create d n) (create_action m P N 0 d n)
  unfolding action_groups create_action
  create_done d n bytes p =
      create_passed 0 d n bytes p (λ new found is nice absent short room.
      rw found (append_sound P N m r (entries_only false d (add_words new n ∷ [])) (goes_on d (add_words new n ∷ []))
      ((valid_word new, 1) ∷ []) _ _
      (create_owed 0 (omega arith) d n is bytes nice new found absent short room _
      (file_map_now 0 (omega arith) d n is bytes nice new found absent short room refl))))

  pub create_folder_done : (d : ℕ) (n : List ℕ) → Duty P N m (create_folder d n) (create_action m P N 1 d n)
  unfolding action_groups create_action
  create_folder_done d n bytes p =
      create_passed 1 d n bytes p (λ new found is nice absent short room.
      rw found (append_sound P N m r (entries_only false d (add_words new n ∷ [])) (goes_on d (add_words new n ∷ []))
      ((valid_word new, 1) ∷ []) _ _
      (create_owed 1 (omega arith) d n is bytes nice new found absent short room _
      (folder_map_now 1 (omega arith) d n is bytes nice new found absent short room refl))))
