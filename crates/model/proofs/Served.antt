-- Of an accepted volume with its journal closed a call's checks, one by one, are what its file map and its free pages say.
use Rattle.model.proofs.Prelude.{ℕ, ◌+◌, ◌-◌, ◌≤◌, ◌<◌, ◌≡◌, refl, sym, ◌∙◌, ap, Bool, true, false, cond, not, ◌&&◌, ◌||◌, and-true, and-false, or-true, List, [], ◌∷◌, Option, none, some, arith, zero-add, add-zero, length, length-append, length-map, get_or, eqb, leb, ltb, lt-ltb, le-ltb, le-leb, lt-leb, eq-eqb, ne_eqb, eqb-false, leb-false, not-true, not-false}
use Rattle.model.specs.Lists.{bit, has, is_some, or_else}
use Rattle.model.specs.Words.{Mem, word}
use Rattle.model.specs.Layout.{root, tail_word, type_word, is_directory, file_bytes, write_bytes, list_words}
use Rattle.model.specs.Journal.{is_open, view}
use Rattle.model.specs.Entry.{name_ok, new_name_ok, add_words, remove_words}
use Rattle.model.specs.State.{file_of, names_of, inode_of}
use Rattle.model.specs.Tree.{is_beneath}
use Rattle.model.specs.Accept.{is_valid, is_file, folders_of, free, free_count, view_ok, accepted}
use Rattle.model.specs.FileMap.{FileMap, map_of, names_in, bytes_in, new_inode, Call, create, create_folder, link, unlink, rename, write, set_size, clean, recover}
use Rattle.model.specs.Answer.{done, Checks, first_refusal, map_answer, wrong_type, into_itself, directory_full}
use Rattle.model.specs.Calls.{lowest_pages, pages_for, tail_pages, stretch_entries, invalid_inode, create_action, link_action, unlink_action, rename_action, write_action, size_action, clean_action, recover_action, none_there, leads_to, stands, is_absent, is_full, same_inode, rename_appends, file_checks, write_append, size_append, cuts_page, clean_entries, Append, entries_only, data_pages, appended, fresh_pages, pages_needed, pages_left, all_needed, room_checks, space_checks, action_checks, action, checks, pages_covered}
use Rattle.model.specs.Public.{is_volume, is_accepted, volume_checks, needs_closed, call_checks, fills, call_answer}
use Rattle.model.specs.Claim.{map_in}
use Rattle.model.specs.Promises.{is_served, every, named_in, folder_in, full_in, may_move, stretch_count, free_pages, writes_for, log_pages_for, pages_taken, has_space, leaves_page, has_move_space, copied, pages_anew, CallsServed, Removes, RemovingServed}
use Rattle.model.proofs.Tests.{by_bool, by_eq, by_lt, ands, or_false, no, bit_le, not_not}
use Rattle.model.proofs.Lists.{has_head}
use Rattle.model.proofs.Crash.Journal.{closed_view}
use Rattle.model.proofs.Crash.Landing.{volume_parts, sizes_parts}
use Rattle.model.proofs.State.Maps.{names_before, create_inode, new_inode_lem}
use Rattle.model.proofs.State.Folders.{FoldersFine, leads_to_lem}
use Rattle.model.proofs.State.FoldersOk.{folders_fine}
use Rattle.model.proofs.Frame.View.{log_ok_lem, root_valid}
use Rattle.model.proofs.State.NameEntries.{names_good, standing_ok}
use Rattle.model.proofs.State.Bytes.{length_bytes}
use Rattle.model.proofs.Calls.DataPages.{search_start, pages_from, pages_hold, pages_enough, Ascends, few_ascend, stretch_count_lem}
use Rattle.model.proofs.Calls.Room.{free_bounds}
use Rattle.model.proofs.Calls.Stored.{fresh_on}
use Rattle.model.proofs.Calls.Actions.{one_needed, only_entries, anew_needed}

-- A call is served where none of its checks holds.
abbrev passing : Checks → List Bool
passing [] = []
passing (t ∷ ts) = not t.0 ∷ passing ts

served_is : {A B : Type 0} (f : A → B) (ts : Checks) (x : A) → is_served (map_answer f (first_refusal ts (done x))) ≡ every (passing ts)
served_is f [] x = refl
served_is f (t ∷ ts) x = by_bool t.0 (λ e. rw e) (λ e. rw e (served_is f ts x))

not_ltb : (a b : ℕ) → not (ltb a b) ≡ leb b a
not_ltb a b = by_lt a b (λ h. rw (lt-ltb a b h, lt-leb b a h)) (λ h. rw (le-ltb a b h, le-leb b a h))

by_option : {X : Type 0} (o : Option ℕ) → (o ≡ none → X) → ((p : ℕ) → o ≡ some p → X) → X
by_option none f g = f refl
by_option (some p) f g = g p refl

-- pages that ascend ascend from 1 on where page 0 is none of them
ascends_some : (p : ℕ) (ps : List ℕ) → Ascends p ps → ((x : ℕ) → has x ps ≡ true → 1 ≤ x) → Ascends 1 ps
ascends_some p [] h g = tt
ascends_some p (x ∷ xs) h g = (g x (has_head x xs), h.1)

-- at most one page has a stretch for itself
one_count : (ps : List ℕ) (n : ℕ) → length ps ≡ n → n ≤ 1 → stretch_count ps ≡ n
unfolding stretch_count has bit
one_count [] n e l = e
one_count (p ∷ []) n e l = e
one_count (p ∷ q ∷ ps) n e l = absurd (omega arith)

module _ (v : List ℕ) (a : is_accepted v ≡ true) (o : is_open (word v) ≡ false) where
  abbrev u : Mem
  u = word v

  abbrev P : ℕ
  P = word v 0

  abbrev N : ℕ
  N = word v 1

  abbrev f : ℕ → Bool
  f = free u P N

  same_view : view u ≡ u
  same_view = closed_view u o

  fine : view_ok u P N ≡ true
  unfolding is_accepted accepted
  fine = let ok : view_ok (view u) P N ≡ true = search ands in rw same_view at ok

  sizes : (0 < P) × (8 ≤ N)
  unfolding is_accepted
  sizes =
      let w : is_volume (length v) u ≡ true = search ands in
      let s = sizes_parts P N (volume_parts (length v) u w).sizes in (omega (arith, s.whole, s.room, s.some_inodes), s.some_inodes)

  bound : (p : ℕ) → f p ≡ true → p < P
  bound p h = (free_bounds u P N p h).1

  -- Room, of a call that takes the last free page and of one that keeps it
  room_is : (t : ℕ) → every (passing (room_checks false (free_pages v) t)) ≡ every (leb t (free_pages v) ∷ [])
  unfolding room_checks
  room_is t = rw (not_ltb (free_pages v) t)

  room_kept : (t : ℕ) → every (passing (room_checks true (free_pages v) t)) ≡ every ((eqb t 0 || ltb t (free_pages v)) ∷ [])
  unfolding room_checks
  room_kept t =
      by_eq t 0 (λ z. rw (z, le-ltb (free_pages v) 0 (omega arith)))
      (λ z. by_lt t (free_pages v)
      (λ h. rw (ne_eqb t 0 z, lt-ltb t (free_pages v) h, le-ltb (free_pages v) t (omega arith), ne_eqb t (free_pages v) (omega arith)))
      (λ h. by_eq t (free_pages v)
      (λ q. rw (ne_eqb t 0 z, le-ltb t (free_pages v) h, le-ltb (free_pages v) t (omega arith), eq-eqb t (free_pages v) q))
      (λ q. rw (ne_eqb t 0 z, le-ltb t (free_pages v) h, lt-ltb (free_pages v) t (omega arith)))))

  -- Space. x appends n entries in all, where there are pages enough for its data, to a log that goes on: it is judged by the pages that
  -- these take, and where there are not enough for the data, more are needed than there are.
  space_is : (b : Bool) (x : Append) (n : ℕ) → x.anew ≡ false → (x.count ≤ free_pages v → length (appended u P f x) ≡ n)
      → every (passing (space_checks u P N b (x ∷ []))) ≡ every (passing (room_checks b (free_pages v) (pages_taken v x.log n x.count)))
  unfolding pages_needed free_count space_checks room_checks
  space_is b x n on e =
      let c = x.count in
      rw (one_needed u P f x)
      (by_lt (free_pages v) c
      (λ h.
      rw (lt-ltb (free_pages v) (c + fresh_pages u P f x) (omega arith), lt-ltb (free_pages v) (c + log_pages_for v x.log n) (omega arith)))
      (λ h. rw (fresh_on u P f x on, e h)))

  -- what is appended: the entries, and one more for each stretch of the data
  entries_are : (x : Append) → x.count ≤ free_pages v → length (appended u P f x) ≡ length x.entries + writes_for v x.count
  unfolding appended stretch_entries data_pages free_count
  entries_are x h =
      let c = x.count in
      let ds = lowest_pages f P c in
      let long : length ds ≡ c = pages_enough f P bound c h in
      let s = search_start f P bound c in
      let up : Ascends 1 ds = ascends_some s ds (rw (pages_from f P bound c) (few_ascend f (P - s) s c))
      (λ p m. omega (arith, free_bounds u P N p (pages_hold f P bound c p m).0)) in
      let r = stretch_count_lem ds (λ i. get_or ds (i - x.file) 0) x.file up
      (λ t l. let q : x.file + t - x.file ≡ t = omega arith in rw q) in
      rw (length-append, length-map) (ap (λ n. length x.entries + n) (rw long at r))

  -- entries of folder d
  names_space : (b : Bool) (d : ℕ) (es : List (List ℕ)) → every (passing (space_checks u P N b (entries_only false d es ∷ [])))
      ≡ every (passing (room_checks b (free_pages v) (pages_taken v d (length es) 0)))
  unfolding entries_only
  names_space b d es = space_is b (entries_only false d es) (length es) refl (λ h. ap length (only_entries u P f false d es))

  -- how many pages entries of folder d take, of pages of which g holds
  entries_need : (g : ℕ → Bool) (d : ℕ) (es : List (List ℕ)) → pages_needed u P g (entries_only false d es) ≡ log_pages_for v d (length es)
  unfolding pages_needed entries_only
  entries_need g d es =
      rw (fresh_on u P g (entries_only false d es) refl, only_entries u P g false d es) (zero-add (log_pages_for v d (length es)))

  -- a rename: two entries of one folder, or one of each of two
  move_space : (d : ℕ) (x : List ℕ) (e : ℕ) (y : List ℕ)
      → every (passing (space_checks u P N false (rename_appends u P N d x e y))) ≡ every (has_move_space v d e ∷ [])
  unfolding rename_appends space_checks all_needed
  move_space d x e y =
      let add = add_words (leads_to u P N d x) y in
      by_bool (eqb d e)
      (λ q. rw (q, entries_need f d (remove_words x ∷ add ∷ []), add-zero (log_pages_for v d 2)) (room_is (log_pages_for v d 2)))
      (λ q. rw (
        q,
        entries_need f d (remove_words x ∷ []),
        entries_need (pages_left u P f (entries_only false d (remove_words x ∷ []))) e (add ∷ []),
        add-zero (log_pages_for v e 1),
      ) (room_is (log_pages_for v d 1 + log_pages_for v e 1)))

  -- Folders and names of the map are those of the volume.

  abbrev M : FileMap
  M = map_of u P N

  some_inode : 0 < N
  some_inode = omega (arith, sizes)

  fine_folders : FoldersFine N (is_valid u) (is_directory u) (folders_of u P N)
  fine_folders = folders_fine u P N fine

  names_are_lem : names_in M ≡ folders_of u P N
  names_are_lem = names_before u u P N

  folder_there : (d : ℕ) → folder_in M d ≡ not (none_there u P N d) && is_directory u d
  unfolding map_of none_there
  folder_there d =
      by_lt d N
      (λ h. rw (lt-leb N d h, lt-ltb d N h) (by_bool (is_valid u d)
      (λ w. by_bool (is_directory u d) (λ q. rw (w, q)) (λ q. rw (w, q))) (λ w. rw (w, and-false))))
      (λ h. rw (le-leb N d h, le-ltb d N h))

  -- the inode that a name leads to is valid, or is inode 0
  lead_valid : (d : ℕ) (n : List ℕ) → none_there u P N (leads_to u P N d n) ≡ false
  unfolding none_there leads_to
  lead_valid d n =
      let i = inode_of (folders_of u P N d) n in
      by_eq i 0
      (λ z. rw (z, lt-leb N 0 some_inode, root_valid u P N fine some_inode))
      (λ z.
      let c = fine_folders.child d i (leads_to_lem N (is_valid u) (is_directory u) (folders_of u P N) fine_folders d n z) in
      rw (lt-leb N i c.1, c.2))

  lead_kind : (d : ℕ) (n : List ℕ) → folder_in M (leads_to u P N d n) ≡ is_directory u (leads_to u P N d n)
  lead_kind d n = folder_there (leads_to u P N d n) ∙ rw (lead_valid d n)

  -- a name that stands, stands in a folder
  stands_in_lem : (d : ℕ) (n : List ℕ) → stands u P N d n ≡ true → (none_there u P N d ≡ false) × (is_directory u d ≡ true)
  unfolding stands leads_to none_there
  stands_in_lem d n h =
      let i = inode_of (folders_of u P N d) n in
      let z = eqb-false i 0 (not-true _ h) in
      let c = fine_folders.folder d i (leads_to_lem N (is_valid u) (is_directory u) (folders_of u P N) fine_folders d n z) in
      (rw (lt-leb N d c.0, c.1), c.2)

  named_is : (d : ℕ) (n : List ℕ) → named_in M d n ≡ stands u P N d n
  unfolding stands leads_to
  named_is d n = rw names_are_lem

  kind_is : (d : ℕ) (n : List ℕ) → folder_in M (inode_of (names_in M d) n) ≡ is_directory u (leads_to u P N d n)
  unfolding leads_to
  kind_is d n = rw names_are_lem (lead_kind d n)

  no_less : (n : ℕ) → eqb n 0 ≡ not (ltb 0 n)
  no_less n = by_eq n 0 (λ z. rw z) (λ z. rw (ne_eqb n 0 z, lt-ltb 0 n (omega arith)))

  empty_is : (d : ℕ) (n : List ℕ) → eqb (length (names_in M (inode_of (names_in M d) n))) 0
      ≡ not (ltb 0 (length (folders_of u P N (leads_to u P N d n))))
  unfolding leads_to
  empty_is d n = rw names_are_lem (no_less (length (folders_of u P N (inode_of (folders_of u P N d) n))))

  same_leads : (d : ℕ) (x : List ℕ) (e : ℕ) (y : List ℕ)
      → eqb (inode_of (names_in M d) x) (inode_of (names_in M e) y) ≡ eqb (leads_to u P N d x) (leads_to u P N e y)
  unfolding leads_to
  same_leads d x e y = rw names_are_lem

  may_is : (d : ℕ) (x : List ℕ) (e : ℕ) (y : List ℕ) → may_move N M d x e y
      ≡ not (stands u P N e y && (is_directory u (leads_to u P N d x) || is_directory u (leads_to u P N e y)))
      && (not (is_directory u (leads_to u P N d x) && is_beneath N (folders_of u P N) (leads_to u P N d x) e)
      && ((eqb d e || stands u P N e y || not (is_full u P N e)) && true))
  unfolding is_full stands leads_to
  may_is d x e y = rw (kind_is d x, kind_is e y, names_are_lem)

  -- a new inode is there
  inode_there : not (not (is_some (invalid_inode u P N))) ≡ not (eqb (new_inode N (map_of u P N)) 0)
  inode_there =
      rw (new_inode_lem u P N)
      (by_option (invalid_inode u P N) (λ e. rw e) (λ i e. let h = create_inode u P N i e in rw (e, ne_eqb i 0 (omega (arith, h.1)))))

  module _ (list : List ℕ) (long : list_words ≤ length list) where
    -- the checks that every call begins with do not hold
    front : (c : Call) → is_served (call_answer v list c) ≡ every (passing (action_checks u P N (action u P N c)))
    unfolding call_answer fills call_checks is_accepted volume_checks checks
    front c =
        let w : is_volume (length v) u ≡ true = search ands in
        let ok : accepted u P N ≡ true = search ands in
        served_is length (call_checks (length v) u (length list) c) _
        ∙ rw (le-ltb (length list) list_words long, w, ok, o, and-false (needs_closed c), same_view)

    -- 6, 7 and 16 of a call that takes one folder and a new name: x the folder is not there, y it is none, t the name stands
    regroup : (x y t r : Bool) → not x && (not t && (not (not y) && r)) ≡ (not x && y) && (not t && r)
    regroup true y t r = refl
    regroup false true true r = refl
    regroup false true false r = refl
    regroup false false true r = refl
    regroup false false false r = refl

    made : (t d : ℕ) (n : List ℕ) (c : Call) → action u P N c ≡ create_action u P N t d n → is_served (call_answer v list c)
        ≡ every (new_name_ok n ∷ folder_in M d ∷ not (named_in M d n) ∷ not (eqb (new_inode N M) 0) ∷ not (full_in M d) ∷ leaves_page v d 1 0 ∷ [])
    unfolding action_checks create_action is_full
    made t d n c e =
        front c
        ∙ rw (
          e,
          not_not (new_name_ok n),
          names_space true d (add_words (or_else (invalid_inode u P N) 0) n ∷ []),
          room_kept (pages_taken v d 1 0),
          named_is d n,
          folder_there d,
          inode_there,
          names_are_lem,
        )
        (ap (λ r. new_name_ok n && r) (regroup (none_there u P N d) (is_directory u d) (stands u P N d n) _))

    creates : (d : ℕ) (n : List ℕ) → is_served (call_answer v list (create d n))
        ≡ every (new_name_ok n ∷ folder_in (map_in v) d ∷ not (named_in (map_in v) d n) ∷ not (eqb (new_inode N (map_in v)) 0)
        ∷ not (full_in (map_in v) d)
        ∷ leaves_page v d 1 0 ∷ [])
    unfolding action map_in
    creates d n = rw same_view (made 0 d n (create d n) (rw same_view))

    creates_folder : (d : ℕ) (n : List ℕ) → is_served (call_answer v list (create_folder d n))
        ≡ every (new_name_ok n ∷ folder_in (map_in v) d ∷ not (named_in (map_in v) d n) ∷ not (eqb (new_inode N (map_in v)) 0)
        ∷ not (full_in (map_in v) d)
        ∷ leaves_page v d 1 0 ∷ [])
    unfolding action map_in
    creates_folder d n = rw same_view (made 1 d n (create_folder d n) (rw same_view))

    -- 6, 7 and 16 of link: x and y say that a folder is not there, c and e that it is one; s that the old name stands, t the new one, i
    -- that the old one leads to a folder
    link_checks : (x y c e s t i r : Bool) → (s ≡ true → (x ≡ false) × (c ≡ true))
        → not (x || y || (c && not s)) && (not t && (not (not c || not e || i) && r)) ≡ s && ((not y && e) && (not t && (not i && r)))
    link_checks x y c e true t i r h =
        let g = h refl in
        rw (g.0, g.1) (by_bool y (λ a. rw a) (λ a. rw a (by_bool e (λ b. rw b) (λ b. rw b (by_bool t (λ d. rw d) (λ d. rw d))))))
    link_checks x y true e false t i r h = rw or-true
    link_checks x y false e false t i r h =
        by_bool x (λ a. rw a) (λ a. rw a (by_bool y (λ b. rw b) (λ b. rw b (by_bool t (λ d. rw d) (λ d. rw d)))))

    links : (d : ℕ) (x : List ℕ) (e : ℕ) (y : List ℕ) → is_served (call_answer v list (link d x e y))
        ≡ every ((name_ok x && new_name_ok y) ∷ named_in (map_in v) d x ∷ folder_in (map_in v) e ∷ not (named_in (map_in v) e y)
        ∷ not (folder_in (map_in v) (inode_of (names_in (map_in v) d) x)) ∷ not (full_in (map_in v) e) ∷ leaves_page v e 1 0 ∷ [])
    unfolding action action_checks link_action is_full is_absent map_in
    links d x e y =
        front (link d x e y)
        ∙ rw (
          same_view,
          not_not (name_ok x && new_name_ok y),
          names_space true e (add_words (leads_to u P N d x) y ∷ []),
          room_kept (pages_taken v e 1 0),
          named_is d x,
          named_is e y,
          folder_there e,
          kind_is d x,
          names_are_lem,
        )
        (ap (λ r. (name_ok x && new_name_ok y) && r)
        (link_checks (none_there u P N d) (none_there u P N e) (is_directory u d) (is_directory u e) (stands u P N d x)
        (stands u P N e y) (is_directory u (leads_to u P N d x)) _ (stands_in_lem d x)))

    -- 6 and 16 of unlink
    unlink_checks : (x c s r : Bool) → (s ≡ true → (x ≡ false) × (c ≡ true)) → not (x || (c && not s)) && (not (not c) && r) ≡ s && r
    unlink_checks x c true r h = let g = h refl in rw (g.0, g.1)
    unlink_checks x true false r h = rw or-true
    unlink_checks x false false r h = rw and-false

    unlinks : (d : ℕ) (n : List ℕ) → is_served (call_answer v list (unlink d n))
        ≡ every (name_ok n ∷ named_in (map_in v) d n ∷ eqb (length (names_in (map_in v) (inode_of (names_in (map_in v) d) n))) 0
        ∷ has_space v d 1 0 ∷ [])
    unfolding action action_checks unlink_action is_absent map_in
    unlinks d n =
        front (unlink d n)
        ∙ rw (
          same_view,
          not_not (name_ok n),
          names_space false d (remove_words n ∷ []),
          room_is (pages_taken v d 1 0),
          named_is d n,
          empty_is d n,
        )
        (ap (λ r. name_ok n && r) (unlink_checks (none_there u P N d) (is_directory u d) (stands u P N d n) _ (stands_in_lem d n)))

    -- 6 and 16 of rename, and "Names leading to one inode": q; w and L are what is left of 16 and the checks after it, which come to m
    move_checks : (x y c e s q w : Bool) (L : Checks) (m : Bool) → (s ≡ true → (x ≡ false) × (c ≡ true))
        → every (passing ((w, wrong_type) ∷ L)) ≡ m
        → not (x || y || (c && not s)) && every (passing (cond (c && e && q) [] ((not c || not e || w, wrong_type) ∷ L))) ≡ s
        && ((not y && e) && ((q || m) && true))
    move_checks x y c e true q w L m h k =
        let g = h refl in
        rw (g.0, g.1) (by_bool y (λ a. rw a) (λ a. rw a (by_bool e
        (λ b. rw b (by_bool q (λ z. rw z) (λ z. rw (z, and-true) k))) (λ b. rw b))))
    move_checks x y true e false q w L m h k = rw or-true
    move_checks x y false e false q w L m h k = rw and-false

    -- what order 6 allows, and room
    may_checks : (t i j b d f m : Bool) → not (t && (i || j)) && (not (i && b) && (not (not d && not t && f) && (m && true)))
        ≡ (not (t && (i || j)) && (not (i && b) && ((d || t || not f) && true))) && m
    may_checks t i j b d f m =
        by_bool (not (t && (i || j))) (λ x. rw x (by_bool (not (i && b))
        (λ y. rw y (by_bool d (λ z. rw z (and-true m))
        (λ z. rw z (by_bool t (λ a. rw a (and-true m)) (λ a. rw a (by_bool f (λ c. rw c) (λ c. rw c (and-true m))))))))
        (λ y. rw y))) (λ x. rw x)

    renames : (d : ℕ) (x : List ℕ) (e : ℕ) (y : List ℕ) → is_served (call_answer v list (rename d x e y))
        ≡ every ((name_ok x && new_name_ok y) ∷ named_in (map_in v) d x ∷ folder_in (map_in v) e
        ∷ (eqb (inode_of (names_in (map_in v) d) x) (inode_of (names_in (map_in v) e) y)
        || (may_move N (map_in v) d x e y && has_move_space v d e)) ∷ [])
    unfolding action action_checks rename_action same_inode is_absent map_in
    renames d x e y =
        let i = is_directory u (leads_to u P N d x) in
        let j = is_directory u (leads_to u P N e y) in
        let b = is_beneath N (folders_of u P N) (leads_to u P N d x) e in
        let t = stands u P N e y in
        let g = is_full u P N e in
        front (rename d x e y)
        ∙ rw (same_view, not_not (name_ok x && new_name_ok y), named_is d x, folder_there e, same_leads d x e y)
        (ap (λ r. (name_ok x && new_name_ok y) && r)
        (move_checks (none_there u P N d) (none_there u P N e) (is_directory u d) (is_directory u e) (stands u P N d x)
        (eqb (leads_to u P N d x) (leads_to u P N e y))
        (t && (i || j)) ((i && b, into_itself) ∷ (not (eqb d e) && not t && g, directory_full)
        ∷ space_checks u P N false (rename_appends u P N d x e y))
        (may_move N M d x e y && has_move_space v d e) (stands_in_lem d x)
        (rw (move_space d x e y) (may_checks t i j b (eqb d e) g (has_move_space v d e))
        ∙ ap (λ r. r && has_move_space v d e) (sym (may_is d x e y)))))

    recovers : is_served (call_answer v list recover) ≡ true
    unfolding action action_checks recover_action
    recovers = front recover ∙ rw o

    -- a file is there
    file_checks_lem : (k : ℕ) (r : Bool) → not (none_there u P N k || eqb k root) && (not (is_directory u k) && r) ≡ is_some (M.files k) && r
    unfolding none_there map_of
    file_checks_lem k r =
        by_lt k N
        (λ h. rw (lt-leb N k h, lt-ltb k N h) (by_bool (is_valid u k)
        (λ w. by_eq k 0 (λ z. rw (w, eq-eqb k 0 z)) (λ z. rw (w, ne_eqb k 0 z) (by_bool (eqb (u (type_word k)) 1) (λ q. rw q) (λ q. rw q))))
        (λ w. rw (w, and-false))))
        (λ h. rw (le-leb N k h, le-ltb k N h))

    write_space : (k y : ℕ) (bs : List ℕ)
        → every (passing (space_checks u P N true (write_append u P N k y bs ∷ [])))
        ≡ every (leaves_page v k (writes_for v (pages_covered y (y + length bs))) (pages_covered y (y + length bs)) ∷ [])
    unfolding write_append
    write_space k y bs =
        let x = write_append u P N k y bs in
        space_is true x (writes_for v x.count) refl
        (λ h. entries_are x h ∙ zero-add _) ∙ room_kept (pages_taken v k (writes_for v x.count) x.count)

    writes : (k y : ℕ) (bs : List ℕ) → is_served (call_answer v list (write k y bs))
        ≡ every (is_some ((map_in v).files k) ∷ leb (length bs) write_bytes ∷ leb (y + length bs) file_bytes
        ∷ (eqb (length bs) 0 || leaves_page v k (writes_for v (pages_covered y (y + length bs))) (pages_covered y (y + length bs))) ∷ [])
    unfolding action action_checks write_action file_checks map_in
    writes k y bs =
        front (write k y bs)
        ∙ rw (same_view, file_checks_lem k, not_ltb write_bytes (length bs), not_ltb file_bytes (y + length bs))
        (by_eq (length bs) 0 (λ z. rw (eq-eqb (length bs) 0 z)) (λ z. rw (ne_eqb (length bs) 0 z, write_space k y bs)))

    -- one page is one stretch
    writes_one : (b : Bool) → bit b ≤ free_pages v → writes_for v (bit b) ≡ bit b
    unfolding stretch_count has bit free_count
    writes_one b h = one_count (lowest_pages f P (bit b)) (bit b) (pages_enough f P bound (bit b) h) (bit_le b)

    size_space : (k s : ℕ) → every (passing (space_checks u P N true (size_append u P N k s ∷ [])))
        ≡ every (leaves_page v k (1 + bit (copied v k s)) (bit (copied v k s)) ∷ [])
    unfolding size_append
    size_space k s =
        let x = size_append u P N k s in
        space_is true x (1 + bit (copied v k s)) refl (λ h. entries_are x h ∙ ap (λ n. 1 + n) (writes_one (cuts_page u P N k s) h))
        ∙ room_kept (pages_taken v k (1 + bit (copied v k s)) (bit (copied v k s)))

    size_there : (k : ℕ) → is_some ((map_of u P N).files k) ≡ true → length (bytes_in (map_of u P N) k) ≡ (file_of u P N k).size
    unfolding bytes_in map_of
    size_there k e =
        by_lt k N
        (λ h. by_bool (is_file u k) (λ t. rw (lt-ltb k N h, t) (length_bytes u (file_of u P N k))) (λ t. no (rw (lt-ltb k N h, t) at e)))
        (λ h. no (rw (le-ltb k N h) at e))

    sets : (k s : ℕ) → is_served (call_answer v list (set_size k s))
        ≡ every (is_some ((map_in v).files k) ∷ leb s file_bytes
        ∷ (eqb s (length (bytes_in (map_in v) k)) || leaves_page v k (1 + bit (copied v k s)) (bit (copied v k s))) ∷ [])
    unfolding action action_checks size_action file_checks map_in
    sets k s =
        front (set_size k s)
        ∙ rw (same_view, file_checks_lem k, not_ltb file_bytes s)
        (by_bool (is_some ((map_of u P N).files k))
        (λ t. rw (size_there k t) (by_bool (eqb s (file_of u P N k).size) (λ z. rw z)
        (λ z. rw (z, size_space k s))))
        (λ t. rw t))

    -- an inode is there
    inode_valid : (k : ℕ) → not (none_there u P N k) ≡ (folder_in M k || is_some (M.files k))
    unfolding none_there map_of
    inode_valid k =
        by_lt k N
        (λ h. rw (lt-leb N k h, lt-ltb k N h) (by_bool (is_valid u k)
        (λ w. by_bool (is_directory u k) (λ q. rw (w, q)) (λ q. rw (w, q))) (λ w. rw (w, and-false, and-false))))
        (λ h. rw (le-leb N k h, le-ltb k N h))

    anew_space : (k : ℕ) (es : List (List ℕ))
        → every (passing (space_checks u P N false (entries_only true k es ∷ []))) ≡ every (leb (pages_for (length es)) (free_pages v) ∷ [])
    unfolding space_checks
    anew_space k es = rw (anew_needed u P f k es) (room_is (pages_for (length es)))

    cleans : (k : ℕ) → is_served (call_answer v list (clean k))
        ≡ every ((folder_in (map_in v) k || is_some ((map_in v).files k)) ∷ (eqb (u (tail_word k)) 0 || leb (pages_anew v k) (free_pages v)) ∷ [])
    unfolding action action_checks clean_action map_in
    cleans k =
        front (clean k)
        ∙ rw (same_view, inode_valid k)
        (by_bool (eqb (u (tail_word k)) 0) (λ z. rw z) (λ z. rw (z, anew_space k (clean_entries u P N k))))

  -- Removing, with a free page.

  -- two entries more take one log page at most
  log_one : (d n : ℕ) → n ≤ 2 → log_pages_for v d n ≤ 1
  unfolding tail_pages
  log_one d n h =
      by_eq (u (tail_word d)) 0 (λ z. rw (eq-eqb (u (tail_word d)) 0 z) (omega arith)) (λ z. rw (ne_eqb (u (tail_word d)) 0 z) (omega arith))

  one_page : (d : ℕ) → 1 ≤ free_pages v → has_space v d 1 0 ≡ true
  one_page d l = let h = log_one d 1 (omega arith) in le-leb _ (free_pages v) (omega arith)

  -- a name that stands may stand, in a folder
  stands_named : (d : ℕ) (n : List ℕ) → named_in (map_in v) d n ≡ true → stands u P N d n ≡ true
  unfolding map_in
  stands_named d n h = sym (named_is d n) ∙ (rw same_view at h)

  name_ok_lem : (d : ℕ) (n : List ℕ) → named_in (map_in v) d n ≡ true → name_ok n ≡ true
  unfolding none_there stands leads_to folders_of
  name_ok_lem d n h =
      let t = stands_named d n h in
      let w = stands_in_lem d n t in
      let q = or_false (leb N d) (not (is_valid u d)) w.0 in
      let l = leb-false N d q.0 in
      let k : is_valid u d ≡ true = not-false _ q.1 in
      let g : folders_of u P N d ≡ names_of u P N d = rw (lt-ltb d N l, w.1, k) in
      let z : inode_of (folders_of u P N d) n ≡ 0 → ⊥ = eqb-false (inode_of (folders_of u P N d) n) 0 (not-true _ t) in
      standing_ok N (names_of u P N d) (names_good u P N d w.1 (log_ok_lem u P N fine d l k)) n (λ q. z (ap (λ ns. inode_of ns n) g ∙ q))

  folder_named : (d : ℕ) (n : List ℕ) → named_in (map_in v) d n ≡ true → folder_in (map_in v) d ≡ true
  unfolding map_in
  folder_named d n h = let w = stands_in_lem d n (stands_named d n h) in rw same_view (folder_there d ∙ rw (w.0, w.1))

  in_one : (d : ℕ) → 1 ≤ free_pages v → has_move_space v d d ≡ true
  in_one d l = let h = log_one d 2 (omega arith) in rw (eq-eqb d d refl) (le-leb _ (free_pages v) (omega arith))

  in_two : (d e : ℕ) → 2 ≤ free_pages v → has_move_space v d e ≡ true
  in_two d e l =
      let h = log_one d 2 (omega arith) in
      let i = log_one d 1 (omega arith) in
      let j = log_one e 1 (omega arith) in
      by_bool (eqb d e) (λ q. rw q (le-leb _ (free_pages v) (omega arith))) (λ q. rw q (le-leb _ (free_pages v) (omega arith)))

  removes : 1 ≤ free_pages v → (list : List ℕ) → list_words ≤ length list → Removes v list (map_in v)
  removes l list long = record {
    unlinks = λ d n h e. unlinks list long d n ∙ rw (name_ok_lem d n h, h, e, one_page d l);
    renames = λ d x y h k w. renames list long d x d y
        ∙ rw (name_ok_lem d x h, k, h, folder_named d x h, w, in_one d l, or-true);
    moves = λ two d x e y h k f w. renames list long d x e y
        ∙ rw (name_ok_lem d x h, k, h, f, w, in_two d e two, or-true);
  }

pub removing_served : RemovingServed
removing_served v a o l list long = removes v a o l list long

pub calls_served : CallsServed
calls_served v a o list l =
    record {
      creates = creates v a o list l;
      creates_folder = creates_folder v a o list l;
      links = links v a o list l;
      unlinks = unlinks v a o list l;
      renames = renames v a o list l;
      writes = writes v a o list l;
      sets = sets v a o list l;
      cleans = cleans v a o list l;
      recovers = recovers v a o list l;
    }
