-- The calls by name: behind the gate and the call's first checks what is left is an append to the log of one folder, or of two.
use Rattle.model.proofs.Prelude.{ℕ, ◌-◌, ◌/◌, ◌≤◌, ◌<◌, ◌≡◌, refl, sym, ◌∙◌, ap, Bool, true, false, not, cond, List, [], ◌∷◌, ◌++◌, Option, none, some, ⊎_elim, ◌⊎◌, inl, inr, and-false, arith, eq-eqb, ne_eqb, not-false, eqb, le-ltb, leb-false, length, get_or}
use Rattle.std.specs.Prelude.{Result, Ok, Err, IsErrAnd, ⊤}
use Rattle.model.specs.Lists.{is_some, or_else}
use Rattle.model.specs.Words.{Mem, word}
use Rattle.model.specs.Layout.{root, is_directory, valid_word}
use Rattle.model.specs.Journal.{view, journal_ok}
use Rattle.model.specs.Entry.{name_words, add_words, remove_words}
use Rattle.model.specs.Stores.{Stores, no_words}
use Rattle.model.specs.Tree.{name_count}
use Rattle.model.specs.Accept.{is_valid, view_ok, accepted}
use Rattle.model.specs.FileMap.{Call, link, unlink, rename}
use Rattle.model.specs.Answer.{done, Checks, first_refusal, map_answer, not_there}
use Rattle.model.specs.Calls.{Change, groups, action, action_checks, action_groups, create_action, link_action, unlink_action, rename_action, rename_appends, entries_only}
use Rattle.model.specs.Calls.{none_there, leads_to, stands, invalid_inode, release, same_inode}
use Rattle.model.specs.Public.{needs_closed}
use Rattle.model.proofs.Lists.{lowest_is}
use Rattle.model.proofs.Tests.{by_bool, by_eq, no, and_left, and_right, or_false}
use Rattle.model.proofs.Crash.History.{Passed}
use Rattle.model.proofs.State.Folders.{FoldersFine, holds, leads_to_lem, count_some}
use Rattle.model.proofs.State.FoldersOk.{folders_fine}
use Rattle.layout.specs.Kind.{type_of}
use Rattle.layout.specs.declared.Kind.{Kind}
use Rattle.layout.specs.declared.Kind.TheVariants.{File, Folder}
use Rattle.names.specs.Listed.{names_in, Good, Lists}
use Rattle.tree.specs.Table.{state_in}
use Rattle.tree.specs.Noted.{file_state, settled_state}
use Rattle.survey.specs.Surveyed.{TreeOf}
use Rattle.inodes.specs.Judged.{Closed}
use Rattle.stores.specs.Added.{element}
use Rattle.entries.specs.Table.{part, entries_of, Put}
use Rattle.entries.proofs.Entries.{one_entry, put_two}
use Rattle.answer.specs.Meaning.{meaning, done_meaning, numbered, plain as no_number}
use Rattle.answer.specs.Comes.{Comes, came_to}
use Rattle.answer.specs.declared.Refusal.{Refusal}
use Rattle.answer.proofs.Checked.{clash, same_number}
use Rattle.answer.proofs.Coming.{comes_none, comes_as}
use Rattle.append.specs.declared.Append.{Append}
use Rattle.append.specs.Appended.{zeroed, also_committed, first_count, asked, second_asked, plain, action_of, outcome, Ready}
use Rattle.append.proofs.Volumes.{closed_sizes}
use Rattle.append.proofs.Outcomes.{one_log_ready, one_log, asked_only, zeroed_new, zeroed_none, also_new, also_nothing}
use Rattle.gate.specs.Gated.{fill_checks, Gated}
use Rattle.gate.proofs.Lists.{fill_refused, fill_long, fill_closed, fill_view}
use Rattle.checks.specs.declared.TwoFolders.{TwoFolders}
use Rattle.checks.specs.declared.Leads.{Leads}
use Rattle.checks.specs.Names.{leads_in, new_inode, create_first, unlink_first, absent_in, given_first, given_comes, link_last, Led, Inodes, are_folders, are_same, rename_last, rename_comes}
use Rattle.checks.proofs.Behind.{told, told_plain, passed, passed_plain, filled, create_came, folder_came, unlink_came, link_came, rename_came}
use Rattle.naming.specs.Folder.{folder_append, move_append, rename_append, make_call}

-- checks that came to no refusal hold nowhere, where what they came to would answer a number or none, by f
none_hold : {A : Type 0} (f : A → Option ℕ) (z : Option ℕ) (cs : Checks) (a : A) → done z ≡ map_answer f (first_refusal cs (done a)) → Passed cs
none_hold f z [] a h = tt
none_hold f z (t ∷ ts) a h =
    by_bool t.0 (λ b. clash t.1 z (sym (rw b at h))) (λ b. (b, none_hold f z ts a (rw b at h)))

none_holds : (cs : Checks) (a n : ℕ) → done (some n) ≡ numbered (first_refusal cs (done a)) → Passed cs
none_holds cs a n h = none_hold some (some n) cs a h

-- what the gate refuses, each call refuses
pub gate_told : (v l places marks tree : List ℕ) (e : Refusal) (r : Result ℕ Refusal) → IsErrAnd r (λ d. d ≡ e)
    → Gated v (fill_checks (length v) (word v) (length l)) (Err e) places marks tree
    → (c : Call) → needs_closed c ≡ true → Comes (came_to v l c) l r l
gate_told v l places marks tree e r p g c n = fill_refused v l c n places marks tree e r p g

make_closed : (t : Kind) (d : ℕ) (x : List ℕ) → needs_closed (make_call t d x) ≡ true
make_closed File d x = refl
make_closed Folder d x = refl

pub gate_make : (v l places marks tree : List ℕ) (e : Refusal) (r : Result ℕ Refusal) → IsErrAnd r (λ d. d ≡ e)
    → Gated v (fill_checks (length v) (word v) (length l)) (Err e) places marks tree
    → (t : Kind) (d : ℕ) (x : List ℕ) → Comes (came_to v l (make_call t d x)) l r l
gate_make v l places marks tree e r p g t d x = gate_told v l places marks tree e r p g (make_call t d x) (make_closed t d x)

-- one entry, as its eight words
one_named : (e w : List ℕ) → e ≡ w → length w ≡ 8 → entries_of e 0 (length e / 8) ≡ w ∷ []
one_named e w q h = rw (q, h) (one_entry w h)

pub add_long : (i : ℕ) (x : List ℕ) → length (add_words i x) ≡ 8
unfolding add_words name_words
add_long i x = refl

pub remove_long : (x : List ℕ) → length (remove_words x) ≡ 8
unfolding remove_words name_words
remove_long x = refl

-- `between_folders`: a is the append inside the old folder
module _ (f : TwoFolders) (o : ℕ) (a : Append) (q : a ≡ folder_append f.old false o 0 0) where
  pub inside_one : f.old ≡ f.new → a ≡ rename_append f o
  unfolding rename_append
  inside_one h = rw (eq-eqb f.old f.new h) q

  pub from_one : (f.old ≡ f.new → ⊥) → record a { second = f.new; moved = 1 } ≡ rename_append f o
  unfolding rename_append
  from_one h = rw (ne_eqb f.old f.new h, q)

-- an invalid inode, where there is one, lies behind inode 0 and below the inode count
found_inode : (u : Mem) (P N : ℕ) (o : Option ℕ) → invalid_inode u P N ≡ o → is_some o ≡ true → (0 < or_else o 0) × (or_else o 0 < N)
unfolding invalid_inode
found_inode u P N none e s = no s
found_inode u P N (some k) e s =
    let b = lowest_is (λ j. not (is_valid u j)) (N - 1) 1 k e in (omega (arith, b.from), omega (arith, b.below, b.from))

-- n, places, marks and tree are what the gate answered and left
module _ (v l : List ℕ) (n : ℕ) (places marks tree : List ℕ)
    (g : Gated v (fill_checks (length v) (word v) (length l)) (Ok n) places marks tree) where
  abbrev m : Mem
  m = word v

  list_long : 4096 ≤ length l
  list_long = fill_long v l n places marks tree g

  closed_here : Closed v marks
  closed_here = fill_closed v l n places marks tree g

  same_view : view m ≡ m
  same_view = fill_view v l n places marks tree g

  pub some_inodes : 0 < m 1
  some_inodes = omega (arith, (closed_sizes v marks closed_here).3)

  pub good_low : (k : ℕ) → k < m 1 → k < 256
  good_low k h = omega (arith, (closed_sizes v marks closed_here).1)

  pub good_here : Good v
  good_here = record { volume = g.tables.volume; good = g.tables.good }

  pub tree_here : TreeOf m tree
  tree_here = g.tables.settled

  fine_here : FoldersFine (m 1) (is_valid (view m)) (is_directory (view m)) (names_in v)
  unfolding accepted
  fine_here = folders_fine (view m) (m 0) (m 1) (and_right (journal_ok m (m 1)) (view_ok (view m) (m 0) (m 1)) g.tables.good)

  -- a name leads to an inode of the volume, a valid one
  module _ (d : ℕ) (x : List ℕ) (z : leads_in v d x ≡ 0 → ⊥) where
    led_holds : 1 ≤ holds (names_in v) d (leads_in v d x)
    unfolding leads_to
    led_holds = leads_to_lem (m 1) (is_valid (view m)) (is_directory (view m)) (names_in v) fine_here d x z

    led_child : (1 ≤ leads_in v d x) × (leads_in v d x < m 1) × (is_valid (view m) (leads_in v d x) ≡ true)
    led_child = fine_here.child d (leads_in v d x) led_holds

    led_count : 1 ≤ name_count (m 1) (names_in v) (leads_in v d x)
    led_count = count_some (m 1) (names_in v) d (leads_in v d x) (fine_here.folder d (leads_in v d x) led_holds).0 led_holds

  pub led_below : (d : ℕ) (x : List ℕ) → leads_in v d x < m 1
  led_below d x = by_eq (leads_in v d x) 0 (λ z. rw z some_inodes) (λ z. (led_child d x z).1)

  -- an inode that is there
  there : (d : ℕ) → none_there (view m) (m 0) (m 1) d ≡ false → (d < m 1) × (is_valid m d ≡ true)
  unfolding none_there
  there d h =
      let o = or_false _ _ h in
      (leb-false (m 1) d o.0, rw same_view at (not-false (is_valid (view m) d) o.1))

  -- a is an append to the log of folder d as the code makes it, which keeps the last free page or not (y); the entries ws can be appended
  module _ (d : ℕ) (y : Bool) (o x t : ℕ) (a : Append) (q : a ≡ folder_append d y o x t) where
    folder_ready : (ws : List ℕ) → d < m 1 → is_valid m d ≡ true → o < m 1 → 8 ≤ length ws → length ws ≤ 16 → Ready v marks a ws [] l
    folder_ready ws i j h f k =
        let s = list_long in
        rw q
        (one_log_ready v marks (folder_append d y o x t) ws [] l closed_here refl refl i j h
        (λ z. omega arith) (omega arith) refl (omega arith) (omega arith) (omega arith))

    -- what they come to; es are these entries
    folder_outcome : (ws : List ℕ) (es : List (List ℕ)) (s : Stores) (cs : List Change) → entries_of ws 0 (length ws / 8) ≡ es
        → zeroed (folder_append d y o x t) ≡ s → also_committed (folder_append d y o x t) ≡ cs
        → outcome v (action_of a ws []) ≡ outcome v (plain y (entries_only false d es ∷ []) s cs)
    folder_outcome ws es s cs p i w =
        rw (q, one_log (folder_append d y o x t) ws [] refl, asked_only (folder_append d y o x t) ws refl refl refl, p, i, w)

    pub one_ready : (w es : List ℕ) → w ≡ es → length es ≡ 8 → o < m 1 → none_there (view m) (m 0) (m 1) d ≡ false → Ready v marks a w [] l
    one_ready w es i k h c =
        let f : length w ≡ 8 = ap length i ∙ k in let b = there d c in folder_ready w b.0 b.1 h (omega arith) (omega arith)

  -- Create, of a file or a folder: k is the type, and i the inode that the first checks answered.
  module _ (k : Kind) (d : ℕ) (x : List ℕ) where
    made_action : action m (m 0) (m 1) (make_call k d x) ≡ create_action (view m) (m 0) (m 1) (type_of k) d x
    unfolding action
    made_action =
        elim k as (λ t. action m (m 0) (m 1) (make_call t d x) ≡ create_action (view m) (m 0) (m 1) (type_of t) d x)
        [ File ↦ refl | Folder ↦ refl ]

    made_came : came_to v l (make_call k d x) ≡ first_refusal (create_first v d x) (filled v l n places marks tree g (make_call k d x))
    made_came =
        elim k as (λ t. came_to v l (make_call t d x) ≡ first_refusal (create_first v d x) (filled v l n places marks tree g (make_call t d x)))
        [ File ↦ create_came v l n places marks tree g d x | Folder ↦ folder_came v l n places marks tree g d x ]

    pub create_told : (e : Refusal) (r : Result ℕ Refusal) → IsErrAnd r (λ d. d ≡ e)
        → meaning (Err e) ≡ numbered (first_refusal (create_first v d x) (done (new_inode v))) → Comes (came_to v l (make_call k d x)) l r l
    create_told e r p h = told v l (make_call k d x) (create_first v d x) _ made_came (new_inode v) e r p h

    module _ (i : ℕ) (h : meaning (Ok i) ≡ numbered (first_refusal (create_first v d x) (done (new_inode v)))) where
      inode_is : i ≡ new_inode v
      inode_is = same_number (create_first v d x) (new_inode v) i h

      all_pass : Passed (create_first v d x)
      all_pass = none_holds (create_first v d x) (new_inode v) i h

      inode_some : is_some (invalid_inode (view m) (m 0) (m 1)) ≡ true
      unfolding create_action
      inode_some = not-false (is_some (invalid_inode (view m) (m 0) (m 1))) all_pass.1.1.1.1.0

      pub create_there : none_there (view m) (m 0) (m 1) d ≡ false
      unfolding create_action
      create_there = all_pass.1.0

      found : (0 < i) × (i < m 1)
      found = rw inode_is (found_inode (view m) (m 0) (m 1) (invalid_inode (view m) (m 0) (m 1)) refl inode_some)

      not_zero : i ≡ 0 → ⊥
      not_zero z = let s = found.0 in omega arith

      pub create_below : i < m 1
      create_below = found.1

      -- w is the entry and a the append, as the code has them
      module _ (w : List ℕ) (o : w ≡ add_words i x) (a : Append) (f : a ≡ folder_append d true i 1 (type_of k)) where
        pub create_comes : (s : Result ℕ Refusal) (l' : List ℕ) → Comes (outcome v (action_of a w [])) l s l'
            → Comes (came_to v l (make_call k d x)) l s l'
        unfolding groups action_groups create_action outcome action_checks
        create_comes s l' y =
            let c = folder_outcome d true i 1 (type_of k) a f w (add_words i x ∷ []) _ _ (one_named w (add_words i x) o (add_long i x))
            (zeroed_new (folder_append d true i 1 (type_of k)) not_zero refl) (also_new (folder_append d true i 1 (type_of k)) not_zero) in
            comes_as (came_to v l (make_call k d x)) (outcome v (action_of a w [])) l s l'
            (passed v l (make_call k d x) (create_first v d x) _ made_came (new_inode v) i h
            ∙ rw (made_action, ← inode_is, same_view) (sym c)) y

  -- The inode that is let go, z: what `released` answered of the inode k that name x of folder d leads to.
  module _ (d : ℕ) (x : List ℕ) (k : ℕ) (q : k ≡ leads_in v d x) (z : ℕ) (b : z ≡ cond (eqb (state_in tree k) 3) 0 k) where
    abbrev names : ℕ
    names = name_count (m 1) (names_in v) (leads_in v d x)

    -- no name leads to it, its last one, or one of several
    lost_cases : ((z ≡ 0) × (release (view m) (m 0) (m 1) d x ≡ []))
        ⊎ ((z ≡ 0 → ⊥) × (z ≡ leads_in v d x) × (release (view m) (m 0) (m 1) d x ≡ (valid_word z, 0) ∷ []))
    unfolding release stands settled_state file_state
    lost_cases =
        by_eq (leads_in v d x) 0
        (λ o. inl (b ∙ by_bool (eqb (state_in tree k) 3) (λ t. rw t) (λ t. rw t (q ∙ o)), rw (eq-eqb (leads_in v d x) 0 o)))
        (λ o.
        let c = led_child d x o in
        let s = tree_here.state (leads_in v d x) c.1 in
        let last : (state_in tree (leads_in v d x) ≡ 3 → ⊥) → names ≡ 1
        → ((z ≡ 0 → ⊥) × (z ≡ leads_in v d x) × (release (view m) (m 0) (m 1) d x ≡ (valid_word z, 0) ∷ []))
        = λ h w. let y : z ≡ leads_in v d x = b ∙ rw (q, ne_eqb (state_in tree (leads_in v d x)) 3 h) in
        ((λ zero. o (sym y ∙ zero)), y, rw (ne_eqb (leads_in v d x) 0 o, eq-eqb names 1 w, y)) in
        by_bool (is_directory (view m) (leads_in v d x))
        (λ t. inr (last (λ h. let u : ◌≡◌ {A = ℕ} 6 3 = sym (rw (c.2, t) at s) ∙ h in absurd (omega arith))
        (fine_here.once (leads_in v d x) c.1 c.0 c.2 t)))
        (λ t. by_eq names 1
        (λ w. inr (last (λ h. let u : ◌≡◌ {A = ℕ} 2 3 = sym (rw (c.2, t, w) at s) ∙ h in absurd (omega arith)) w))
        (λ w. let a = led_count d x o in
        inl (b ∙ rw (q, rw (c.2, t, le-ltb names 2 (omega arith)) at s), rw (ne_eqb names 1 w, and-false)))))

    pub lost_low : z < m 1
    lost_low = ⊎_elim (λ h. rw h.0 some_inodes) (λ h. rw h.1 (led_below d x)) lost_cases

    lost_release : cond (not (eqb z 0)) ((valid_word z, 0) ∷ []) [] ≡ release (view m) (m 0) (m 1) d x
    lost_release = ⊎_elim (λ h. rw (eq-eqb z 0 h.0) (sym h.1)) (λ h. rw (ne_eqb z 0 h.0) (sym h.2)) lost_cases

    pub lost_after : cond (not (eqb z 0)) ((valid_word z, 0) ∷ []) [] ≡ release m (m 0) (m 1) d x
    lost_after = lost_release ∙ ap (λ (f : Mem). release f (m 0) (m 1) d x) same_view

  -- Unlink: i is the inode that the first checks answered, z what `released` did.
  module _ (d : ℕ) (x : List ℕ) where
    pub unlink_told : (e : Refusal) (r : Result ℕ Refusal) → IsErrAnd r (λ d. d ≡ e)
        → meaning (Err e) ≡ numbered (first_refusal (unlink_first v d x) (done (leads_in v d x))) → Comes (came_to v l (unlink d x)) l r l
    unlink_told e r p h = told v l (unlink d x) (unlink_first v d x) _ (unlink_came v l n places marks tree g d x) (leads_in v d x) e r p h

    module _ (i : ℕ) (h : meaning (Ok i) ≡ numbered (first_refusal (unlink_first v d x) (done (leads_in v d x)))) where
      pub unlink_i : i ≡ leads_in v d x
      unlink_i = same_number (unlink_first v d x) (leads_in v d x) i h

      pub unlink_below : i < m 1
      unlink_below = rw unlink_i (led_below d x)

      pub unlink_there : none_there (view m) (m 0) (m 1) d ≡ false
      unfolding unlink_action
      unlink_there = (or_false _ _ (none_holds (unlink_first v d x) (leads_in v d x) i h).1.0).0

      module _ (z : ℕ) (b : z ≡ cond (eqb (state_in tree i) 3) 0 i) (w : List ℕ) (o : w ≡ remove_words x) (a : Append)
          (f : a ≡ folder_append d false z 0 0) where
        pub unlink_comes : (s : Result ℕ Refusal) (l' : List ℕ) → Comes (outcome v (action_of a w [])) l s l' → Comes (came_to v l (unlink d x)) l s l'
        unfolding groups action action_groups unlink_action outcome action_checks also_committed
        unlink_comes s l' y =
            let c = folder_outcome d false z 0 0 a f w (remove_words x ∷ []) _ _ (one_named w (remove_words x) o (remove_long x))
            (zeroed_none (folder_append d false z 0 0) refl) (lost_after d x i unlink_i z b) in
            comes_as (came_to v l (unlink d x)) (outcome v (action_of a w [])) l s l'
            (passed v l (unlink d x) (unlink_first v d x) _ (unlink_came v l n places marks tree g d x) (leads_in v d x) i h
            ∙ rw same_view (sym c)) y

  -- Two names, a and b, in the folders f.
  module _ (f : TwoFolders) (a b : List ℕ) where
    abbrev led : Leads
    led = record { old = leads_in v f.old a; new = leads_in v f.new b; count = length (names_in v f.new) }

    led_so : Led v f a b led
    led_so = record { old = refl; new = refl; count = refl }

    module _ (e : Refusal) (r : Result ℕ Refusal) (p : IsErrAnd r (λ d. d ≡ e)) (h : done_meaning (Err e) ≡ no_number (given_comes v f a b)) where
      pub given_link : Comes (came_to v l (link f.old a f.new b)) l r l
      given_link =
          told_plain v l (link f.old a f.new b) (given_first v f a b) _ (link_came v l n places marks tree g f a b led led_so) e r p h

      pub given_rename : Comes (came_to v l (rename f.old a f.new b)) l r l
      given_rename =
          told_plain v l (rename f.old a f.new b) (given_first v f a b) _ (rename_came v l n places marks tree g f a b led led_so) e r p h

    module _ (t : ⊤) (h : done_meaning (Ok t) ≡ no_number (given_comes v f a b)) (k : Leads) (w : Led v f a b k) where
      pub both_there : (none_there (view m) (m 0) (m 1) f.old ≡ false) × (none_there (view m) (m 0) (m 1) f.new ≡ false)
      unfolding given_first
      both_there = or_false _ _ (none_hold (λ z. none) none (given_first v f a b) _ h).1.0

      pub given_inodes : Inodes v f k
      given_inodes =
          record {
            old_folder = (there f.old both_there.0).0;
            new_folder = (there f.new both_there.1).0;
            old = rw w.old (led_below f.old a);
            new = rw w.new (led_below f.new b);
          }

      -- Link: c is the inode that the last checks answered.
      link_next : came_to v l (link f.old a f.new b)
          ≡ first_refusal (link_last v f k) (filled v l n places marks tree g (link f.old a f.new b))
      link_next =
          passed_plain v l (link f.old a f.new b) (given_first v f a b) _ (link_came v l n places marks tree g f a b k w) t h

      pub link_told : (e : Refusal) (r : Result ℕ Refusal) → IsErrAnd r (λ d. d ≡ e)
          → meaning (Err e) ≡ numbered (first_refusal (link_last v f k) (done k.old)) → Comes (came_to v l (link f.old a f.new b)) l r l
      link_told e r p y = told v l (link f.old a f.new b) (link_last v f k) _ link_next k.old e r p y

      module _ (c : ℕ) (y : meaning (Ok c) ≡ numbered (first_refusal (link_last v f k) (done k.old))) (ws : List ℕ) (o : ws ≡ add_words c b)
          (d : Append) (q : d ≡ folder_append f.new true 0 0 0) where
        old_led : c ≡ leads_in v f.old a
        old_led = same_number (link_last v f k) k.old c y ∙ w.old

        pub link_comes : (x : Result ℕ Refusal) (l' : List ℕ) → Comes (outcome v (action_of d ws [])) l x l'
            → Comes (came_to v l (link f.old a f.new b)) l x l'
        unfolding groups action action_groups link_action outcome action_checks
        link_comes x l' z =
            let u = folder_outcome f.new true 0 0 0 d q ws (add_words c b ∷ []) _ _ (one_named ws (add_words c b) o (add_long c b))
            (zeroed_none (folder_append f.new true 0 0 0) refl) (also_nothing (folder_append f.new true 0 0 0) refl) in
            comes_as (came_to v l (link f.old a f.new b)) (outcome v (action_of d ws [])) l x l'
            (passed v l (link f.old a f.new b) (link_last v f k) _ link_next k.old c y ∙ rw (← old_led, same_view) (sym u)) z

      -- Rename: c is the number that the last checks answered.
      abbrev call : Call
      call = rename f.old a f.new b

      abbrev absent : Checks
      absent = (absent_in v f.old k.old, not_there) ∷ []

      rename_next : came_to v l call
          ≡ first_refusal absent
          (cond (are_same v f k) (done []) (first_refusal (rename_last v f k) (filled v l n places marks tree g call)))
      rename_next = passed_plain v l call (given_first v f a b) _ (rename_came v l n places marks tree g f a b k w) t h

      module _ (q : are_same v f k ≡ true) where
        same_came : came_to v l call ≡ first_refusal absent (done [])
        same_came = rename_next ∙ rw q

        same_answer : (s : Result ℕ Refusal) → meaning s ≡ numbered (rename_comes v f k) → meaning s ≡ numbered (first_refusal absent (done 0))
        unfolding rename_comes
        same_answer s y = y ∙ rw q

      module _ (q : are_same v f k ≡ false) where
        other_came : came_to v l call ≡ first_refusal (absent ++ rename_last v f k) (filled v l n places marks tree g call)
        other_came = rename_next ∙ rw q

        other_answer : (s : Result ℕ Refusal) → meaning s ≡ numbered (rename_comes v f k)
            → meaning s ≡ numbered (first_refusal (absent ++ rename_last v f k) (done k.old))
        unfolding rename_comes
        other_answer s y = y ∙ rw q

      pub rename_told : (e : Refusal) (r : Result ℕ Refusal) → IsErrAnd r (λ d. d ≡ e) → meaning (Err e) ≡ numbered (rename_comes v f k)
          → Comes (came_to v l call) l r l
      rename_told e r p y =
          by_bool (are_same v f k)
          (λ q. told v l call absent (done []) (same_came q) 0 e r p (same_answer q (Err e) y))
          (λ q. told v l call (absent ++ rename_last v f k) _ (other_came q) k.old e r p (other_answer q (Err e) y))

      module _ (c : ℕ) (y : meaning (Ok c) ≡ numbered (rename_comes v f k)) where
        -- no inode is inode 0, so that 0 says that both names lead to one
        pub rename_same : c ≡ 0 → Comes (came_to v l call) l (Ok 0) l
        unfolding rename_last absent_in are_folders
        rename_same zero =
            by_bool (are_same v f k)
            (λ q. comes_none (came_to v l call) l (passed v l call absent (done []) (same_came q) 0 c (same_answer q (Ok c) y)))
            (λ q.
            let is-old : c ≡ k.old = same_number (absent ++ rename_last v f k) k.old c (other_answer q (Ok c) y) in
            let pass = none_holds (absent ++ rename_last v f k) k.old c (other_answer q (Ok c) y) in
            let both = not-false _ (or_false _ _ pass.1.0).0 in
            let dir : is_directory (view m) f.old ≡ true = and_left _ _ both in
            no (sym (rw (dir, ← is-old, eq-eqb c 0 zero) at pass.0)))

        module _ (other : c ≡ 0 → ⊥) where
          differ : are_same v f k ≡ false
          differ = by_bool (are_same v f k) (λ q. absurd (other (same_number absent 0 c (same_answer q (Ok c) y)))) (λ q. q)

          different : same_inode (view m) (m 0) (m 1) f.old a f.new b ≡ false
          unfolding same_inode are_same are_folders
          different = rw (← w.old, ← w.new) differ

          rename_old : c ≡ leads_in v f.old a
          rename_old = same_number (absent ++ rename_last v f k) k.old c (other_answer differ (Ok c) y) ∙ w.old

          rename_behind : came_to v l call ≡ filled v l n places marks tree g call
          rename_behind = passed v l call (absent ++ rename_last v f k) _ (other_came differ) k.old c (other_answer differ (Ok c) y)

          -- z is what `released` answered; e₀ and e₁ are the two entries, as the code has them
          module _ (z : ℕ) (x : z ≡ cond (eqb (state_in tree k.new) 3) 0 k.new) (e₀ e₁ w₀ w₁ ws : List ℕ)
              (q₀ : Put w₀ w₁ 0 e₀) (q₁ : Put w₁ ws 1 e₁) (o : length w₀ ≡ 16) (d : Append) (q : d ≡ rename_append f z) where
            two_long : length ws ≡ 16
            two_long = q₁.long ∙ q₀.long ∙ o

            low : z < m 1
            low = lost_low f.new b k.new w.new z x

            one_is : f.old ≡ f.new → d ≡ folder_append f.old false z 0 0
            unfolding rename_append
            one_is h = q ∙ rw (eq-eqb f.old f.new h)

            two_is : (f.old ≡ f.new → ⊥) → d ≡ move_append f.old f.new z
            unfolding rename_append
            two_is h = q ∙ rw (ne_eqb f.old f.new h)

            pub rename_ready : Ready v marks d ws [] l
            unfolding first_count
            rename_ready =
                let u = list_long in let y₀ = there f.old both_there.0 in let y₁ = there f.new both_there.1 in
                let s₂ = two_long in
                by_eq f.old f.new
                (λ h. folder_ready f.old false z 0 0 d (one_is h) ws y₀.0 y₀.1 low (omega arith) (omega arith))
                (λ h. rw (two_is h)
                record {
                  volume = closed_here;
                  log = y₀.0;
                  valid = y₀.1;
                  second = y₁.0;
                  second_valid = y₁.1;
                  other = low;
                  moved = omega arith;
                  some_entry = λ t. omega arith;
                  few = omega arith;
                  whole = refl;
                  nine = omega arith;
                  file = omega arith;
                  room = omega arith;
                })

            module _ (p₀ : e₀ ≡ remove_words a) (p₁ : e₁ ≡ add_words c b) where
              two_entries : entries_of ws 0 2 ≡ remove_words a ∷ add_words c b ∷ []
              two_entries = rw (← p₀, ← p₁) (put_two w₀ w₁ ws e₀ e₁ q₀ q₁).entries

              move_asked : action_of (move_append f.old f.new z) ws []
                  ≡ plain false (entries_only false f.old (remove_words a ∷ []) ∷ entries_only false f.new (add_words c b ∷ []) ∷ [])
                  (zeroed (move_append f.old f.new z)) (also_committed (move_append f.old f.new z))
              unfolding action_of asked second_asked first_count entries_only element entries_of
              move_asked =
                  let h : part ws 0 8 ≡ remove_words a = ap (λ (y : List (List ℕ)). get_or y 0 []) two_entries in
                  let i : part ws 8 8 ≡ add_words c b = ap (λ (y : List (List ℕ)). get_or y 1 []) two_entries in
                  rw (two_long, h, i)

              rename_asked : outcome v (action_of d ws [])
                  ≡ outcome v (plain false (rename_appends (view m) (m 0) (m 1) f.old a f.new b) no_words
                  (release m (m 0) (m 1) f.new b))
              unfolding rename_appends also_committed
              rename_asked =
                  let y = lost_after f.new b k.new w.new z x in
                  by_eq f.old f.new
                  (λ h. folder_outcome f.old false z 0 0 d (one_is h) ws (remove_words a ∷ add_words c b ∷ []) _ _
                  (rw two_long two_entries) (zeroed_none (folder_append f.old false z 0 0) refl) y
                  ∙ rw (eq-eqb f.old f.new h, ← rename_old))
                  (λ h.
                  rw (two_is h, ne_eqb f.old f.new h, move_asked, zeroed_none (move_append f.old f.new z) refl, y, ← rename_old))

              pub rename_comes_lem : (x' : Result ℕ Refusal) (l' : List ℕ) → Comes (outcome v (action_of d ws [])) l x' l' → Comes (came_to v l call) l x' l'
              unfolding groups action action_groups rename_action outcome action_checks
              rename_comes_lem x' l' y' =
                  comes_as (came_to v l call) (outcome v (action_of d ws [])) l x' l'
                  (rename_behind ∙ rw (different, same_view) (sym (rw same_view at rename_asked))) y'

  -- the same with the folders as numbers, from which a caller's record is made
  module _ (d₀ d₁ : ℕ) (a b : List ℕ) where
    abbrev between : TwoFolders
    between = record { old = d₀; new = d₁ }

    module _ (e : Refusal) (r : Result ℕ Refusal) (p : IsErrAnd r (λ d. d ≡ e)) where
      module _ (h : done_meaning (Err e) ≡ no_number (given_comes v between a b)) where
        pub link_bad : Comes (came_to v l (link d₀ a d₁ b)) l r l
        link_bad = given_link between a b e r p h

        pub rename_bad : Comes (came_to v l (rename d₀ a d₁ b)) l r l
        rename_bad = given_rename between a b e r p h

      module _ (t : ⊤) (h : done_meaning (Ok t) ≡ no_number (given_comes v between a b)) (k : Leads) (w : Led v between a b k) where
        pub link_not : meaning (Err e) ≡ numbered (first_refusal (link_last v between k) (done k.old)) → Comes (came_to v l (link d₀ a d₁ b)) l r l
        link_not y = link_told between a b t h k w e r p y

        pub rename_not : meaning (Err e) ≡ numbered (rename_comes v between k) → Comes (came_to v l (rename d₀ a d₁ b)) l r l
        rename_not y = rename_told between a b t h k w e r p y

    pub rename_none : (t : ⊤) → done_meaning (Ok t) ≡ no_number (given_comes v between a b) → (k : Leads) → Led v between a b k
        → (c : ℕ) → meaning (Ok c) ≡ numbered (rename_comes v between k) → c ≡ 0 → Comes (came_to v l (rename d₀ a d₁ b)) l (Ok 0) l
    rename_none t h k w c y o = rename_same between a b t h k w c y o
