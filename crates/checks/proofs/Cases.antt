-- Each test of the code is one of the checks, and those before it did not hold. Premises are what the code knows.
use Rattle.model.proofs.Prelude.{ℕ, ◌≤◌, ◌<◌, ◌≡◌, refl, sym, ◌∙◌, Bool, true, false, not, cond, List, [], ◌∷◌, ◌++◌, none, some, le-leb, lt-leb, eq-eqb, ne_eqb, not-true, not-false, leb, eqb, ltb, length, take, le-ltb, lt-ltb, arith}
use Rattle.std.specs.Prelude.{Option, Some, None, Result, Ok, Err, IsErrAnd, is_some, ok_or}
use Rattle.model.specs.Words.{Mem, word}
use Rattle.model.specs.Layout.{is_directory}
use Rattle.model.specs.Journal.{view}
use Rattle.model.specs.Entry.{name_ok, new_name_ok}
use Rattle.model.specs.State.{inode_of}
use Rattle.model.specs.Answer.{refused, done, Checks, first_refusal, bad_name, not_there, taken, no_inode, directory_full, wrong_type, not_empty}
use Rattle.model.specs.Calls.{none_there, stands, is_absent, is_full, invalid_inode, create_action, unlink_action}
use Rattle.model.proofs.Tests.{by_eq, by_lt}
use Rattle.directory.specs.Places.{standing}
use Rattle.names.specs.Inodes.{below, valid_in}
use Rattle.layout.specs.Options.{to_model}
use Rattle.names.specs.Listed.{names_in, Turned}
use Rattle.names.specs.declared.FolderNames.{FolderNames}
use Rattle.names.proofs.Lowest.{invalid_from, inode_some, inode_is}
use Rattle.lookup.specs.Found.{found_inode}
use Rattle.answer.specs.Meaning.{meaning, numbered, plain, number_of}
use Rattle.answer.specs.declared.Refusal.{Refusal}
use Rattle.answer.specs.declared.Refusal.TheVariants.{NotThere, NoInode}
use Rattle.answer.proofs.Checked.{checks_after, passed_on, same_refusal, none_refuses, same_number}
use Rattle.tree.specs.Table.{above_in}
use Rattle.tree.proofs.Meanings.{beneath_is}
use Rattle.survey.specs.Surveyed.{TreeOf}
use Rattle.checks.specs.declared.TwoFolders.{TwoFolders}
use Rattle.checks.specs.declared.Leads.{Leads}
use Rattle.checks.specs.Names.{leads_in, new_inode, find_first, create_first, unlink_first, has_names_in, given_first, given_comes, is_into}
use Rattle.checks.proofs.Volumes.{turned_count, turned_leads}

-- what `is_valid` answered of inode d, q, is whether it is there
pub there_is : (v : List ℕ) (N d : ℕ) (q : Bool) → N ≡ word v 1 → q ≡ valid_in (view (word v)) N d
    → none_there (view (word v)) (word v 0) (word v 1) d ≡ not q
unfolding none_there valid_in below
there_is v N d q e a =
    rw (a, e)
    (by_lt d (word v 1) (λ l. rw (lt-leb (word v 1) d l, lt-ltb d (word v 1) l)) (λ l. rw (le-leb (word v 1) d l, le-ltb d (word v 1) l)))

-- what `ok_or` made of o, by what came of it
missing : (o : Option ℕ) (e d : Refusal) → Err e ≡ ok_or {T = ℕ} o d → (is_some o ≡ false) × (e ≡ d)
missing None e d h = (refl, let q : ◌≡◌ {A = Result ℕ Refusal} (Err e) (Err d) = h in cc)
missing (Some k) e d h = let q : ◌≡◌ {A = ℕ} 0 1 = cc in absurd (omega arith)

found : (o : Option ℕ) (k : ℕ) (d : Refusal) → Ok k ≡ ok_or {T = ℕ} o d → o ≡ Some k
found None k d h = let q : ◌≡◌ {A = ℕ} 0 1 = cc in absurd (omega arith)
found (Some j) k d h = cc

-- one name: n, in folder d
module _ (v : List ℕ) (d : ℕ) (n : List ℕ) where
  abbrev u : Mem
  u = view (word v)

  abbrev P : ℕ
  P = word v 0

  abbrev N : ℕ
  N = word v 1

  -- f is what `is_name` answered
  module _ (f : Bool) (a : f ≡ name_ok n) where
    pub find_bad : not f ≡ true → refused bad_name ≡ numbered (first_refusal (find_first v d n) (done (leads_in v d n)))
    unfolding find_first
    find_bad y = rw (← a, not-true f y)

    -- q is what `is_valid` answered of inode d
    module _ (y : not f ≡ false) (N' : ℕ) (o : N' ≡ word v 1) (q : Bool) (b : q ≡ valid_in u N' d) where
      pub find_none : not q ≡ true → refused not_there ≡ numbered (first_refusal (find_first v d n) (done (leads_in v d n)))
      unfolding find_first
      find_none z = rw (← a, not-false f y, there_is v N' d q o b, not-true q z)

      -- i is what `is_directory` answered of d
      module _ (z : not q ≡ false) (i : Bool) (l : i ≡ is_directory u d) where
        pub find_file : not i ≡ true → refused wrong_type ≡ numbered (first_refusal (find_first v d n) (done (leads_in v d n)))
        unfolding find_first is_absent
        find_file s = rw (← a, not-false f y, there_is v N' d q o b, not-false q z, ← l, not-true i s)

        -- In a table turned to d, m is what `find_name` answered, and x the answer that `ok_or` makes of it.
        module _ (s : not i ≡ false) (r : FolderNames) (t : List ℕ) (w : Turned v d r t) (m : Option ℕ)
            (e : m ≡ found_inode (standing (word v) (take r.count t)) n) where
          pub find_last : (x : Result ℕ Refusal) → x ≡ ok_or m NotThere
              → meaning x ≡ numbered (first_refusal (find_first v d n) (done (leads_in v d n)))
          unfolding find_first is_absent stands
          find_last x o₂ =
              let k = inode_of (standing (word v) (take r.count t)) n in
              let k_is : leads_in v d n ≡ k = sym (turned_leads v d r t w n k refl) in
              rw (← a, not-false f y, there_is v N' d q o b, not-false q z, ← l, not-false i s, k_is)
              (by_eq k 0 (λ g. rw (o₂, e, eq-eqb k 0 g)) (λ g. rw (o₂, e, ne_eqb k 0 g)))

  -- Create: f is what `is_new_name` answered.
  module _ (f : Bool) (a : f ≡ new_name_ok n) where
    pub create_bad : not f ≡ true → refused bad_name ≡ numbered (first_refusal (create_first v d n) (done (new_inode v)))
    unfolding create_action
    create_bad y = rw (← a, not-true f y)

    module _ (y : not f ≡ false) (N' : ℕ) (o : N' ≡ word v 1) (q : Bool) (b : q ≡ valid_in u N' d) where
      pub create_none : not q ≡ true → refused not_there ≡ numbered (first_refusal (create_first v d n) (done (new_inode v)))
      unfolding create_action
      create_none z = rw (← a, not-false f y, there_is v N' d q o b, not-true q z)

      -- m is what `find_name` answered, and k whether it is an inode
      module _ (z : not q ≡ false) (r : FolderNames) (t : List ℕ) (w : Turned v d r t) (m : Option ℕ)
          (e : m ≡ found_inode (standing (word v) (take r.count t)) n) (k : Bool) (g₀ : k ≡ is_some m) where
        stands_is : stands u P N d n ≡ k
        unfolding stands
        stands_is =
            let L = inode_of (standing (word v) (take r.count t)) n in
            rw (← (turned_leads v d r t w n L refl)) (by_eq L 0 (λ h. rw (g₀, e, eq-eqb L 0 h)) (λ h. rw (g₀, e, ne_eqb L 0 h)))

        pub create_taken : k ≡ true → refused taken ≡ numbered (first_refusal (create_first v d n) (done (new_inode v)))
        unfolding create_action
        create_taken x = rw (← a, not-false f y, there_is v N' d q o b, not-false q z, stands_is, x)

        -- i is what `is_directory` answered of d
        module _ (x : k ≡ false) (i : Bool) (l : i ≡ is_directory u d) where
          pub create_file : not i ≡ true → refused wrong_type ≡ numbered (first_refusal (create_first v d n) (done (new_inode v)))
          unfolding create_action
          create_file s = rw (← a, not-false f y, there_is v N' d q o b, not-false q z, stands_is, x, ← l, not-true i s)

          -- j is what `free_inode` answered
          module _ (s : not i ≡ false) (j : Option ℕ) (p : to_model j ≡ invalid_from u N' 1) where
            inode_asked : first_refusal (create_first v d n) (done (new_inode v))
                ≡ cond (not (is_some j)) (refused no_inode) (cond (leb 224 r.count) (refused directory_full) (done (new_inode v)))
            unfolding create_action is_full
            inode_asked =
                rw (
                  ← a,
                  not-false f y,
                  there_is v N' d q o b,
                  not-false q z,
                  stands_is,
                  x,
                  ← l,
                  not-false i s,
                  inode_some u P N j (rw o at p),
                  turned_count v d r t w,
                )

            -- `ok_or` makes a refusal of it, ..
            pub create_no_inode : (g : Refusal) (h : Result ℕ Refusal) → IsErrAnd h (λ c. c ≡ g) → Err g ≡ ok_or j NoInode
                → meaning h ≡ numbered (first_refusal (create_first v d n) (done (new_inode v)))
            create_no_inode g h c k = let m = missing j g NoInode k in rw (passed_on g h c, inode_asked, m.0, m.1)

            -- .. or its number
            module _ (j₀ : ℕ) (h : Ok j₀ ≡ ok_or j NoInode) where
              there : j ≡ Some j₀
              there = found j j₀ NoInode h

              pub create_full : 224 ≤ r.count → refused directory_full ≡ numbered (first_refusal (create_first v d n) (done (new_inode v)))
              create_full m = rw (inode_asked, there, le-leb 224 r.count m)

              pub create_is : r.count < 224 → done (some j₀) ≡ numbered (first_refusal (create_first v d n) (done (new_inode v)))
              create_is m =
                  let g : some j₀ ≡ invalid_inode u P N = rw there at (inode_is u P N j (rw o at p)) in
                  rw (inode_asked, there, lt-leb 224 r.count m, ← g)

  -- Unlink asks what find asks, and then one thing more.
  abbrev last : Checks
  last = (ltb 0 (length (names_in v (leads_in v d n))), not_empty) ∷ []

  unlink_all : unlink_first v d n ≡ find_first v d n ++ last
  unfolding unlink_action find_first
  unlink_all = refl

  -- `find_checks` refused with e, ..
  pub unlink_refused : (e : Refusal) (r : Result ℕ Refusal) → IsErrAnd r (λ d. d ≡ e)
      → meaning (Err e) ≡ numbered (first_refusal (find_first v d n) (done (leads_in v d n)))
      → meaning r ≡ numbered (first_refusal (unlink_first v d n) (done (leads_in v d n)))
  unlink_refused e r p h =
      rw (passed_on e r p, unlink_all, checks_after (find_first v d n) last (done (leads_in v d n)))
      (rw (same_refusal (number_of e) (find_first v d n) _ h (first_refusal last (done (leads_in v d n)))))

  -- .. or answered i
  module _ (i : ℕ) (h : meaning (Ok i) ≡ numbered (first_refusal (find_first v d n) (done (leads_in v d n)))) where
    -- f is what `has_names` answered
    module _ (f : Bool) (a : f ≡ has_names_in v i) where
      inode_led : i ≡ leads_in v d n
      inode_led = same_number (find_first v d n) (leads_in v d n) i h

      some_names : ltb 0 (length (names_in v (leads_in v d n))) ≡ f
      unfolding has_names_in
      some_names = rw (a, inode_led) (positive (length (names_in v (leads_in v d n))))
        where
          positive : (x : ℕ) → ltb 0 x ≡ not (eqb x 0)
          positive x = by_eq x 0 (λ e. rw e) (λ e. rw (lt-ltb 0 x (omega arith), ne_eqb x 0 e))

      behind : first_refusal (unlink_first v d n) (done (leads_in v d n)) ≡ first_refusal last (done (leads_in v d n))
      behind = rw (unlink_all, checks_after (find_first v d n) last (done (leads_in v d n)))
          (none_refuses (find_first v d n) (leads_in v d n) i h (first_refusal last (done (leads_in v d n))))

      pub unlink_full : f ≡ true → refused not_empty ≡ numbered (first_refusal (unlink_first v d n) (done (leads_in v d n)))
      unlink_full y = rw (behind, some_names, y)

      pub unlink_is : f ≡ false → done (some i) ≡ numbered (first_refusal (unlink_first v d n) (done (leads_in v d n)))
      unlink_is y = rw (behind, some_names, y, ← inode_led)

-- two names: a and b, in the folders of x
module _ (v : List ℕ) (x : TwoFolders) (a b : List ℕ) where
  -- f is what `is_name` answered of a, g what `is_new_name` answered of b
  module _ (f : Bool) (e : f ≡ name_ok a) where
    module _ (y : not f ≡ false) (g : Bool) (h : g ≡ new_name_ok b) where
      -- q and q' are what `is_valid` answered of the folders
      module _ (z : not g ≡ false) (N : ℕ) (o : N ≡ word v 1) (q : Bool) (p : q ≡ valid_in (view (word v)) N x.old) where
        pub given_no_old : not q ≡ true → refused not_there ≡ plain (given_comes v x a b)
        unfolding given_first
        given_no_old l = rw (← e, not-false f y, ← h, not-false g z, there_is v N x.old q o p, not-true q l)

        module _ (l : not q ≡ false) (q' : Bool) (p' : q' ≡ valid_in (view (word v)) N x.new) where
          new_asked : given_comes v x a b ≡ cond (not q') (refused not_there) (done record {})
          unfolding given_first
          new_asked =
              rw (← e, not-false f y, ← h, not-false g z, there_is v N x.old q o p, not-false q l, there_is v N x.new q' o p')

          pub given_no_new : not q' ≡ true → refused not_there ≡ plain (given_comes v x a b)
          given_no_new i = rw (new_asked, i)

          pub given_is : not q' ≡ false → done none ≡ plain (given_comes v x a b)
          given_is i = rw (new_asked, i)

-- the old name leads to a folder: g is what `is_beneath` answered
pub into_folder : (v : List ℕ) (x : TwoFolders) (k : Leads) (f : Bool) → f ≡ is_directory (view (word v)) k.old → f ≡ true
    → (t : List ℕ) → TreeOf (word v) t → x.new < word v 1 → (N : ℕ) → N ≡ word v 1 → (g : Bool) → g ≡ above_in t N k.old x.new
    → g ≡ is_into v x k
unfolding is_into
into_folder v x k f e y t s l N o g i = rw (← e, y) (i ∙ rw o (beneath_is (word v 1) (names_in v) t s.parent k.old x.new l))
