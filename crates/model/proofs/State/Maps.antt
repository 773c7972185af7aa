-- The file map after each call, from the names of folders, the valid words, the types and the bytes of files after it: maps are the same if
-- each folder and each file is.
use Rattle.model.proofs.Prelude.{◌≡◌, refl, sym, ◌∙◌, ap, fun_ext, ℕ, ◌+◌, ◌-◌, ◌≤◌, ◌<◌, Bool, true, false, cond, ◌&&◌, ◌||◌, not, and-false, List, [], Option, none, some, arith, length, ltb, eqb, eq-eqb, ne_eqb, ltb-true, lt-ltb, not-true}
use Rattle.model.specs.Lists.{values_from, or_else}
use Rattle.model.specs.Words.{Mem}
use Rattle.model.specs.Layout.{root, is_directory}
use Rattle.model.specs.State.{Names, empty_file, file_of, bytes_of, without, with_name, inode_of}
use Rattle.model.specs.Tree.{Folders, name_count}
use Rattle.model.specs.Accept.{is_valid, is_file, is_folder, folders_of}
use Rattle.model.specs.FileMap.{FileMap, map_of, with_file, with_names, names_in, drop_unnamed, sized, laid_over, bytes_in, new_inode, named, unnamed}
use Rattle.model.specs.FileMap.{map_after, create, create_folder, link, unlink, rename, write, set_size}
use Rattle.model.specs.Calls.{invalid_inode}
use Rattle.model.proofs.Tests.{by_bool, by_eq, clash, no}
use Rattle.model.proofs.Tree.{with_folder}
use Rattle.model.proofs.Lists.{lowest_is, lowest_same}
use Rattle.model.proofs.State.Bytes.{sized_same, length_bytes}

-- the bytes of file k are as they were
abbrev pub SameBytes : Mem → Mem → ℕ → ℕ → ℕ → Type 0
SameBytes u u' P N k = bytes_of u' (file_of u' P N k) ≡ bytes_of u (file_of u P N k)

map_same : (M M' : FileMap) → ((k : ℕ) → M.folders k ≡ M'.folders k) → ((k : ℕ) → M.files k ≡ M'.files k) → M ≡ M'
map_same M M' n f = λ i. record { folders = λ k. n k i; files = λ k. f k i }

-- the folders of a map are those of which t holds, with the names G
abbrev Shows : FileMap → (ℕ → Bool) → Folders → Type 0
Shows M t G = (k : ℕ) → M.folders k ≡ cond (t k) (some (G k)) none

-- whether the map of a view shows folder k
abbrev pub shown : Mem → ℕ → ℕ → Bool
shown u N k = ltb k N && is_folder u k

module _ (u : Mem) (P N : ℕ) where
  shows_map : Shows (map_of u P N) (shown u N) (folders_of u P N)
  unfolding map_of folders_of
  shows_map k = by_bool (ltb k N && is_folder u k) (λ t. rw t) (λ t. rw t)

  none_else : (k : ℕ) → shown u N k ≡ false → folders_of u P N k ≡ []
  unfolding folders_of
  none_else k e = rw e

module _ (M : FileMap) (t : ℕ → Bool) (G : Folders) (s : Shows M t G) where
  shows_with : (d : ℕ) (ns : Names) → t d ≡ true → Shows (with_names d (some ns) M) t (with_folder d ns G)
  unfolding with_names with_folder
  shows_with d ns e k = by_eq k d (λ q. rw (eq-eqb k d q, q, e)) (λ q. rw (ne_eqb k d q) (s k))

  names_shown : ((k : ℕ) → t k ≡ false → G k ≡ []) → names_in M ≡ G
  unfolding names_in
  names_shown z = fun_ext (λ k. rw (s k) (by_bool (t k) (λ e. rw e) (λ e. rw e (sym (z k e)))))

  with_else : (d : ℕ) (ns : Names) → t d ≡ true → ((k : ℕ) → t k ≡ false → G k ≡ []) → (k : ℕ) → t k ≡ false → with_folder d ns G k ≡ []
  unfolding with_folder
  with_else d ns e z k f = rw (ne_eqb k d (λ q. clash (t d) e (rw q at f))) (z k f)

files_with : (d : ℕ) (o : Option Names) (M : FileMap) (k : ℕ) → (with_names d o M).files k ≡ M.files k
unfolding with_names
files_with d o M k = refl

pub no_bytes : (N k o : ℕ) (bs : List ℕ) (M : FileMap) → length bs ≡ 0 → map_after N (write k o bs) M ≡ M
unfolding map_after
no_bytes N k o bs M h = rw (eq-eqb _ _ h)

-- One inode of a map.

module _ (u : Mem) (P N : ℕ) where
  file_at : (k : ℕ) → k < N → is_file u k ≡ true → (map_of u P N).files k ≡ some (bytes_of u (file_of u P N k))
  unfolding map_of
  file_at k l f = rw (lt-ltb k N l, f)

  no_file : (k : ℕ) → (k < N → is_file u k ≡ false) → (map_of u P N).files k ≡ none
  unfolding map_of
  no_file k f = by_bool (ltb k N) (λ t. rw (t, f (ltb-true k N t))) (λ t. rw t)

  bytes_at : (k : ℕ) → k < N → is_file u k ≡ true → bytes_in (map_of u P N) k ≡ bytes_of u (file_of u P N k)
  unfolding bytes_in
  bytes_at k l f = rw (file_at k l f)

  -- a valid folder is shown
  pub is_shown : (k : ℕ) → k < N → is_valid u k ≡ true → is_directory u k ≡ true → shown u N k ≡ true
  is_shown k l v c = rw (lt-ltb k N l, c, v)

  pub same_size : (k s : ℕ) → k < N → is_file u k ≡ true → s ≡ (file_of u P N k).size → map_after N (set_size k s) (map_of u P N) ≡ map_of u P N
  unfolding map_after with_file
  same_size k s l f e =
      rw (bytes_at k l f, sized_same (bytes_of u (file_of u P N k)) s (length_bytes u (file_of u P N k) ∙ sym e))
      (map_same _ _ (λ i. refl) (λ i. by_eq i k (λ q. rw (eq-eqb i k q, q) (sym (file_at k l f))) (λ q. rw (ne_eqb i k q))))

  pub rename_same : (d : ℕ) (a : List ℕ) (e : ℕ) (b : List ℕ) → inode_of (folders_of u P N d) a ≡ inode_of (folders_of u P N e) b
      → map_after N (rename d a e b) (map_of u P N) ≡ map_of u P N
  unfolding map_after
  rename_same d a e b h =
      rw (names_shown (map_of u P N) (shown u N) (folders_of u P N) (shows_map u P N) (none_else u P N), eq-eqb _ _ h)

  -- the inode that create takes
  pub create_inode : (i : ℕ) → invalid_inode u P N ≡ some i → (is_valid u i ≡ false) × (1 ≤ i) × (i < N)
  unfolding invalid_inode
  create_inode i e =
      let r = lowest_is (λ k. not (is_valid u k)) (N - 1) 1 i e in
      (not-true (is_valid u i) r.holds, r.from, omega (arith, r.from, r.below))

  pub new_inode_lem : new_inode N (map_of u P N) ≡ or_else (invalid_inode u P N) 0
  unfolding new_inode invalid_inode map_of
  new_inode_lem =
      ap (λ x. or_else x 0) (lowest_same _ _ (N - 1) 1 (λ k a b.
      rw (lt-ltb k N (omega arith)) (by_bool (is_valid u k)
      (λ v. by_bool (is_directory u k) (λ c. rw (v, c)) (λ c. rw (v, c))) (λ v. rw (v, and-false, and-false)))))

-- The map after each call, from the view u before it to the view u' after it.

module _ (u u' : Mem) (P N : ℕ) where
  abbrev F : Folders
  F = folders_of u P N

  -- folder or file k as before
  module _ (k : ℕ) (valids : k < N → is_valid u' k ≡ is_valid u k)
      (dirs : k < N → is_valid u k ≡ true → is_directory u' k ≡ is_directory u k) where
    shown_same : shown u' N k ≡ shown u N k
    shown_same =
        by_bool (ltb k N)
        (λ t. let l = ltb-true k N t in rw (t, valids l)
        (by_bool (is_valid u k) (λ v. rw (v, dirs l v)) (λ v. rw (v, and-false, and-false))))
        (λ t. rw t)

    files_same : (k < N → is_file u' k ≡ true → SameBytes u u' P N k) → (map_of u' P N).files k ≡ (map_of u P N).files k
    unfolding map_of
    files_same b =
        by_bool (ltb k N)
        (λ t. let l = ltb-true k N t in
        by_bool (is_valid u k)
        (λ v. let q : is_file u' k ≡ is_file u k = rw (valids l, dirs l v) in
        by_bool (is_file u k) (λ f. rw (t, q, f, b l (q ∙ f))) (λ f. rw (t, q, f)))
        (λ v. rw (t, valids l, v, and-false, and-false)))
        (λ t. rw t)

  -- whether inode j goes with a name
  abbrev goes : ℕ → Bool
  goes j = not (eqb j 0) && eqb (name_count N F j) 1

  -- A name less of inode j: M is the map with the folders G, and G are the folders after it.
  module _ (M : FileMap) (G : Folders) (s : Shows M (shown u N) G) (z : (k : ℕ) → shown u N k ≡ false → G k ≡ [])
      (fs : (k : ℕ) → M.files k ≡ (map_of u P N).files k)
      (now : folders_of u' P N ≡ G) (j : ℕ) (less : (j ≡ 0 → ⊥) → name_count N G j + 1 ≡ name_count N F j)
      (valids : (k : ℕ) → k < N → is_valid u' k ≡ cond (eqb k j && goes j) false (is_valid u k))
      (dirs : (k : ℕ) → k < N → is_valid u k ≡ true → is_directory u' k ≡ is_directory u k)
      (bytes : (k : ℕ) → k < N → is_file u' k ≡ true → SameBytes u u' P N k) where
    drops : eqb j root || not (eqb (name_count N (names_in M) j) 0) ≡ not (goes j)
    drops =
        rw (names_shown M (shown u N) G s z) (by_eq j 0 (λ q. rw (eq-eqb j 0 q))
        (λ q. let c = less q in
        by_eq (name_count N F j) 1 (λ e. rw (ne_eqb j 0 q, eq-eqb _ _ e, eq-eqb (name_count N G j) 0 (omega arith)))
        (λ e. rw (ne_eqb j 0 q, ne_eqb _ _ e, ne_eqb (name_count N G j) 0 (λ r. omega arith)))))

    stays : (k : ℕ) → eqb k j && goes j ≡ false → ((map_of u' P N).folders k ≡ M.folders k) × ((map_of u' P N).files k ≡ M.files k)
    stays k e =
        let v : k < N → is_valid u' k ≡ is_valid u k = λ l. rw e at (valids k l) in
        (shows_map u' P N k ∙ rw (shown_same k v (dirs k), now) (sym (s k)), files_same k v (dirs k) (bytes k) ∙ sym (fs k))

    away : (k : ℕ) → eqb k j && goes j ≡ true → ((map_of u' P N).folders k ≡ none) × ((map_of u' P N).files k ≡ none)
    unfolding map_of
    away k e =
        by_bool (ltb k N)
        (λ t. let v = rw e at (valids k (ltb-true k N t)) in (rw (v, and-false, and-false), rw (v, and-false, and-false)))
        (λ t. (rw t, rw t))

    pub dropped_map : map_of u' P N ≡ drop_unnamed N j M
    unfolding drop_unnamed with_file with_names
    dropped_map =
        rw drops (by_bool (goes j)
        (λ g. rw g (map_same _ _
        (λ k. by_eq k j (λ q. rw (eq-eqb k j q) (away k (rw (eq-eqb k j q) g)).0)
        (λ q. rw (ne_eqb k j q) (stays k (rw (ne_eqb k j q))).0))
        (λ k. by_eq k j (λ q. rw (eq-eqb k j q) (away k (rw (eq-eqb k j q) g)).1)
        (λ q. rw (ne_eqb k j q) (stays k (rw (ne_eqb k j q))).1))))
        (λ g. rw g (map_same _ _ (λ k. (stays k (rw (g, and-false))).0) (λ k. (stays k (rw (g, and-false))).1))))

  -- the names of the map before
  pub names_before : names_in (map_of u P N) ≡ F
  names_before = names_shown (map_of u P N) (shown u N) F (shows_map u P N) (none_else u P N)

  abbrev Dirs : Type 0
  Dirs = (k : ℕ) → k < N → is_valid u k ≡ true → is_directory u' k ≡ is_directory u k

  abbrev Released : ℕ → Type 0
  Released j = (k : ℕ) → k < N → is_valid u' k ≡ cond (eqb k j && goes j) false (is_valid u k)

  abbrev Kept : Type 0
  Kept = (k : ℕ) → k < N → is_file u' k ≡ true → SameBytes u u' P N k

  pub unlink_map : (d : ℕ) (n : List ℕ) → shown u N d ≡ true → folders_of u' P N ≡ with_folder d (without n (F d)) F
      → ((inode_of (F d) n ≡ 0 → ⊥) → name_count N (with_folder d (without n (F d)) F) (inode_of (F d) n) + 1 ≡ name_count N F (inode_of (F d) n))
      → Released (inode_of (F d) n) → Dirs → Kept → map_of u' P N ≡ map_after N (unlink d n) (map_of u P N)
  unfolding map_after unnamed
  unlink_map d n t e less valids dirs bytes =
      rw names_before (dropped_map (with_names d (some (without n (F d))) (map_of u P N)) (with_folder d (without n (F d)) F)
      (shows_with (map_of u P N) (shown u N) F (shows_map u P N) d (without n (F d)) t)
      (with_else (map_of u P N) (shown u N) F (shows_map u P N) d (without n (F d)) t (none_else u P N))
      (λ k. files_with d (some (without n (F d))) (map_of u P N) k)
      e (inode_of (F d) n) less valids dirs bytes)

  pub rename_map : (d : ℕ) (a : List ℕ) (e : ℕ) (b : List ℕ) → shown u N d ≡ true → shown u N e ≡ true
      → (inode_of (F d) a ≡ inode_of (F e) b → ⊥)
      → folders_of u' P N ≡ with_folder e (with_name b (inode_of (F d) a) (with_folder d (without a (F d)) F e))
      (with_folder d (without a (F d)) F)
      → ((inode_of (F e) b ≡ 0 → ⊥) → name_count N
      (with_folder e (with_name b (inode_of (F d) a) (with_folder d (without a (F d)) F e)) (with_folder d (without a (F d)) F))
      (inode_of (F e) b) + 1
      ≡ name_count N F (inode_of (F e) b)) → Released (inode_of (F e) b) → Dirs → Kept
      → map_of u' P N ≡ map_after N (rename d a e b) (map_of u P N)
  unfolding map_after unnamed named
  rename_map d a e b t s n q less valids dirs bytes =
      let G : Folders = with_folder d (without a (F d)) F in
      let M : FileMap = with_names d (some (without a (F d))) (map_of u P N) in
      let x : Shows M (shown u N) G = shows_with (map_of u P N) (shown u N) F (shows_map u P N) d (without a (F d)) t in
      let z : (k : ℕ) → shown u N k ≡ false → G k ≡ [] =
      with_else (map_of u P N) (shown u N) F (shows_map u P N) d (without a (F d)) t (none_else u P N) in
      rw (names_before, ne_eqb _ _ n, names_shown M (shown u N) G x z)
      (dropped_map (with_names e (some (with_name b (inode_of (F d) a) (G e))) M) (with_folder e (with_name b (inode_of (F d) a) (G e)) G)
      (shows_with M (shown u N) G x e (with_name b (inode_of (F d) a) (G e)) s)
      (with_else M (shown u N) G x e (with_name b (inode_of (F d) a) (G e)) s z)
      (λ k. files_with e (some (with_name b (inode_of (F d) a) (G e))) M k ∙ files_with d (some (without a (F d))) (map_of u P N) k)
      q (inode_of (F e) b) less valids dirs bytes)

  pub link_map : (d : ℕ) (a : List ℕ) (e : ℕ) (b : List ℕ) → shown u N e ≡ true
      → folders_of u' P N ≡ with_folder e (with_name b (inode_of (F d) a) (F e)) F
      → ((k : ℕ) → k < N → is_valid u' k ≡ is_valid u k) → Dirs → Kept → map_of u' P N ≡ map_after N (link d a e b) (map_of u P N)
  unfolding map_after named
  link_map d a e b s q valids dirs bytes =
      rw names_before (map_same _ _
      (λ k. shows_map u' P N k ∙ rw (shown_same k (valids k) (dirs k), q)
      (sym (shows_with (map_of u P N) (shown u N) F (shows_map u P N) e (with_name b (inode_of (F d) a) (F e)) s k)))
      (λ k. files_same k (valids k) (dirs k) (bytes k) ∙ sym (files_with e (some (with_name b (inode_of (F d) a) (F e))) (map_of u P N) k)))

  -- where the folders and the valid words are as they were
  module _ (now : folders_of u' P N ≡ F) (valids : (k : ℕ) → k < N → is_valid u' k ≡ is_valid u k) (dirs : Dirs) where
    folders_same : (k : ℕ) → (map_of u' P N).folders k ≡ (map_of u P N).folders k
    folders_same k = shows_map u' P N k ∙ rw (shown_same k (valids k) (dirs k), now) (sym (shows_map u P N k))

    -- clean
    pub kept_map : Kept → map_of u' P N ≡ map_of u P N
    kept_map bytes = map_same _ _ folders_same (λ k. files_same k (valids k) (dirs k) (bytes k))

    -- where file k has other bytes
    module _ (k : ℕ) (below : k < N) (file : is_file u k ≡ true)
        (others : (i : ℕ) → i < N → (i ≡ k → ⊥) → is_file u' i ≡ true → SameBytes u u' P N i) where
      file_still : is_file u' k ≡ true
      file_still =
          by_bool (is_valid u k) (λ v. rw (valids k below, dirs k below v) file) (λ v. no (rw (v, and-false) at file))

      file_map : (bs : List ℕ) → bytes_of u' (file_of u' P N k) ≡ bs → map_of u' P N ≡ with_file k (some bs) (map_of u P N)
      unfolding with_file
      file_map bs e =
          map_same _ _ folders_same (λ i. by_eq i k
          (λ q. rw (eq-eqb i k q, q) (file_at u' P N k below file_still ∙ ap some e))
          (λ q. rw (ne_eqb i k q) (files_same i (valids i) (dirs i) (λ l. others i l q))))

      pub write_map : (o : ℕ) (bs : List ℕ) → (length bs ≡ 0 → ⊥)
          → bytes_of u' (file_of u' P N k) ≡ laid_over (bytes_of u (file_of u P N k)) o bs
          → map_of u' P N ≡ map_after N (write k o bs) (map_of u P N)
      unfolding map_after
      write_map o bs n e = rw (ne_eqb _ _ n, bytes_at u P N k below file) (file_map _ e)

      pub size_map : (s : ℕ) → bytes_of u' (file_of u' P N k) ≡ sized s (bytes_of u (file_of u P N k))
          → map_of u' P N ≡ map_after N (set_size k s) (map_of u P N)
      unfolding map_after
      size_map s e = rw (bytes_at u P N k below file) (file_map _ e)

  -- Create: inode i, the lowest invalid one, gets a name in folder d and is an empty file or an empty folder.
  module _ (i : ℕ) (found : invalid_inode u P N ≡ some i) (d : ℕ) (n : List ℕ) (there : shown u N d ≡ true)
      (now : folders_of u' P N ≡ with_folder d (with_name n i (F d)) F) (set : is_valid u' i ≡ true)
      (valids : (k : ℕ) → k < N → (k ≡ i → ⊥) → is_valid u' k ≡ is_valid u k) (dirs : Dirs)
      (bytes : (k : ℕ) → k < N → (k ≡ i → ⊥) → is_file u' k ≡ true → SameBytes u u' P N k) where
    new : (is_valid u i ≡ false) × (1 ≤ i) × (i < N)
    new = create_inode u P N i found

    not_shown : shown u N i ≡ false
    not_shown = rw (new.0, and-false, and-false)

    apart : i ≡ d → ⊥
    apart q = clash (shown u N d) there (rw q at not_shown)

    abbrev M : FileMap
    M = with_names d (some (with_name n i (F d))) (map_of u P N)

    shows_now : Shows M (shown u N) (with_folder d (with_name n i (F d)) F)
    shows_now = shows_with (map_of u P N) (shown u N) F (shows_map u P N) d (with_name n i (F d)) there

    others : (k : ℕ) → (k ≡ i → ⊥) → ((map_of u' P N).folders k ≡ M.folders k) × ((map_of u' P N).files k ≡ M.files k)
    others k q = (
      shows_map u' P N k ∙ rw (shown_same k (λ l. valids k l q) (dirs k), now) (sym (shows_now k)),
      files_same k (λ l. valids k l q) (dirs k) (λ l. bytes k l q) ∙ sym (files_with d (some (with_name n i (F d))) (map_of u P N) k),
    )

    none_before : (M.folders i ≡ none) × (M.files i ≡ none)
    unfolding with_names map_of
    none_before = (shows_now i ∙ rw not_shown, rw (new.0, and-false, and-false))

    pub create_map : is_directory u' i ≡ false → file_of u' P N i ≡ empty_file → map_of u' P N ≡ map_after N (create d n) (map_of u P N)
    unfolding map_after named with_file bytes_of empty_file values_from
    create_map c z =
        rw (new_inode_lem u P N ∙ ap (λ x. or_else x 0) found, names_before)
        (map_same _ _
        (λ k. by_eq k i (λ q. rw q (shows_map u' P N i ∙ rw (c, and-false) (sym none_before.0))) (λ q. (others k q).0))
        (λ k. by_eq k i (λ q. rw (eq-eqb k i q, q) (file_at u' P N i new.2 (rw (c, set)) ∙ rw z))
        (λ q. rw (ne_eqb k i q) (others k q).1)))

    empty_now : some (with_folder d (with_name n i (F d)) F i) ≡ (with_names i (some []) M).folders i
    unfolding with_folder with_names
    empty_now = rw (ne_eqb i d apart, eq-eqb i i refl, none_else u P N i not_shown)

    else_kept : (k : ℕ) → (k ≡ i → ⊥) → (with_names i (some []) M).folders k ≡ M.folders k
    unfolding with_names
    else_kept k q = rw (ne_eqb k i q)

    pub create_folder_map : is_directory u' i ≡ true → map_of u' P N ≡ map_after N (create_folder d n) (map_of u P N)
    unfolding map_after named
    create_folder_map c =
        rw (new_inode_lem u P N ∙ ap (λ x. or_else x 0) found, names_before)
        (map_same _ _
        (λ k. by_eq k i
        (λ q. rw q (shows_map u' P N i ∙ rw (lt-ltb i N new.2, c, set, now) empty_now))
        (λ q. (others k q).0 ∙ sym (else_kept k q)))
        (λ k. by_eq k i
        (λ q. rw q (no_file u' P N i (λ l. rw c) ∙ sym none_before.1 ∙ sym (files_with i (some []) M i)))
        (λ q. (others k q).1 ∙ sym (files_with i (some []) M k))))
