-- The totals of an accepted volume v: they are small, and a turn of the loop over a folder's names adds one name.
use Rattle.model.proofs.Prelude.{ℕ, zero, suc, ◌+◌, ◌-◌, ◌≤◌, ◌<◌, ◌≡◌, refl, sym, ◌∙◌, Bool, true, false, cond, ◌&&◌, not, List, [], arith, add-one, zero-add, sub-one, ltb, length, length-take-le, get_or, get_or-take, take, drop, drop-cons, drop_of_length-le, length-map, lt-ltb, le-ltb, ltb-true, not-true}
use Rattle.std.proofs.lemmas.List.{length-take}
use Rattle.model.specs.Lists.{has}
use Rattle.model.specs.Words.{Mem, word}
use Rattle.model.specs.Layout.{is_directory}
use Rattle.model.specs.Journal.{view}
use Rattle.model.specs.Log.{entries}
use Rattle.model.specs.State.{file_of}
use Rattle.model.specs.Tree.{Folders, name_count, parent_of, sum_over, name_counts, folder_total, name_total}
use Rattle.model.specs.Accept.{is_valid, is_file, is_folder, folders_of, log_ok}
use Rattle.model.specs.Public.{beneath, counts}
use Rattle.model.proofs.Tests.{by_bool, by_lt, no, ands}
use Rattle.model.proofs.Lists.{has_count, has_get_or}
use Rattle.model.proofs.Tree.{parent_holds, total_empty, total_same, total_small}
use Rattle.model.proofs.Frame.View.{log_ok_lem}
use Rattle.model.proofs.State.Bytes.{small_file}
use Rattle.model.proofs.State.Folders.{FoldersFine}
use Rattle.model.proofs.State.FoldersOk.{folders_fine}
use Rattle.names.specs.Inodes.{Readable}
use Rattle.names.specs.Listed.{Good}
use Rattle.names.proofs.Listing.{good_view, good_readable, few_inodes}
use Rattle.totals.specs.Totals.{inodes_in, InodesOf, beneath_in, counts_in}

module _ (v : List ℕ) where
  abbrev u : Mem
  u = view (word v)

  abbrev P : ℕ
  P = word v 0

  abbrev N : ℕ
  N = word v 1

  abbrev F : Folders
  F = folders_of u P N

  abbrev size : ℕ → ℕ
  size k = (file_of u P N k).size

  -- what the names of folder d from the i-th on count, where n inodes are unvisited below it
  abbrev pub rest : ℕ → ℕ → ℕ → ℕ
  rest n d i = sum_over (name_counts F (is_folder u) size (folder_total F (is_folder u) size n)) (drop i (inodes_in v d))

  module _ (g : Good v) where
    fine : FoldersFine N (is_valid u) (is_directory u) F
    fine = folders_fine u P N (good_view v g)

    pub few : N ≤ 256
    few = few_inodes v P N g.volume refl refl

    -- what a name leads to
    pub child : (d k : ℕ) → has k (inodes_in v d) ≡ true → (1 ≤ k) × (k < N) × (is_valid u k ≡ true)
    child d k h = fine.child d k (has_count k (inodes_in v d) h)

    file_log : (k : ℕ) → k < N → is_valid u k ≡ true → log_ok u P N k ≡ true
    file_log k l w = log_ok_lem u P N (good_view v g) k l w

    file_small : (k : ℕ) → k < N → is_valid u k ≡ true → is_directory u k ≡ false → size k ≤ 65536
    unfolding file_of log_ok
    file_small k l w d = let o = rw d at (file_log k l w) in small_file P N (entries u P N k) (search ands)

    -- sizes as they count: of what no name leads to the log may hold anything
    abbrev counted : ℕ → ℕ
    counted k = cond (ltb k N && is_file u k) (size k) 0

    counted_small : (k : ℕ) → counted k ≤ 65536
    counted_small k =
        by_bool (ltb k N && is_file u k)
        (λ t.
        let l : ltb k N ≡ true = search ands in
        let w : is_valid u k ≡ true = search ands in
        let d : not (is_directory u k) ≡ true = search ands in rw t (file_small k (ltb-true k N l) w (not-true (is_directory u k) d)))
        (λ t. rw t (omega arith))

    total_counted : (n d : ℕ) → beneath_in v n d ≡ folder_total F (is_folder u) counted n d
    unfolding beneath
    total_counted n d =
        total_same F (is_folder u) (is_folder u) counted size
        (λ e x h.
        let c = child e x h in
        (refl, λ f. by_bool (is_directory u x) (λ t. no (sym (rw (t, c.2) at f))) (λ t. rw (lt-ltb x N c.1, t, c.2))))
        n d

    names_once : (x : ℕ) → is_folder u x ≡ true → name_count N F x ≤ 1
    names_once x f =
        by_lt 0 (name_count N F x)
        (λ l.
        let c = child (parent_of N F x) x (parent_holds N F x (omega arith)) in
        let d : is_directory u x ≡ true = search ands in
        omega (arith, fine.once x c.1 c.0 c.2 d))
        (λ l. omega arith)

    pub small : (n d : ℕ) → n ≤ 256 → beneath_in v n d ≤ 962072674304
    unfolding beneath folders_of
    small n d m =
        by_lt d N
        (λ l.
        rw (total_counted n d)
        (total_small N F (is_folder u) counted few (λ e. rw length-map (fine.short e)) (λ e x h. (child e x h).1) names_once counted_small
        n d l m))
        (λ l. let z : F d ≡ [] = rw (le-ltb d N l) in rw (total_empty F (is_folder u) size n d z) (omega arith))

    pub counts_small : (n k : ℕ) → n ≤ 256 → k < N → is_valid u k ≡ true → counts_in v n k ≤ 962072674304
    unfolding counts name_total name_counts beneath
    counts_small n k m l w =
        by_bool (is_directory u k) (λ d. rw (d, w) (small n k m)) (λ d. rw d (let s = file_small k l w d in omega arith))

    pub total_none : (left d : ℕ) → left ≡ 0 → 0 ≡ beneath_in v left d
    unfolding beneath folder_total
    total_none left d e = rw e

    pub total_start : (left d : ℕ) → (left ≡ 0 → ⊥) → 0 + rest (left - 1) d 0 ≡ beneath_in v left d
    unfolding beneath folder_total
    total_start zero d e = absurd (e refl)
    total_start (suc n) d e = rw (sub-one, zero-add)

    -- a turn: the i-th name leads to inode k
    module _ (d n : ℕ) (t : List ℕ) (f : InodesOf v d n t) (i k : ℕ) (l : i < length (take n t)) (e : k ≡ get_or (take n t) i 0) where
      here : i < n
      here = omega (arith, length-take n t)

      k_is : k ≡ get_or (inodes_in v d) i 0
      k_is = e ∙ get_or-take n t i 0 here ∙ f.each i here

      inside : i < length (inodes_in v d)
      inside = omega (arith, f.count, here)

      leads : (1 ≤ k) × (k < N) × (is_valid u k ≡ true)
      leads = rw k_is (child d (get_or (inodes_in v d) i 0) (has_get_or (inodes_in v d) i inside))

      pub leads_below : k < N
      leads_below = leads.1

      pub leads_valid : is_valid u k ≡ true
      leads_valid = leads.2

      module _ (left sum z r : ℕ) (q : sum + rest (left - 1) d i ≡ z) (h : r ≡ counts_in v (left - 1) k) where
        one_more : rest (left - 1) d i ≡ r + rest (left - 1) d (i + 1)
        unfolding sum_over counts name_total
        one_more = rw (drop-cons (inodes_in v d) i 0 inside, ← k_is, ← h, add-one i)

        pub total_next : sum + r + rest (left - 1) d (i + 1) ≡ z
        total_next = omega (arith, one_more)

        pub total_fits : z ≡ beneath_in v left d → left ≤ 256 → sum + r < 18446744073709551616
        total_fits o m = omega (arith, one_more, small left d m)

    pub total_end : (d n i left sum z : ℕ) (t : List ℕ) → InodesOf v d n t → length t ≡ 224 → length (take n t) ≤ i
        → sum + rest (left - 1) d i ≡ z → sum ≡ z
    unfolding sum_over
    total_end d n i left sum z t f g l q =
        let s : n ≤ length t = omega (arith, f.few) in
        let e = drop_of_length-le (inodes_in v d) {i = i} (omega (arith, f.count, length-take-le n t s)) in
        let y : sum + 0 ≡ z = rw e at q in omega arith

    -- `name_total`: f is what `is_directory` answered of inode k, which is valid
    module _ (k left : ℕ) (w : is_valid u k ≡ true) (f : Bool) (e : f ≡ is_directory u k) where
      pub name_folder : (r : ℕ) → f ≡ true → r ≡ beneath_in v left k → r ≡ counts_in v left k
      unfolding beneath counts name_total name_counts
      name_folder r y h = h ∙ rw (sym e ∙ y, w)

      pub is_file_lem : f ≡ false → is_directory u k ≡ false
      is_file_lem y = sym e ∙ y

      pub name_file : (r a b : ℕ) → f ≡ false → a ≡ P → b ≡ N → r ≡ (file_of u a b k).size → r ≡ counts_in v left k
      unfolding counts name_total name_counts
      name_file r a b y p q h = rw (p, q) at h ∙ rw (sym e ∙ y)

    pub name_log : (k a b : ℕ) → a ≡ P → b ≡ N → k < N → is_valid u k ≡ true → log_ok u a b k ≡ true
    name_log k a b p q l w = rw (p, q) (file_log k l w)

    pub name_below : (k b : ℕ) → b ≡ N → k < N → k < b
    name_below k b q l = rw q l

    pub here_readable : Readable (word v) (length v) N
    here_readable = good_readable v g N refl
