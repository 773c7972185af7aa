-- The reading calls on an accepted volume whose journal is closed: of their checks only those are left that ask what the file map says.
use Rattle.model.proofs.Prelude.{◌≡◌, refl, sym, ◌∙◌, ap, ℕ, ◌+◌, ◌-◌, ◌≤◌, ◌<◌, min, Bool, true, false, cond, List, [], ◌∷◌, ◌++◌, Option, none, some, arith, length, get_or, take, drop, length-take, length-drop, ext_get_or, get_or-take, get_or-drop, eqb, ltb, leb, ◌&&◌, ◌||◌, not, and-false, ltb-true, eq-eqb, ne_eqb, lt-ltb, le-ltb, le-leb, lt-leb}
use Rattle.model.specs.Lists.{values_from, has, is_some}
use Rattle.model.specs.Words.{Mem, word}
use Rattle.model.specs.Layout.{root, is_directory, name_bytes}
use Rattle.model.specs.Journal.{is_open, view}
use Rattle.model.specs.Entry.{name_ok, padded}
use Rattle.model.specs.State.{File, file_of, file_byte, bytes_of, Names, inode_of, inodes}
use Rattle.model.specs.Tree.{name_counts, sum_over}
use Rattle.model.specs.Accept.{is_valid, is_folder, folders_of, free_count, accepted}
use Rattle.model.specs.FileMap.{FileMap, map_of, names_in, bytes_in}
use Rattle.model.specs.Answer.{Answer, refused, done, Checks, first_refusal, map_answer, filled_from, not_there, wrong_type}
use Rattle.model.specs.Calls.{none_there, leads_to, stands, is_absent, file_checks}
use Rattle.model.specs.Public.{is_volume, is_accepted, volume_checks, closed_checks, beneath, find, size, read, kth_name, total, count_free}
use Rattle.model.specs.Public.{find_answer, size_answer, read_answer, read_buffer, kth_name_answer, kth_name_buffer, total_answer, free_answer}
use Rattle.model.specs.Claim.{map_in}
use Rattle.model.specs.Promises.{if_there, of_file, of_folder, in_file, in_folder, inode_in, kth_of, beneath_in, ReadingDone}
use Rattle.model.proofs.Tests.{by_bool, by_eq, by_lt, no, ands}
use Rattle.model.proofs.Lists.{length_values, values_at, has_count}
use Rattle.model.proofs.Tree.{total_is_sum, total_empty, total_same}
use Rattle.model.proofs.Frame.Placed.{sizes_whole}
use Rattle.model.proofs.State.Folders.{FoldersFine, Is}
use Rattle.model.proofs.State.FoldersOk.{folders_fine}
use Rattle.model.proofs.State.Maps.{names_before, shown}
use Rattle.model.proofs.Crash.Landing.{volume_parts}
use Rattle.model.proofs.State.Bytes.{length_bytes}

-- the bytes of a file from o on, up to b of them
stretch : (u : Mem) (f : File) (o b : ℕ) → values_from (file_byte u f) o (min b (f.size - o)) ≡ take b (drop o (bytes_of u f))
unfolding bytes_of
stretch u f o b =
    let n = min b (f.size - o) in
    let e : length (take b (drop o (bytes_of u f))) ≡ n = rw (length-take, length-drop, length_bytes u f) in
    ext_get_or 0 _ _ (length_values (file_byte u f) o n ∙ sym e)
    (λ i h.
    let l : i < n = rw length_values at h in
    values_at (file_byte u f) o n i l
    ∙ sym (get_or-take b _ i 0 (omega arith) ∙ get_or-drop o _ i 0 ∙ values_at (file_byte u f) 0 f.size (o + i) (omega arith)
    ∙ ap (file_byte u f) (omega arith)))

-- what is made of an answer
map_there : {A B C : Type 0} (g : B → C) (x : Option A) (f : A → B) → map_answer g (if_there x f) ≡ if_there x (λ y. g (f y))
map_there g none f = refl
map_there g (some y) f = refl

map_file : {B C : Type 0} (g : B → C) (o : Option Names) (x : Option (List ℕ)) (f : List ℕ → B)
    → map_answer g (of_file o x (λ bs. done (f bs))) ≡ of_file o x (λ bs. done (g (f bs)))
map_file g o (some bs) f = refl
map_file g none none f = refl
map_file g (some ns) none f = refl

map_folder : {A B C : Type 0} (g : B → C) (o : Option Names) (x : Option (List ℕ)) (k : Names → Option A) (f : A → B)
    → map_answer g (of_folder o x (λ ns. if_there (k ns) f)) ≡ of_folder o x (λ ns. if_there (k ns) (λ y. g (f y)))
map_folder g (some ns) x k f = map_there g (k ns) f
map_folder g none none k f = refl
map_folder g none (some bs) k f = refl

-- The folders of an accepted volume, its journal open or closed.
module _ (v : List ℕ) (a : is_accepted v ≡ true) where
  pub some_inode : 0 < word v 1
  unfolding is_accepted
  some_inode =
      let w : is_volume (length v) (word v) ≡ true = search ands in
      (sizes_whole (word v 0) (word v 1) (volume_parts (length v) (word v) w).sizes).1

  pub fine : FoldersFine (word v 1) (is_valid (view (word v))) (is_directory (view (word v)))
      (folders_of (view (word v)) (word v 0) (word v 1))
  unfolding is_accepted accepted
  fine = folders_fine (view (word v)) (word v 0) (word v 1) (search ands)

  -- a folder of the map is a valid one
  pub folder_is : (k : ℕ) → is_some ((map_in v).folders k) ≡ true → Is (word v 1) (is_valid (view (word v))) (is_directory (view (word v))) k
  unfolding map_in map_of
  folder_is k e =
      by_bool (shown (view (word v)) (word v 1) k)
      (λ t.
      let l : ltb k (word v 1) ≡ true = search ands in
      let w : is_valid (view (word v)) k ≡ true = search ands in
      let q : is_directory (view (word v)) k ≡ true = search ands in (ltb-true k (word v 1) l, w, q))
      (λ t. no (rw t at e))

module _ (v : List ℕ) (a : is_accepted v ≡ true) (o : is_open (word v) ≡ false) where
  abbrev u : Mem
  u = view (word v)

  abbrev P : ℕ
  P = word v 0

  abbrev N : ℕ
  N = word v 1

  -- the volume passes the checks that every reading call begins with
  pub passed : {A : Type 0} (ts : Checks) (x : Answer A) → first_refusal (closed_checks (length v) (word v) ++ ts) x ≡ first_refusal ts x
  unfolding is_accepted closed_checks volume_checks
  passed ts x =
      let is_volume_lem : is_volume (length v) (word v) ≡ true = search ands in
      let ok : accepted (word v) P N ≡ true = search ands in rw (is_volume_lem, ok, o)

  pub free_done : free_answer v ≡ done (free_count u P N)
  unfolding free_answer count_free closed_checks volume_checks
  free_done = passed [] (done (free_count u P N))

  -- where a folder is wanted: 6 where there is nothing or c holds of the folder, 16 where there is a file
  folder_asked : {A : Type 0} (d : ℕ) (c : Bool) (x : A) (f : Names → Answer A) → f (folders_of u P N d) ≡ cond c (refused not_there) (done x)
      → first_refusal ((none_there u P N d || (is_directory u d && c), not_there) ∷ (not (is_directory u d), wrong_type) ∷ []) (done x)
      ≡ in_folder (map_in v) d f
  unfolding map_in map_of none_there folders_of
  folder_asked d c x f e =
      by_lt d N
      (λ l. by_bool (is_valid u d)
      (λ w. by_bool (is_directory u d)
      (λ q.
      let z = rw (lt-ltb d N l, w, q) at e in
      rw (lt-ltb d N l, lt-leb N d l, w, q) (by_bool c (λ t. rw t (sym (rw t at z))) (λ t. rw t (sym (rw t at z)))))
      (λ q. rw (lt-ltb d N l, lt-leb N d l, w, q)))
      (λ w. rw (lt-ltb d N l, lt-leb N d l, w, and-false, and-false)))
      (λ l. rw (le-ltb d N l, le-leb N d l))

  -- where a file is wanted
  file_asked : {A : Type 0} (k : ℕ) (f : List ℕ → A)
      → first_refusal (file_checks u P N k) (done (f (bytes_of u (file_of u P N k)))) ≡ in_file (map_in v) k f
  unfolding map_in map_of file_checks none_there
  file_asked k f =
      by_lt k N
      (λ l. by_bool (is_valid u k)
      (λ w. by_eq k 0
      (λ z. rw (lt-ltb k N l, lt-leb N k l, w, eq-eqb k 0 z))
      (λ z. by_bool (is_directory u k)
      (λ q. rw (lt-ltb k N l, lt-leb N k l, w, q, ne_eqb k 0 z))
      (λ q. rw (lt-ltb k N l, lt-leb N k l, w, q, ne_eqb k 0 z))))
      (λ w. rw (lt-ltb k N l, lt-leb N k l, w, and-false, and-false) (by_bool (eqb k 0) (λ z. rw z) (λ z. rw z))))
      (λ l. rw (le-ltb k N l, le-leb N k l) (by_bool (eqb k 0) (λ z. rw z) (λ z. rw z)))

  finds : (d : ℕ) (n : List ℕ) → name_ok n ≡ true → find_answer v d n ≡ in_folder (map_in v) d (λ ns. if_there (inode_in ns n) (λ i. i))
  unfolding find_answer find is_absent stands leads_to
  finds d n e =
      rw (passed, e) (folder_asked d (not (not (eqb (inode_of (folders_of u P N d) n) 0))) (inode_of (folders_of u P N d) n) _
      (by_bool (eqb (inode_of (folders_of u P N d) n) 0) (λ z. rw z) (λ z. rw z)))

  sizes : (k : ℕ) → size_answer v k ≡ in_file (map_in v) k length
  unfolding size_answer size
  sizes k = rw (passed, ← (length_bytes u (file_of u P N k))) (file_asked k length)

  read_is : (k x b : ℕ) → read (length v) (word v) k x b ≡ in_file (map_in v) k (λ bs. take b (drop x bs))
  unfolding read
  read_is k x b = rw (passed, stretch u (file_of u P N k) x b) (file_asked k (λ bs. take b (drop x bs)))

  kth_is : (d k b : ℕ) → name_bytes ≤ b → kth_name (length v) (word v) d k b ≡ in_folder (map_in v) d (λ ns. if_there (kth_of ns k) (λ n. n))
  unfolding kth_name
  kth_is d k b h =
      let ns = folders_of u P N d in
      let n = length ns in
      rw (le-ltb b name_bytes h, passed) (folder_asked d (leb n k) (get_or ns k ([], 0)).0 _
      (by_lt k n (λ l. rw (lt-ltb k n l, lt-leb n k l)) (λ l. rw (le-ltb k n l, le-leb n k l))))

  -- Totals.

  abbrev M : FileMap
  M = map_of u P N

  -- what a name leads to is a folder or a file of the map
  leads_in_lem : (d x : ℕ) → has x (inodes (folders_of u P N d)) ≡ true
      → (is_some (M.folders x) ≡ is_folder u x) × (is_folder u x ≡ false → length (bytes_in M x) ≡ (file_of u P N x).size)
  unfolding map_of bytes_in
  leads_in_lem d x h =
      let c = (fine v a).child d x (has_count x (inodes (folders_of u P N d)) h) in
      by_bool (is_directory u x)
      (λ q. (rw (lt-ltb x N c.1, c.2, q), λ e. no (sym (rw (c.2, q) at e))))
      (λ q. (rw (lt-ltb x N c.1, c.2, q), λ e. rw (lt-ltb x N c.1, c.2, q) (length_bytes u (file_of u P N x))))

  beneath_is : (d : ℕ) → beneath_in N M d ≡ beneath u P N N d
  unfolding beneath_in beneath
  beneath_is d =
      rw (names_before u u P N)
      (total_same (folders_of u P N) (is_folder u) (λ k. is_some (M.folders k)) (λ k. (file_of u P N k).size)
      (λ k. length (bytes_in M k)) leads_in_lem N d)

  totals : (d : ℕ) → total_answer v d ≡ in_folder (map_in v) d (λ ns. done (beneath_in N (map_in v) d))
  unfolding total_answer total map_in
  totals d =
      rw (passed, beneath_is d) (plain (none_there u P N d) ∙ folder_asked d false (beneath u P N N d) (λ ns. done (beneath u P N N d)) refl)
    where
      plain : (b : Bool) → first_refusal ((b, not_there) ∷ (not (is_directory u d), wrong_type) ∷ []) (done (beneath u P N N d))
          ≡ first_refusal ((b || (is_directory u d && false), not_there) ∷ (not (is_directory u d), wrong_type) ∷ []) (done (beneath u P N N d))
      plain true = refl
      plain false = rw and-false

  total_sums : (d : ℕ) → beneath_in N (map_in v) d
      ≡ sum_over (λ k. cond (is_some ((map_in v).folders k)) (beneath_in N (map_in v) k) (length (bytes_in (map_in v) k)))
      (inodes (names_in (map_in v) d))
  unfolding beneath_in map_in name_counts sum_over folders_of
  total_sums d =
      rw (names_before u u P N)
      (by_bool (shown u N d)
      (λ t.
      let l : ltb d N ≡ true = search ands in
      let w : is_valid u d ≡ true = search ands in
      let q : is_directory u d ≡ true = search ands in
      total_is_sum N (folders_of u P N) (λ k. is_some (M.folders k)) (λ k. length (bytes_in M k)) (some_inode v a)
      (λ e x h. let c = (fine v a).child e x (has_count x (inodes (folders_of u P N e)) h) in ((λ z. omega (arith, c.0)), c.1))
      (λ x h z. let c = folder_is v a x h in omega (arith, (fine v a).once x c.0 (omega arith) c.1 c.2))
      d (ltb-true d N l) ((fine v a).reached d (ltb-true d N l) w q))
      (λ t.
      let e : folders_of u P N d ≡ [] = rw t in
      total_empty (folders_of u P N) (λ k. is_some (M.folders k)) (λ k. length (bytes_in M k)) N d e ∙ rw e))

pub reading_done : ReadingDone
unfolding read_answer read_buffer kth_name_answer kth_name_buffer
reading_done v a o =
    record {
      finds = finds v a o;
      sizes = sizes v a o;
      reads = λ k x buffer. rw (read_is v a o) (map_file length (cond (eqb k root) none ((map_in v).folders k)) ((map_in v).files k) _);
      fills_buffer = λ k x buffer. ap (filled_from buffer) (read_is v a o k x (length buffer));
      names = λ d k buffer h. rw (kth_is v a o d k (length buffer) h)
          (map_folder length ((map_in v).folders d) ((map_in v).files d) (λ ns. kth_of ns k) _);
      names_buffer = λ d k buffer h.
          rw (kth_is v a o d k (length buffer) h)
          (ap (filled_from buffer) (map_folder padded ((map_in v).folders d) ((map_in v).files d) (λ ns. kth_of ns k) _));
      totals = totals v a o;
      total_sum = total_sums v a o;
    }
