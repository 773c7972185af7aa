-- Write and set size do what they owe: their entries come to the file that POSIX says, on fresh pages, and the other inodes and the names
-- are kept.
use Rattle.model.proofs.Prelude.{◌≡◌, refl, sym, ◌∙◌, ℕ, ◌+◌, ◌-◌, ◌*◌, ◌/◌, ◌^◌, ◌≤◌, ◌<◌, max, true, false, not, ◌||◌, List, [], ◌∷◌, map, none, arith, length, get_or, length-append, length-map, get_or-eq_default, leb, eqb, leb-false, ltb-false, eq-eqb, ne_eqb, not-false}
use Rattle.model.specs.Lists.{bit, all, has, count, distinct}
use Rattle.model.specs.Stretches.{stretches}
use Rattle.model.specs.Words.{Mem}
use Rattle.model.specs.Layout.{valid_word, head_word, tail_word, root, is_directory}
use Rattle.model.specs.Journal.{target_ok}
use Rattle.model.specs.Entry.{file_entry_ok, size_words}
use Rattle.model.specs.State.{file_of}
use Rattle.model.specs.Log.{entries}
use Rattle.model.specs.Accept.{is_valid, is_file, folders_of, free, mapped_to, log_ok, end_ok, view_ok}
use Rattle.model.specs.FileMap.{FileMap, map_of, map_after, write, set_size}
use Rattle.model.specs.Calls.{Change, Append, stretch_entries, targets, data_pages, appended, fresh_pages, fresh_log, prepared, new_tail, none_there, file_checks, pages_covered, written_byte, write_append, cuts_page, kept_byte, size_append, action_checks, action_groups, write_action, size_action}
use Rattle.model.specs.Claim.{Bytes}
use Rattle.model.proofs.Tests.{by_eq, by_lt, clash, ands, or_false}
use Rattle.model.proofs.Words.{le_from_lt}
use Rattle.model.proofs.Log.Decode.{decode}
use Rattle.model.proofs.Frame.Placed.{sizes_whole, Placed}
use Rattle.model.proofs.Frame.Inode.{Agree, file_placed, same_names, same_bytes}
use Rattle.model.proofs.Frame.View.{inode_fine, file_is, inode_ok_lem, log_ok_lem}
use Rattle.model.proofs.State.Append.{Filled, file_after}
use Rattle.model.proofs.State.Bytes.{small_file}
use Rattle.model.proofs.State.Write.{written_lt, write_run, write_entries, write_mapped, write_end, write_bytes_lem}
use Rattle.model.proofs.State.Resize.{kept_lt, resize_run, resize_entries, resize_mapped, resize_end, resize_bytes}
use Rattle.model.proofs.State.Stretches.{stretches_some}
use Rattle.model.proofs.State.Folders.{FoldersFine, fine_same}
use Rattle.model.proofs.State.FoldersOk.{folders_fine}
use Rattle.model.proofs.State.Maps.{SameBytes, no_bytes, same_size, write_map, size_map}
use Rattle.model.proofs.Crash.Commit.{Ready, ready_view, committed, Owed, nothing_safe}
use Rattle.model.proofs.Crash.History.{Duty}
use Rattle.model.proofs.Calls.Room.{HasRoom, Room, free_bounds, fresh_at, room_found}
use Rattle.model.proofs.Calls.Still.{still_prepared}
use Rattle.model.proofs.Calls.Changed.{changed_one, changed_fine, changed_free}
use Rattle.model.proofs.Calls.Stored.{Stored, valid_same, directory_same, agree_after, after_by, folders_same, Appends}
use Rattle.model.proofs.Calls.Small.{SmallEntries, cons_small, size_small, stretches_small}
use Rattle.model.proofs.Calls.Grown.{few_pages, free_behind, DeadIn, grown_file, grown, grown_lone, grown_taken, grown_filled, grown_small, grown_tail}
use Rattle.model.proofs.Calls.Names.{target_here, target_other, target_none, target_ok_lem}
use Rattle.model.proofs.Calls.Actions.{room_passed, plain_sound}

-- An append to a file's log that is not refused.
pub record Filing (P N : ℕ) (m : Mem) (a : Append) : Type 0 where
  pub ready : Ready P N m
  pub goes_on : a.anew ≡ false
  pub room : HasRoom m P N a
  pub below : a.log < N
  pub file : is_file m a.log ≡ true
  pub some_es : 0 < length (appended m P (free m P N) a)
  pub small_words : (j : ℕ) → a.words j < 2 ^ 64
  pub small : SmallEntries (appended m P (free m P N) a)

module _ {P N : ℕ} {m : Mem} {a : Append} (c : Filing P N m a) where
  open c use {ready, below, file}

  abbrev k : ℕ
  k = a.log

  abbrev tail : Change
  tail = new_tail m P (free m P N) a

  abbrev pub now : Mem
  now = committed m (prepared m P (free m P N) a) (tail ∷ [])

  ok : view_ok m P N ≡ true
  ok = ready_view P N m ready

  no_folder : is_directory m k ≡ false
  no_folder = (file_is m k file).0

  valid : is_valid m k ≡ true
  valid = (file_is m k file).1

  off : (w : ℕ) → (w ≡ tail_word k → ⊥) → targets (tail ∷ []) w ≡ none
  unfolding new_tail
  off w n = target_other tail [] w n ∙ target_none w

  in_table : all (target_ok N) (tail.0 ∷ []) ≡ true
  unfolding new_tail all
  in_table = rw (target_ok_lem N (tail_word k) (omega arith) (omega (arith, below)) (omega arith))

  did : Stored m P N (prepared m P (free m P N) a) (tail ∷ [])
  did = record {
    sizes = ready.sizes;
    ok = ok;
    still = still_prepared m P N ok (free m P N) a below valid (room_found m P N a c.room);
    in_table = in_table;
  }

  appends : Appends m P N (free m P N) a (prepared m P (free m P N) a) (tail ∷ [])
  unfolding new_tail
  appends = record {
    did = did;
    goes_on = c.goes_on;
    below = below;
    valid = valid;
    room = room_found m P N a c.room;
    some_entries = c.some_es;
    stores = λ w x e. e;
    same_valid = off (valid_word k) (omega arith);
    same_head = off (head_word k) (omega arith);
    new_tail_lem = target_here tail [];
  }

  -- the file before and after
  pub file_before_lem : (Placed P N (file_of m P N k)) × (end_ok m (file_of m P N k) ≡ true)
  file_before_lem =
      (file_placed m P N k (log_ok_lem m P N ok k below valid) no_folder, (inode_fine m P N k (inode_ok_lem m P N ok k below)).end file)

  pub filled : Filled m now P N a (data_pages m P (free m P N) a)
  filled = grown_filled appends no_folder

  pub file_now : file_of now P N k ≡ file_after m P N a (data_pages m P (free m P N) a)
  file_now = grown_file appends

  -- the other inodes
  pub valid_now : (i : ℕ) → i < N → now (valid_word i) ≡ m (valid_word i)
  valid_now i l = valid_same did i l (off (valid_word i) (omega arith))

  agree_now : (i : ℕ) → i < N → (i ≡ k → ⊥) → is_valid m i ≡ true → Agree m now P N i
  agree_now i l n v =
      agree_after did i l v (off (valid_word i) (omega arith)) (off (tail_word i) (omega arith)) (off (head_word i) (omega arith))

  pub directory_now : (i : ℕ) → i < N → is_valid m i ≡ true → is_directory now i ≡ is_directory m i
  directory_now i l v = directory_same did i l v

  pub bytes_now : (i : ℕ) → i < N → (i ≡ k → ⊥) → is_file now i ≡ true → SameBytes m now P N i
  bytes_now i l n f =
      let g = file_is now i f in
      let v : is_valid m i ≡ true = rw (valid_now i l) at g.1 in
      same_bytes m now P N i (log_ok_lem m P N ok i l v) (agree_now i l n v) (sym (directory_now i l v) ∙ g.0)

  pub folders_now : folders_of now P N ≡ folders_of m P N
  folders_now =
      folders_same did valid_now (λ i l v d.
      same_names m now P N i (log_ok_lem m P N ok i l v) (agree_now i l (λ q. clash (is_directory m k) (rw q at d) no_folder) v))

  -- what is owed, from the entries, the file and the map
  pub filing_owed : (M : FileMap) → all (file_entry_ok P N) (map decode (appended m P (free m P N) a)) ≡ true
      → ((p : ℕ) → (p ≡ 0 → ⊥) → mapped_to (file_after m P N a (data_pages m P (free m P N) a)) p
      ≤ mapped_to (file_of m P N k) p + count p (data_pages m P (free m P N) a))
      → end_ok now (file_after m P N a (data_pages m P (free m P N) a)) ≡ true → map_of now P N ≡ M
      → Owed P N (free_behind m P N a) (DeadIn P N) m (prepared m P (free m P N) a) (tail ∷ []) M
  unfolding distinct has
  filing_owed M entries_ok maps ends e =
      let fine : FoldersFine N (is_valid now) (is_directory now) (folders_of now P N) =
      rw folders_now (fine_same N (is_valid m) (is_directory m) (is_valid now) (is_directory now) _
      (λ i l. rw (valid_now i l)) directory_now (folders_fine m P N ok)) in
      let changed = changed_one (sizes_whole P N ready.sizes).1 ok fine
      (grown appends (rw no_folder entries_ok) (λ n p z. rw file_now (maps p z)) (λ n. rw file_now ends)) (grown_lone appends)
      (λ i l n. after_by did i l (off (valid_word i) (omega arith)) (off (tail_word i) (omega arith)) (off (head_word i) (omega arith))) in
      record {
        harmless = did.still;
        small = grown_small appends c.small_words c.small;
        few = omega arith;
        in_table = in_table;
        apart = refl;
        values = (grown_tail appends, tt);
        fine = changed_fine changed;
        new = e;
        was_free = omega arith;
        now_free = omega (arith, changed_free changed, grown_taken appends);
      }

module _ (P N : ℕ) (m : Mem) (r : Ready P N m) where
  -- what the checks give of a file
  file_of_lem : (k : ℕ) → none_there m P N k || eqb k root ≡ false → is_directory m k ≡ false → (k < N) × (is_file m k ≡ true)
  unfolding none_there
  file_of_lem k e c =
      let o = or_false (leb N k || not (is_valid m k)) (eqb k root) e in
      let q = or_false (leb N k) (not (is_valid m k)) o.0 in (leb-false N k q.0, rw c (not-false _ q.1))

  pub small_was : (k : ℕ) → k < N → is_file m k ≡ true → (file_of m P N k).size ≤ 65536
  unfolding file_of log_ok
  small_was k l f =
      let v = file_is m k f in
      let o = rw v.0 at (log_ok_lem m P N (ready_view P N m r) k l v.1) in
      small_file P N (entries m P N k) (search ands)

  goes_on_write : (k o : ℕ) (bs : List ℕ) → (write_append m P N k o bs).anew ≡ false
  unfolding write_append
  goes_on_write k o bs = refl

  goes_on_size : (k s : ℕ) → (size_append m P N k s).anew ≡ false
  unfolding size_append
  goes_on_size k s = refl

  -- the data pages of an append: they are numbers of pages, and give an entry where there are any
  module _ (a : Append)
      (room : Room m P N (data_pages m P (free m P N) a) a.count (fresh_log m P (free m P N) a) (fresh_pages m P (free m P N) a)) where
    data_small : (i : ℕ) → get_or (data_pages m P (free m P N) a) i 0 ≤ 4096
    data_small i =
        let n = room.for_data.number in
        let few = (few_pages P N r.sizes).0 in
        by_lt i a.count
        (λ l. let b = free_bounds m P N _ (fresh_at m P N _ _ room.for_data i l) in omega arith)
        (λ l. rw (get_or-eq_default (data_pages m P (free m P N) a) 0 {n = i} (omega arith)) (omega arith))

    some_stretch : 1 ≤ a.count → 0 < length (appended m P (free m P N) a)
    unfolding appended stretch_entries
    some_stretch l =
        let f : ℕ → ℕ = λ i. get_or (data_pages m P (free m P N) a) (i - a.file) 0 in
        let b = free_bounds m P N _ (fresh_at m P N _ _ room.for_data 0 (omega arith)) in
        let e : a.file - a.file ≡ 0 = omega arith in
        let n = stretches_some f a.count a.file l (λ q. let z = rw e at q in omega arith) in
        rw (length-append, length-map) (omega (arith, n))

  -- Write.
  module _ (k o : ℕ) (bs : List ℕ) (small : Bytes bs) (below : k < N) (file : is_file m k ≡ true) (short : length bs ≤ 4096)
      (in-file : o + length bs ≤ 65536) (some_bytes : length bs ≡ 0 → ⊥) (room : HasRoom m P N (write_append m P N k o bs)) where
    abbrev w : Append
    w = write_append m P N k o bs

    abbrev ds : List ℕ
    ds = data_pages m P (free m P N) w

    write_call : Filing P N m w
    unfolding write_append appended
    write_call =
        let size = small_was k below file in
        let run = write_run m P N k o bs (omega arith) short in-file in
        let room_is = room_found m P N w room in
        let pages = data_small w room_is in
        record {
          ready = r;
          goes_on = refl;
          room = room;
          below = below;
          file = file;
          some_es = some_stretch w room_is run.0;
          small_words = λ j. le_from_lt 8 (written_byte m P N k o bs) (512 * (o / 512) + 8 * j) (written_lt m P N k o bs small);
          small = stretches_small (max (file_of m P N k).size (o + length bs)) (omega arith) (λ i. get_or ds (i - o / 512) 0)
              (λ i. pages (i - o / 512))
              (pages_covered o (o + length bs)) (o / 512) run.2;
        }

    write_owed : Owed P N (free_behind m P N w) (DeadIn P N) m (prepared m P (free m P N) w) (new_tail m P (free m P N) w ∷ [])
        (map_after N (write k o bs) (map_of m P N))
    unfolding write_append appended
    write_owed =
        let some : 0 < length bs = omega arith in
        let before = file_before_lem write_call in
        let f = filled write_call in
        filing_owed write_call _ (write_entries m P N k o bs some (now write_call) ds f short in-file (small_was k below file))
        (λ p z. write_mapped m P N k o bs some (now write_call) ds f p)
        (write_end m P N k o bs some (now write_call) ds f before.0 before.1 small)
        (write_map m _ P N (folders_now write_call)
        (λ i l. rw (valid_now write_call i l)) (directory_now write_call) k below file (bytes_now write_call) o bs some_bytes
        (rw (file_now write_call) (write_bytes_lem m P N k o bs some (now write_call) ds f before.0 before.1 small)))

  pub write_done : (k o : ℕ) (bs : List ℕ) → Duty P N m (write k o bs) (write_action m P N k o bs)
  unfolding action_checks action_groups write_action file_checks
  write_done k o bs bytes p =
      let f = file_of_lem k p.0 p.1.0 in
      by_eq (length bs) 0
      (λ e. rw (eq-eqb _ _ e) (nothing_safe P N _ m _ r (omega arith) (sym (no_bytes N k o bs (map_of m P N) e))))
      (λ e. rw (ne_eqb _ _ e) (plain_sound P N m r (write_append m P N k o bs) (goes_on_write k o bs) [] _
      (write_owed k o bs bytes f.0 f.1 (ltb-false _ _ p.1.1.0) (ltb-false _ _ p.1.1.1.0) e
      (room_passed m P N true _ (rw (ne_eqb _ _ e) at p.1.1.1.1)))))

  -- Set size.
  module _ (k s : ℕ) (below : k < N) (file : is_file m k ≡ true) (in-file : s ≤ 65536) (room : HasRoom m P N (size_append m P N k s)) where
    abbrev z : Append
    z = size_append m P N k s

    abbrev copied : List ℕ
    copied = data_pages m P (free m P N) z

    size_call : Filing P N m z
    unfolding size_append appended
    size_call =
        let pages = data_small z (room_found m P N z room) in
        record {
          ready = r;
          goes_on = refl;
          room = room;
          below = below;
          file = file;
          some_es = omega arith;
          small_words = λ j. le_from_lt 8 (kept_byte m P N k s) (512 * (s / 512) + 8 * j) (kept_lt m P N k s);
          small = cons_small (size_words s)
              (stretch_entries s (stretches (λ i. get_or copied (i - s / 512) 0) (bit (cuts_page m P N k s)) (s / 512)))
              (size_small s (omega arith)) (stretches_small s (omega arith) (λ i. get_or copied (i - s / 512) 0) (λ i. pages (i - s / 512))
              (bit (cuts_page m P N k s)) (s / 512) (resize_run m P N k s in-file (small_was k below file)));
        }

    size_owed : Owed P N (free_behind m P N z) (DeadIn P N) m (prepared m P (free m P N) z) (new_tail m P (free m P N) z ∷ [])
        (map_after N (set_size k s) (map_of m P N))
    unfolding size_append appended
    size_owed =
        let before = file_before_lem size_call in
        let f = filled size_call in
        filing_owed size_call _ (resize_entries m P N k s (now size_call) copied f in-file (small_was k below file))
        (λ p n. resize_mapped m P N k s (now size_call) copied f p n)
        (resize_end m P N k s (now size_call) copied f before.0 before.1)
        (size_map m _ P N (folders_now size_call)
        (λ i l. rw (valid_now size_call i l)) (directory_now size_call) k below file (bytes_now size_call) s
        (rw (file_now size_call) (resize_bytes m P N k s (now size_call) copied f before.0 before.1)))

  pub size_done : (k s : ℕ) → Duty P N m (set_size k s) (size_action m P N k s)
  unfolding action_checks action_groups size_action file_checks
  size_done k s bytes p =
      let f = file_of_lem k p.0 p.1.0 in
      by_eq s (file_of m P N k).size
      (λ e. rw (eq-eqb _ _ e) (nothing_safe P N _ m _ r (omega arith) (sym (same_size m P N k s f.0 f.1 e))))
      (λ e. rw (ne_eqb _ _ e) (plain_sound P N m r (size_append m P N k s) (goes_on_size k s) [] _
      (size_owed k s f.0 f.1 (ltb-false _ _ p.1.1.0) (room_passed m P N true _ (rw (ne_eqb _ _ e) at p.1.1.1)))))
