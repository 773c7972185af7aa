-- Clean does what it owes: the log written anew means the file or the names that the old one meant, and everything else is kept.
use Rattle.model.proofs.Prelude.{◌≡◌, refl, sym, ◌∙◌, ap, ⊎_elim, ℕ, ◌+◌, ◌-◌, ◌/◌, ◌≤◌, ◌<◌, true, false, cond, not, List, [], ◌∷◌, map, none, arith, length, get_or, leb, leb-false, eq-eqb, ne_eqb, not-false}
use Rattle.model.specs.Lists.{all, has, count, distinct, foldl}
use Rattle.model.specs.Words.{Mem}
use Rattle.model.specs.Layout.{in_pages, valid_word, head_word, tail_word, is_directory}
use Rattle.model.specs.Journal.{target_ok}
use Rattle.model.specs.Entry.{file_entry_ok, name_entry_ok}
use Rattle.model.specs.Log.{pages}
use Rattle.model.specs.State.{empty_file, file_step, file_of, name_step, names_of}
use Rattle.model.specs.Accept.{is_valid, is_file, folders_of, free, free_count, log_ok, view_ok}
use Rattle.model.specs.FileMap.{map_of, map_after, clean}
use Rattle.model.specs.Stores.{Stores, over}
use Rattle.model.specs.Calls.{Change, Append, lay_entries, tail_after, pages_for, targets, entries_only, fresh_log, none_there, action_checks, action_groups, clean_entries, clean_action}
use Rattle.model.proofs.Tests.{by_bool, by_eq, or_false}
use Rattle.model.proofs.Lists.{sum_below_le, all_by}
use Rattle.model.proofs.Counting.{count_sum}
use Rattle.model.proofs.Log.Decode.{decode}
use Rattle.model.proofs.Log.Pages.{Reads}
use Rattle.model.proofs.Log.Live.{lay_in}
use Rattle.model.proofs.Log.Extend.{fresh_log_lem}
use Rattle.model.proofs.Frame.Placed.{sizes_whole, in_bounds, SamePages}
use Rattle.model.proofs.Frame.Inode.{Agree, file_placed, same_names, same_bytes}
use Rattle.model.proofs.Frame.View.{inode_fine, file_is, inode_ok_lem, log_ok_lem}
use Rattle.model.proofs.State.Bytes.{kept_bytes, kept_end}
use Rattle.model.proofs.State.Clean.{clean_file_lem, clean_file_ok}
use Rattle.model.proofs.State.Folders.{FoldersFine, fine_same}
use Rattle.model.proofs.State.FoldersOk.{folders_fine}
use Rattle.model.proofs.State.NameEntries.{names_good, names_distinct, clean_names_lem, clean_names_ok}
use Rattle.model.proofs.State.Maps.{SameBytes, kept_map}
use Rattle.model.proofs.Crash.Stores.{over_some}
use Rattle.model.proofs.Crash.Commit.{Ready, ready_view, committed, Owed, nothing_safe}
use Rattle.model.proofs.Crash.History.{Duty}
use Rattle.model.proofs.Calls.Room.{Fresh, free_in_lem, free_bounds, log_room, room_lone, room_found}
use Rattle.model.proofs.Calls.Actions.{room_passed, fresh_anew, anew_needed, anew_prepared, anew_changes, owed_sound}
use Rattle.model.proofs.Calls.Still.{still_lay}
use Rattle.model.proofs.Calls.Changed.{Grew, Changed, changed_one, changed_fine, changed_free}
use Rattle.model.proofs.Calls.Stored.{Stored, high_same, valid_same, directory_same, type_fine, file_words, agree_after, after_by, folders_same}
use Rattle.model.proofs.Calls.Small.{SmallEntries, clean_names_small, clean_file_small, page_small, tail_small, lay_small}
use Rattle.model.proofs.Calls.Grown.{DeadIn, few_pages}
use Rattle.model.proofs.Calls.Names.{target_here, target_other, target_none, target_ok_lem}
use Rattle.model.proofs.Calls.Files.{small_was}

module _ (P N : ℕ) (m : Mem) (r : Ready P N m) (k : ℕ) (below : k < N) (valid : is_valid m k ≡ true) where
  abbrev es : List (List ℕ)
  es = clean_entries m P N k

  abbrev a : Append
  a = entries_only true k es

  abbrev ls : List ℕ
  ls = fresh_log m P (free m P N) a

  abbrev s : Stores
  s = lay_entries ls 0 es

  abbrev cs : List Change
  cs = (head_word k, get_or ls 0 0) ∷ (tail_word k, tail_after ls 0 (length es)) ∷ []

  abbrev now : Mem
  now = committed m s cs

  ok : view_ok m P N ≡ true
  ok = ready_view P N m r

  some_inode : 0 < N
  some_inode = (sizes_whole P N r.sizes).1

  was_ok : log_ok m P N k ≡ true
  was_ok = log_ok_lem m P N ok k below valid

  file_is_file : is_directory m k ≡ false → is_file m k ≡ true
  file_is_file n = rw n valid

  -- the entries mean what the log meant
  names_mean : is_directory m k ≡ true → foldl name_step [] (map decode es) ≡ names_of m P N k
  unfolding clean_entries
  names_mean q = rw q (clean_names_lem N (names_of m P N k) (names_good m P N k q was_ok) (names_distinct m P N k q was_ok))

  file_means : is_directory m k ≡ false → foldl file_step empty_file (map decode es) ≡ file_of m P N k
  unfolding clean_entries
  file_means n = rw n (clean_file_lem (file_of m P N k) P N (file_placed m P N k was_ok n))

  entries_fit : cond (is_directory m k) (all (name_entry_ok N) (map decode es)) (all (file_entry_ok P N) (map decode es)) ≡ true
  unfolding clean_entries
  entries_fit =
      by_bool (is_directory m k)
      (λ q. rw q (clean_names_ok N (names_of m P N k) (names_good m P N k q was_ok)))
      (λ n. rw n (clean_file_ok (file_of m P N k) P N (file_placed m P N k was_ok n) (small_was P N m r k below (file_is_file n))))

  entries_small : SmallEntries es
  unfolding clean_entries
  entries_small =
      let b = few_pages P N r.sizes in
      by_bool (is_directory m k)
      (λ q. rw q (clean_names_small N (names_of m P N k) b.1 (names_good m P N k q was_ok)))
      (λ n. rw n (clean_file_small (file_of m P N k)
      (λ i. ⊎_elim (λ e. omega arith) (λ h. let y = in_bounds P N ((file_of m P N k).page i) h.1 in omega arith)
      (file_placed m P N k was_ok n i))
      (small_was P N m r k below (file_is_file n))))

  module _ (fresh : Fresh m P N ls (pages_for (length es))) where
    pages_in : all (in_pages P N) ls ≡ true
    pages_in = all_by (in_pages P N) ls (λ x h. (free_in_lem m P N x (fresh.unused x h)).0)

    off : (w : ℕ) → (w ≡ head_word k → ⊥) → (w ≡ tail_word k → ⊥) → targets cs w ≡ none
    off w h t =
        target_other (head_word k, get_or ls 0 0) ((tail_word k, tail_after ls 0 (length es)) ∷ []) w h
        ∙ target_other (tail_word k, tail_after ls 0 (length es)) [] w t ∙ target_none w

    in_table : all (target_ok N) (head_word k ∷ tail_word k ∷ []) ≡ true
    unfolding all
    in_table =
        rw (
          target_ok_lem N (head_word k) (omega arith) (omega (arith, below)) (omega arith),
          target_ok_lem N (tail_word k) (omega arith) (omega (arith, below)) (omega arith),
        )

    did : Stored m P N s cs
    did = record { sizes = r.sizes; ok = ok; still = still_lay m P N ls 0 es fresh.unused; in_table = in_table }

    -- the log reads as the new entries
    reads_now : Reads now P N k ls (map decode es)
    unfolding committed
    reads_now =
        fresh_log_lem (record {
          apart_ps = fresh.apart;
          inside = pages_in;
          needed = fresh.number;
          holds = λ w x e.
              let y = free_bounds m P N (w / 64) (fresh.unused (w / 64) (lay_in ls 0 es w x e)) in
              let z = (sizes_whole P N r.sizes).0 in
              high_same did w (omega arith) ∙ over_some s m w x e;
          head = over_some (targets cs) (over s m) (head_word k) _ (target_here (head_word k, get_or ls 0 0) _);
          tail = over_some (targets cs) (over s m) (tail_word k) _
              (target_other (head_word k, get_or ls 0 0) _ (tail_word k) (omega arith)
              ∙ target_here (tail_word k, tail_after ls 0 (length es)) []);
        })

    valid_now : (i : ℕ) → i < N → now (valid_word i) ≡ m (valid_word i)
    valid_now i l = valid_same did i l (off (valid_word i) (omega arith) (omega arith))

    agree_now : (i : ℕ) → i < N → (i ≡ k → ⊥) → is_valid m i ≡ true → Agree m now P N i
    agree_now i l n v =
        agree_after did i l v (off (valid_word i) (omega arith) (omega arith)) (off (tail_word i) (omega arith) (omega arith))
        (off (head_word i) (omega arith) (omega arith))

    directory_now : (i : ℕ) → i < N → is_valid m i ≡ true → is_directory now i ≡ is_directory m i
    directory_now i l v = directory_same did i l v

    file_now : is_directory m k ≡ false → file_of now P N k ≡ file_of m P N k
    unfolding file_of
    file_now n = ap (foldl file_step empty_file) reads_now.1 ∙ file_means n

    names_now : is_directory m k ≡ true → names_of now P N k ≡ names_of m P N k
    unfolding names_of
    names_now c = ap (foldl name_step []) reads_now.1 ∙ names_mean c

    folders_now : folders_of now P N ≡ folders_of m P N
    folders_now =
        folders_same did valid_now (λ i l v d. by_eq i k (λ q. rw q (names_now (rw q at d)))
        (λ q. same_names m now P N i (log_ok_lem m P N ok i l v) (agree_now i l q v)))

    fine_now : FoldersFine N (is_valid now) (is_directory now) (folders_of now P N)
    fine_now =
        rw folders_now (fine_same N (is_valid m) (is_directory m) (is_valid now) (is_directory now) _
        (λ i l. rw (valid_now i l)) directory_now (folders_fine m P N ok))

    same_pages : is_directory m k ≡ false → SamePages m now (file_of m P N k)
    same_pages n = file_words did k below valid n

    bytes_now : (i : ℕ) → i < N → is_file now i ≡ true → SameBytes m now P N i
    bytes_now i l f =
        let g = file_is now i f in
        let v : is_valid m i ≡ true = rw (valid_now i l) at g.1 in
        let d : is_directory m i ≡ false = sym (directory_now i l v) ∙ g.0 in
        by_eq i k
        (λ q. rw q (let n : is_directory m k ≡ false = rw q at d in rw (file_now n) (kept_bytes m now (file_of m P N k) (same_pages n))))
        (λ q. same_bytes m now P N i (log_ok_lem m P N ok i l v) (agree_now i l q v) d)

    grew : Grew m now P N k ls (λ p. count p [])
    unfolding pages log_ok count
    grew =
        record {
          below = below;
          was_valid = valid;
          is_valid_lem = rw (valid_now k below) valid;
          same_type = directory_now k below valid;
          type_fine = type_fine did k below valid;
          log_fine = rw (reads_now.0, reads_now.1, directory_now k below valid) entries_fit;
          longer = λ p. rw reads_now.0 (omega arith);
          maps = λ n p z. rw (file_now n) (omega arith);
          ends = λ n. rw (file_now n) (kept_end m now (file_of m P N k) (same_pages n)
              ∙ (inode_fine m P N k (inode_ok_lem m P N ok k below)).end (file_is_file n));
        }

    changed : Changed m now P N (λ p. count p ls + count p [])
    changed =
        changed_one some_inode ok fine_now grew
        (room_lone m P N [] 0 ls (pages_for (length es)) (log_room m P N ls (pages_for (length es)) fresh))
        (λ i l n. after_by did i l (off (valid_word i) (omega arith) (omega arith)) (off (tail_word i) (omega arith) (omega arith))
        (off (head_word i) (omega arith) (omega arith)))

    free_now : free_count m P N - pages_for (length es) ≤ free_count now P N
    unfolding count
    free_now =
        let taken = sum_below_le P (λ p. count p ls + 0) (λ p. count p ls) (λ p l. omega arith) in
        omega (arith, changed_free changed, count_sum P ls, fresh.number)

    clean_owed : Owed P N (free_count m P N - pages_for (length es)) (DeadIn P N) m s cs (map_after N (clean k) (map_of m P N))
    unfolding map_after distinct has
    clean_owed =
        let b = few_pages P N r.sizes in
        let h = page_small P N b.0 ls pages_in 0 in
        record {
          harmless = did.still;
          small = lay_small P N b.0 ls pages_in 0 es entries_small;
          few = omega arith;
          in_table = in_table;
          apart = rw (ne_eqb (head_word k) (tail_word k) (omega arith));
          values = (omega arith, (tail_small P N b.0 ls pages_in 0 (length es), tt));
          fine = changed_fine changed;
          new = kept_map m now P N folders_now (λ i l. rw (valid_now i l)) directory_now bytes_now;
          was_free = omega arith;
          now_free = free_now;
        }

module _ (P N : ℕ) (m : Mem) (r : Ready P N m) where
  there : (k : ℕ) → none_there m P N k ≡ false → (k < N) × (is_valid m k ≡ true)
  unfolding none_there
  there k e = let o = or_false (leb N k) (not (is_valid m k)) e in (leb-false N k o.0, not-false _ o.1)

  pub clean_done : (k : ℕ) → Duty P N m (clean k) (clean_action m P N k)
  unfolding action_checks action_groups clean_action map_after
  clean_done k bytes p =
      let o = there k p.0 in
      by_eq (m (tail_word k)) 0
      (λ e. rw (eq-eqb _ _ e) (nothing_safe P N _ m _ r (omega arith) refl))
      (λ e.
      let es = clean_entries m P N k in
      let room = room_found m P N (entries_only true k es) (room_passed m P N false (entries_only true k es) (rw (ne_eqb _ _ e) at p.1)) in
      rw (ne_eqb _ _ e, anew_needed m P (free m P N) k es, anew_prepared m P (free m P N) k es, anew_changes m P (free m P N) k es)
      (owed_sound P N m r _ _ _ _ _ (clean_owed P N m r k o.0 o.1 (rw (fresh_anew m P (free m P N) k es) at room.for_log))))
