-- An append, whoever makes it: its inode is fine after it if its entries are ones that its log may hold and the file they come to is fine,
-- it takes no more pages than it needs, and all that it stores lies inside the volume.
use Rattle.model.proofs.Prelude.{◌≡◌, ℕ, ◌+◌, ◌-◌, ◌/◌, ◌^◌, ◌≤◌, ◌<◌, Bool, true, false, cond, List, ◌++◌, map, arith, le_of_eq, get_or, eqb, leb-true}
use Rattle.model.specs.Lists.{sum_below, all, foldl, count}
use Rattle.model.specs.Words.{Mem}
use Rattle.model.specs.Layout.{sizes_ok, head_word, tail_word, is_directory}
use Rattle.model.specs.Entry.{file_entry_ok, name_entry_ok}
use Rattle.model.specs.Log.{tail_slots}
use Rattle.model.specs.State.{file_of, name_step, names_of}
use Rattle.model.specs.Accept.{free, free_count, mapped_to, end_ok}
use Rattle.model.specs.Stores.{Stores}
use Rattle.model.specs.Calls.{Change, Append, tail_pages, data_pages, appended, fresh_pages, fresh_log, pages_needed, prepared, new_tail}
use Rattle.model.proofs.Tests.{ands}
use Rattle.model.proofs.Lists.{sum_below_add}
use Rattle.model.proofs.Counting.{count_sum}
use Rattle.model.proofs.Log.Decode.{decode}
use Rattle.model.proofs.Log.Append.{tail_inside, file_after_lem, names_after, count_after, ok_after}
use Rattle.model.proofs.Frame.Placed.{sizes_whole}
use Rattle.model.proofs.Frame.View.{log_ok_lem}
use Rattle.model.proofs.Frame.Dead.{Dead}
use Rattle.model.proofs.State.Append.{Filled, file_after}
use Rattle.model.proofs.Crash.Stores.{Each, only_both, only_if_lem, only_word}
use Rattle.model.proofs.Crash.Commit.{committed}
use Rattle.model.proofs.Calls.Room.{free_bounds, fresh_at, Lone, room_lone, pages_in, pages_value}
use Rattle.model.proofs.Calls.Changed.{Grew}
use Rattle.model.proofs.Calls.Stored.{directory_same, type_fine, file_words, Appends, fits, reads_after, data_stored, valid_after, prepared_on, tail_on}
use Rattle.model.proofs.Calls.Small.{Inside, SmallEntries, page_small, tail_small, lay_small}

pub few_pages : (P N : ℕ) → sizes_ok P N ≡ true → (P ≤ 4096) × (N ≤ 256) × (N / 8 + 4 ≤ P)
unfolding sizes_ok
few_pages P N s = (leb-true P 4096 (search ands), leb-true N 256 (search ands), leb-true (N / 8 + 4) P (search ands))

-- the pages that an append leaves free
abbrev pub free_behind : Mem → ℕ → ℕ → Append → ℕ
free_behind m P N a = free_count m P N - pages_needed m P (free m P N) a

-- dead words of views of P pages and N inodes
abbrev pub DeadIn : ℕ → ℕ → Mem → ℕ → Type 0
DeadIn P N u w = Dead u P N w

module _ {m : Mem} {P N : ℕ} {f : ℕ → Bool} {a : Append} {s : Stores} {cs : List Change} (c : Appends m P N f a s cs) where
  open c use {did, room, below, valid}
  open c.did use {sizes, ok}

  abbrev ds : List ℕ
  ds = data_pages m P f a

  abbrev now : Mem
  now = committed m s cs

  -- the file and the names that the longer log means
  pub grown_file : file_of now P N a.log ≡ file_after m P N a ds
  unfolding appended
  grown_file = file_after_lem (fits c) now (reads_after c)

  pub grown_names : names_of now P N a.log ≡ foldl name_step (names_of m P N a.log) (map decode (appended m P f a))
  grown_names = names_after (fits c) now (reads_after c)

  -- what changes by it
  pub grown : cond (is_directory m a.log) (all (name_entry_ok N) (map decode (appended m P f a)))
      (all (file_entry_ok P N) (map decode (appended m P f a))) ≡ true
      → (is_directory m a.log ≡ false → (p : ℕ) → (p ≡ 0 → ⊥)
      → mapped_to (file_of now P N a.log) p ≤ mapped_to (file_of m P N a.log) p + count p ds)
      → (is_directory m a.log ≡ false → end_ok now (file_of now P N a.log) ≡ true)
      → Grew m now P N a.log (fresh_log m P f a) (λ p. count p ds)
  grown entries_ok maps ends =
      record {
        below = below;
        was_valid = valid;
        is_valid_lem = valid_after c;
        same_type = directory_same did a.log below valid;
        type_fine = type_fine did a.log below valid;
        log_fine =
            ok_after (fits c) now (reads_after c) (directory_same did a.log below valid)
            (log_ok_lem m P N ok a.log below valid) entries_ok;
        longer = λ p. le_of_eq (count_after (fits c) now (reads_after c) p);
        maps = maps;
        ends = ends;
      }

  -- the pages that it takes are lone
  pub grown_lone : Lone m P N (λ p. count p (fresh_log m P f a) + count p ds)
  grown_lone = room_lone m P N ds a.count (fresh_log m P f a) (fresh_pages m P f a) room

  -- they are as many as it needs
  pub grown_taken : sum_below P (λ p. count p (fresh_log m P f a) + count p ds) ≤ pages_needed m P f a
  unfolding pages_needed
  grown_taken =
      let ls = fresh_log m P f a in
      let both = sum_below_add P (λ p. count p ls + count p ds) (λ p. count p ls) (λ p. count p ds) (λ p l. omega arith) in
      omega (arith, count_sum P ls, count_sum P ds, room.for_log.number, room.for_data.number)

  -- what stands in it for a file
  pub grown_filled : is_directory m a.log ≡ false → Filled m now P N a ds
  grown_filled n = record {
    number = room.for_data.number;
    places = λ j l. free_bounds m P N (get_or ds j 0) (fresh_at m P N ds a.count room.for_data j l);
    stored = data_stored c;
    kept = file_words did a.log below valid n;
  }

  -- what it stores is small
  pub grown_small : ((j : ℕ) → a.words j < 2 ^ 64) → SmallEntries (appended m P f a) → Each (Inside P) (prepared m P f a)
  grown_small w e =
      let b = few_pages P N sizes in
      let ls = fresh_log m P f a in
      let p = page_small P N b.0 ls (fits c).inside 0 in
      rw (prepared_on m P f a c.goes_on)
      (only_both (lay_small P N b.0 (tail_pages m a.log ++ ls) (tail_inside (fits c)) (tail_slots m a.log) (appended m P f a) e)
      (only_both (only_if_lem (eqb (m (tail_word a.log)) 0)
      (λ t. only_word (Inside P) (head_word a.log) (get_or ls 0 0) (omega (arith, below, (sizes_whole P N sizes).0), omega arith)))
      (λ i x h.
      let q = free_bounds m P N (i / 64) (room.for_data.unused (i / 64) (pages_in ds a.words i x h)) in
      let y = pages_value ds a.words i x h in
      (omega arith, rw y.1 (w y.0)))))

  pub grown_tail : (new_tail m P f a).1 < 2 ^ 64
  grown_tail =
      rw (tail_on m P f a c.goes_on)
      (tail_small P N (few_pages P N sizes).0 (tail_pages m a.log ++ fresh_log m P f a) (tail_inside (fits c)) (tail_slots m a.log) _)
