-- Write and set size: the file's state stands for the first checks, the call's own come after it, and what is left is an append to the
-- file's log.
use Rattle.model.proofs.Prelude.{ℕ, ◌+◌, ◌*◌, ◌/◌, max, ◌≤◌, ◌<◌, ◌≡◌, refl, sym, ◌∙◌, ap, true, false, cond, List, [], ◌∷◌, ◌++◌, some, arith, lt-ltb, le-ltb, eq-eqb, ne_eqb, ltb, eqb, length, get_or, take, replicate, get_or-take}
use Rattle.std.specs.Prelude.{Result, Ok, Err, IsErrAnd}
use Rattle.model.specs.Words.{word}
use Rattle.model.specs.Layout.{file_bytes, write_bytes}
use Rattle.model.specs.Journal.{view}
use Rattle.model.specs.Entry.{size_words}
use Rattle.model.specs.State.{File, file_of}
use Rattle.model.specs.Stores.{no_words, store_list}
use Rattle.model.specs.Accept.{is_valid}
use Rattle.model.specs.FileMap.{Call, write, set_size}
use Rattle.model.specs.Answer.{done, Checks, first_refusal, long_write, past_the_end}
use Rattle.model.specs.Calls as calls
use Rattle.model.specs.Calls.{pages_covered, file_checks, checks, groups, action, action_checks, action_groups, space_checks, write_append, write_action, size_append, size_action}
use Rattle.model.specs.Public.{volume_checks, closed_checks, needs_closed, size, size_answer}
use Rattle.model.proofs.Crash.Journal.{closed_view}
use Rattle.contents.specs.Laid.{laid}
use Rattle.entries.specs.Table.{entries_of}
use Rattle.entries.proofs.Entries.{one_entry}
use Rattle.stores.specs.Added.{element}
use Rattle.answer.specs.Meaning.{meaning, numbered, number_of}
use Rattle.answer.specs.Comes.{Comes, came_to}
use Rattle.answer.specs.declared.Refusal.{Refusal}
use Rattle.answer.specs.declared.Refusal.TheVariants.{ShortMemory, LongWrite, PastTheEnd}
use Rattle.answer.proofs.Checked.{passed_on, same_refusal, none_refuses}
use Rattle.answer.proofs.Coming.{comes_refused, comes_none, comes_as}
use Rattle.append.specs.declared.Append.{Append}
use Rattle.append.specs.Appended.{asked, plain, action_of, outcome, Ready}
use Rattle.append.proofs.Outcomes.{one_log_ready, one_log, all_first, zeroed_none, also_nothing, outcome_words}
use Rattle.gate.specs.Gated.{fill_checks}
use Rattle.gate.proofs.Lists.{filled_words, own_checks, came}
use Rattle.state.specs.Stated.{FileState, Stated}
use Rattle.state.proofs.Within.{file_below}
use Rattle.fresh.specs.Fresh.{written_over, fresh_word}
use Rattle.writing.specs.Appends.{file_append}
use Rattle.writing.specs.Kept.{Kept}
use Rattle.writing.proofs.Words.{written_taken, written_at, write_words_lem, kept_few, kept_taken, size_words_lem, size_count}

-- Call c asks whether inode k is a file, and then the rest.
module _ (v l : List ℕ) (c : Call) (closed : needs_closed c ≡ true) (k : ℕ) (rest : Checks)
    (own : own_checks v c ≡ file_checks (view (word v)) (word v 0) (word v 1) k ++ rest) where
  abbrev first : Checks
  first = closed_checks (length v) (word v) ++ file_checks (view (word v)) (word v 0) (word v 1) k

  short : length l < 4096 → Comes (came_to v l c) l (Err ShortMemory) l
  unfolding fill_checks
  short h = comes_refused (came_to v l c) l ShortMemory (rw (came v l c closed, lt-ltb (length l) 4096 h))

  module _ (h : 4096 ≤ length l) (marks t : List ℕ) where
    staged : came_to v l c ≡ first_refusal first (first_refusal rest (done (filled_words v c)))
    unfolding fill_checks closed_checks volume_checks file_checks
    staged = rw (came v l c closed, le-ltb (length l) 4096 h, own)

    sized : (r : Result ℕ Refusal) → Stated v k r marks t
        → meaning r ≡ numbered (first_refusal first (done (file_of (view (word v)) (word v 0) (word v 1) k).size))
    unfolding size_answer size
    sized r a = a.answer

    state_refused : (e : Refusal) (r : Result ℕ Refusal) → IsErrAnd r (λ d. d ≡ e) → Stated v k (Err e) marks t → Comes (came_to v l c) l r l
    state_refused e r p a =
        rw (passed_on e r p)
        (comes_refused (came_to v l c) l e
        (staged ∙ same_refusal (number_of e) first _ (sized (Err e) a) (first_refusal rest (done (filled_words v c)))))

    behind : (s : ℕ) → Stated v k (Ok s) marks t → came_to v l c ≡ first_refusal rest (done (filled_words v c))
    behind s a = staged ∙ none_refuses first _ s (sized (Ok s) a) (first_refusal rest (done (filled_words v c)))

-- An append to the file's log: d is the append as the code makes it.
module _ (v l : List ℕ) (h : 4096 ≤ length l) (k s : ℕ) (marks t : List ℕ) (f : FileState v k s marks t)
    (i z : ℕ) (d : Append) (same-append : d ≡ file_append k i z) where
  valid_here : is_valid (word v) k ≡ true
  valid_here = rw (closed_view (word v) f.closed) at f.valid

  file_ready : (ws ds : List ℕ) → 0 < length ws / 8 + length ds / 64 → length ws ≤ 8 → length ds ≤ 576 → 64 * (length ds / 64) ≡ length ds
      → i < 4294967296 → Ready v marks d ws ds l
  file_ready ws ds x few most whole low =
      let g = file_below v k s marks t f in
      rw same-append
      (one_log_ready v marks (file_append k i z) ws ds l (record { volume = f.volume; good = f.good; closed = f.closed; served = f.served }) refl refl g valid_here
      (omega arith) (λ y. x) (omega arith) whole (omega arith) low (omega arith))

  file_outcome : (ws ds : List ℕ) (es : List (List ℕ)) (c : ℕ) (g : ℕ → ℕ) → entries_of ws 0 (length ws / 8) ≡ es → length ds / 64 ≡ c
      → ((j : ℕ) → j < 64 * c → element ds j ≡ g j)
      → outcome v (plain true (record { log = k; anew = false; entries = es; file = i; count = c; words = g; size = z } ∷ []) no_words [])
      ≡ outcome v (action_of d ws ds)
  unfolding asked
  file_outcome ws ds es c g x y same =
      rw (same-append, one_log (file_append k i z) ws ds refl, all_first (file_append k i z) ws refl, x, y, zeroed_none (file_append k i z) refl, also_nothing (file_append k i z) refl)
      (sym (outcome_words v k false es i c z (element ds) g same true no_words []))

-- the first n elements of an array
taken : (n : ℕ) (ds : List ℕ) (g : ℕ → ℕ) → ((j : ℕ) → j < n → get_or ds j 0 ≡ g j) → (j : ℕ) → j < n → element (take n ds) j ≡ g j
unfolding element
taken n ds g h j i = get_or-take n ds j 0 i ∙ h j i

-- Write: the checks behind that of the file.
module _ (v l : List ℕ) (k o : ℕ) (bs : List ℕ) where
  abbrev written : calls.Append
  written = write_append (view (word v)) (word v 0) (word v 1) k o bs

  abbrev write_rest : Checks
  write_rest =
      (ltb write_bytes (length bs), long_write) ∷ (ltb file_bytes (o + length bs), past_the_end)
      ∷ cond (eqb (length bs) 0) [] (space_checks (view (word v)) (word v 0) (word v 1) true (written ∷ []))

  write_own : own_checks v (write k o bs) ≡ file_checks (view (word v)) (word v 0) (word v 1) k ++ write_rest
  unfolding checks action action_checks write_action file_checks
  write_own = refl

  pub write_short : length l < 4096 → Comes (came_to v l (write k o bs)) l (Err ShortMemory) l
  write_short h = short v l (write k o bs) refl k write_rest write_own h

  module _ (h : 4096 ≤ length l) (marks t : List ℕ) where
    pub write_refused : (e : Refusal) (r : Result ℕ Refusal) → IsErrAnd r (λ d. d ≡ e) → Stated v k (Err e) marks t
        → Comes (came_to v l (write k o bs)) l r l
    write_refused e r p a = state_refused v l (write k o bs) refl k write_rest write_own h marks t e r p a

    module _ (s : ℕ) (a : Stated v k (Ok s) marks t) where
      write_behind : came_to v l (write k o bs) ≡ first_refusal write_rest (done (filled_words v (write k o bs)))
      write_behind = behind v l (write k o bs) refl k write_rest write_own h marks t s a

      pub write_long : 4096 < length bs → Comes (came_to v l (write k o bs)) l (Err LongWrite) l
      write_long i = comes_refused (came_to v l (write k o bs)) l LongWrite (rw (write_behind, lt-ltb 4096 (length bs) i))

      module _ (i : length bs ≤ 4096) where
        pub write_ends_past : 65536 < o + length bs → Comes (came_to v l (write k o bs)) l (Err PastTheEnd) l
        write_ends_past j =
            comes_refused (came_to v l (write k o bs)) l PastTheEnd
            (rw (write_behind, le-ltb 4096 (length bs) i, lt-ltb 65536 (o + length bs) j))

        pub write_starts_past : 65536 < o → Comes (came_to v l (write k o bs)) l (Err PastTheEnd) l
        write_starts_past j = write_ends_past (omega arith)

        module _ (j : o + length bs ≤ 65536) where
          pub write_none : length bs ≡ 0 → Comes (came_to v l (write k o bs)) l (Ok 0) l
          unfolding groups action action_groups write_action store_list
          write_none z =
              comes_none (came_to v l (write k o bs)) l
              (rw (write_behind, le-ltb 4096 (length bs) i, le-ltb 65536 (o + length bs) j, eq-eqb (length bs) 0 z))

          -- c pages are covered, and ds is the array with their words; d is the append as the code makes it, of data from file page f on
          module _ (y : length bs ≡ 0 → ⊥) (c : ℕ) (x : c ≡ pages_covered o (o + length bs)) (ds : List ℕ)
              (w : ds ≡ laid (replicate 576 0) 0 (fresh_word (written_over (word v) t o bs) o) 0 (64 * pages_covered o (o + length bs)))
              (f z : ℕ) (d : Append) (q : d ≡ file_append k f z) where
            write_taken : 64 * c ≡ length (take (64 * c) ds)
            write_taken = written_taken (word v) t o bs i c x ds w

            pub write_ready : f < 4294967296 → Ready v marks d [] (take (64 * c) ds) l
            write_ready low =
                let n = write_taken in
                file_ready v l h k s marks t a.state f z d q [] (take (64 * c) ds) (omega arith) (omega arith) (omega arith) (omega arith) (omega arith)

            write_is : came_to v l (write k o bs) ≡ outcome v (plain true (written ∷ []) no_words [])
            unfolding groups action action_groups write_action outcome action_checks
            write_is =
                write_behind
                ∙ rw (le-ltb 4096 (length bs) i, le-ltb 65536 (o + length bs) j, ne_eqb (length bs) 0 y, closed_view (word v) a.state.closed)

            write_at : (u : ℕ) → u < 64 * pages_covered o (o + length bs) → get_or ds u 0 ≡ written.words u
            write_at u g = written_at (word v) t o bs i c x ds w u g ∙ write_words_lem v k s marks t a.state o bs u

            pub write_comes : f ≡ o / 512 → z ≡ max s (o + length bs) → (r' : Result ℕ Refusal) (m : List ℕ)
                → Comes (outcome v (action_of d [] (take (64 * c) ds))) l r' m → Comes (came_to v l (write k o bs)) l r' m
            unfolding write_append entries_of
            write_comes page big r' m g =
                let n = write_taken in
                let larger : max (file_of (view (word v)) (word v 0) (word v 1) k).size (o + length bs) ≡ z =
                rw (← ap (λ (u : File). u.size) a.state.file) (sym big) in
                comes_as (came_to v l (write k o bs)) (outcome v (action_of d [] (take (64 * c) ds))) l r' m
                (write_is
                ∙ rw larger
                (file_outcome v l h k s marks t a.state (o / 512) z d (rw page at q) [] (take (64 * c) ds) [] (pages_covered o (o + length bs))
                written.words refl (omega arith) (rw x (taken (64 * pages_covered o (o + length bs)) ds written.words write_at)))) g

size_long : (z : ℕ) → length (size_words z) ≡ 8
unfolding size_words
size_long z = refl

-- Set size: the checks behind that of the file.
module _ (v l : List ℕ) (k z : ℕ) where
  abbrev resized : calls.Append
  resized = size_append (view (word v)) (word v 0) (word v 1) k z

  abbrev size_rest : Checks
  size_rest =
      (ltb file_bytes z, past_the_end)
      ∷ cond (eqb z (file_of (view (word v)) (word v 0) (word v 1) k).size) [] (space_checks (view (word v)) (word v 0) (word v 1) true (resized ∷ []))

  size_own : own_checks v (set_size k z) ≡ file_checks (view (word v)) (word v 0) (word v 1) k ++ size_rest
  unfolding checks action action_checks size_action file_checks
  size_own = refl

  pub size_short : length l < 4096 → Comes (came_to v l (set_size k z)) l (Err ShortMemory) l
  size_short h = short v l (set_size k z) refl k size_rest size_own h

  module _ (h : 4096 ≤ length l) (marks t : List ℕ) where
    pub size_refused : (e : Refusal) (r : Result ℕ Refusal) → IsErrAnd r (λ d. d ≡ e) → Stated v k (Err e) marks t
        → Comes (came_to v l (set_size k z)) l r l
    size_refused e r p a = state_refused v l (set_size k z) refl k size_rest size_own h marks t e r p a

    module _ (s : ℕ) (a : Stated v k (Ok s) marks t) where
      size_behind : came_to v l (set_size k z) ≡ first_refusal size_rest (done (filled_words v (set_size k z)))
      size_behind = behind v l (set_size k z) refl k size_rest size_own h marks t s a

      old_size : (file_of (view (word v)) (word v 0) (word v 1) k).size ≡ s
      old_size = sym (ap (λ (u : File). u.size) a.state.file)

      pub size_past : 65536 < z → Comes (came_to v l (set_size k z)) l (Err PastTheEnd) l
      size_past i = comes_refused (came_to v l (set_size k z)) l PastTheEnd (rw (size_behind, lt-ltb 65536 z i))

      module _ (i : z ≤ 65536) where
        pub size_none : z ≡ s → Comes (came_to v l (set_size k z)) l (Ok 0) l
        unfolding groups action action_groups size_action store_list
        size_none d = comes_none (came_to v l (set_size k z)) l (rw (size_behind, le-ltb 65536 z i, old_size, eq-eqb z s d))

        -- n words were laid, and es is the entry; d is the append as the code makes it, of data from file page f on
        module _ (y : z ≡ s → ⊥) (n : ℕ) (ds : List ℕ) (w : Kept (word v) t s z n ds) (u : ℕ) (es : List ℕ) (x : es ≡ size_words u)
            (f z' : ℕ) (d : Append) (q : d ≡ file_append k f z') where
          size_taken : n ≡ length (take n ds)
          size_taken = kept_taken (word v) t s z n ds w

          one_long : length es ≡ 8
          one_long = rw x (size_long u)

          pub size_ready : f ≡ z / 512 → Ready v marks d es (take n ds) l
          size_ready first =
              let m = size_taken in
              let g = one_long in
              let o = kept_few (word v) t s z n ds w in
              file_ready v l h k s marks t a.state f z' d q es (take n ds) (omega arith) (omega arith) (omega arith) (omega arith) (omega arith)

          size_is_lem : came_to v l (set_size k z) ≡ outcome v (plain true (resized ∷ []) no_words [])
          unfolding groups action action_groups size_action outcome action_checks
          size_is_lem =
              size_behind ∙ rw (le-ltb 65536 z i, old_size, ne_eqb z s y, closed_view (word v) a.state.closed)

          pub size_comes : u ≡ z → f ≡ z / 512 → z' ≡ z → (r' : Result ℕ Refusal) (m : List ℕ)
              → Comes (outcome v (action_of d es (take n ds))) l r' m → Comes (came_to v l (set_size k z)) l r' m
          unfolding size_append
          size_comes new page same r' m g =
              let o = size_taken in
              let c = size_count v k s marks t a.state z n ds w in
              comes_as (came_to v l (set_size k z)) (outcome v (action_of d es (take n ds))) l r' m
              (size_is_lem
              ∙ file_outcome v l h k s marks t a.state (z / 512) z d (rw (page, same) at q) es (take n ds) (size_words z ∷ []) resized.count
              resized.words (rw (x, size_long u, new) (one_entry (size_words z) (size_long z))) (omega arith)
              (λ j k'. taken n ds resized.words (size_words_lem v k s marks t a.state z n ds w) j (omega arith))) g
