-- The eighteen calls, for all bytes and numbers: the answer, and each byte of lent memory afterwards.
-- v are the bytes of the lent volume before the call. Format and carry out may change them; every other call leaves them.
use Rattle.std.specs.Prelude.{ℕ, ◌+◌, ◌-◌, ◌*◌, ◌/◌, ◌%◌, min, Bool, true, false, cond, ◌&&◌, ◌||◌, not, List, [], ◌∷◌, ◌++◌, map, length, get_or, take, drop, replicate, leb, ltb, eqb}
use Rattle.model.specs.Lists.{values_from}
use Rattle.model.specs.Words.{Mem, word, put_word}
use Rattle.model.specs.Layout.{sizes_ok, table_pages, is_directory, name_bytes, list_words}
use Rattle.model.specs.Journal.{is_open, view}
use Rattle.model.specs.Entry.{name_ok, padded}
use Rattle.model.specs.State.{file_of, file_byte}
use Rattle.model.specs.Tree.{folder_total, name_total}
use Rattle.model.specs.Accept.{is_folder, folders_of, free_count, gaps, accepted}
use Rattle.model.specs.FileMap.{Call, create, create_folder, link, unlink, rename, write, set_size, clean, recover}
use Rattle.model.specs.Stores.{fence, store_list, carried}
use Rattle.model.specs.Answer.{Answer, done, Nothing, Checks, first_refusal, map_answer, filled_from, replaced_by, short_memory, no_volume}
use Rattle.model.specs.Answer.{damaged, journal_open, bad_name, not_there, bad_list, too_many_gaps, wrong_type}
use Rattle.model.specs.Calls.{none_there, leads_to, is_absent, file_checks, checks, groups}

-- A volume by its length and its words 0, 1 and 2. "The slice is exactly P × 512 bytes long."
unfoldable pub is_volume : ℕ → Mem → Bool
is_volume len m = sizes_ok (m 0) (m 1) && eqb (m 2) 1 && eqb len (512 * m 0)

-- An accepted volume, from its bytes: neither 2 nor 3.
unfoldable pub is_accepted : List ℕ → Bool
is_accepted v = is_volume (length v) (word v) && accepted (word v) (word v 0) (word v 1)

-- 2 and 3; then 4
unfoldable pub volume_checks : ℕ → Mem → Checks
volume_checks len m = (not (is_volume len m), no_volume) ∷ (not (accepted m (m 0) (m 1)), damaged) ∷ []

unfoldable pub closed_checks : ℕ → Mem → Checks
closed_checks len m = volume_checks len m ++ (is_open m, journal_open) ∷ []

-- The nine calls that fill a store list.

-- "any call but format, recover and carry out"
abbrev pub needs_closed : Call → Bool
needs_closed (create d n) = true
needs_closed (create_folder d n) = true
needs_closed (link d a e b) = true
needs_closed (unlink d n) = true
needs_closed (rename d a e b) = true
needs_closed (write k o bs) = true
needs_closed (set_size k s) = true
needs_closed (clean k) = true
needs_closed recover = false

-- 1 to 12 and 15 to 18, for a list of l words
unfoldable pub call_checks : ℕ → Mem → ℕ → Call → Checks
call_checks len m l c =
    (ltb l list_words, short_memory) ∷ (volume_checks len m ++ (needs_closed c && is_open m, journal_open) ∷ checks m (m 0) (m 1) c)

-- the words that a call fills into a list of l words
unfoldable pub fills : ℕ → Mem → ℕ → Call → Answer (List ℕ)
fills len m l c = first_refusal (call_checks len m l c) (done (store_list (64 * m 0) (groups m (m 0) (m 1) c)))

-- "The answer is the count of words filled; the rest keeps its content."
unfoldable pub call_answer : List ℕ → List ℕ → Call → Answer ℕ
call_answer v list c = map_answer length (fills (length v) (word v) (length list) c)

unfoldable pub call_list : List ℕ → List ℕ → Call → List ℕ
call_list v list c = filled_from list (fills (length v) (word v) (length list) c)

-- Format. "Format is judged by 2 alone, from the slice length, its P and its N."
-- "Format zeroes pages 0 to T and sets words 0, 1, 2 and 64 (to 1). It [..] leaves the other pages' bytes".
unfoldable pub formatted : List ℕ → ℕ → ℕ → List ℕ
formatted v P N =
    let t = 512 * (table_pages N + 1) in
    put_word (put_word (put_word (put_word (replicate t 0 ++ drop t v) 0 P) 1 N) 2 1) 64 1

unfoldable pub format : List ℕ → ℕ → ℕ → Answer (List ℕ)
format v P N = first_refusal ((not (sizes_ok P N && eqb (length v) (512 * P)), no_volume) ∷ []) (done (formatted v P N))

unfoldable pub format_answer : List ℕ → ℕ → ℕ → Answer Nothing
format_answer v P N = map_answer (λ w. record {}) (format v P N)

unfoldable pub format_volume : List ℕ → ℕ → ℕ → List ℕ
format_volume v P N = replaced_by v (format v P N)

-- Carry out. "Carry out is judged by 2 and 13 alone; it stores in list order, and a count of 0 is done and stores nothing."

-- "index past the volume and not a fence, fence value not 0", of a volume of `words` words
unfoldable pub pairs_ok : ℕ → List ℕ → Bool
pairs_ok words [] = true
pairs_ok words (i ∷ []) = false
pairs_ok words (i ∷ x ∷ r) = let rest = pairs_ok words r in cond (cond (eqb i fence) (eqb x 0) (ltb i words)) rest false

-- "or last pair no fence"
unfoldable pub ends_in_fence : List ℕ → Bool
ends_in_fence l = eqb (length l) 0 || eqb (get_or l (length l - 2) 0) fence

-- "odd count, count over the list's length", and the above of the first n words
unfoldable pub list_checks : Mem → List ℕ → ℕ → Checks
list_checks m list n =
    (not (eqb (n % 2) 0), bad_list) ∷ (ltb (length list) n, bad_list)
    ∷ (not (pairs_ok (64 * m 0) (take n list)), bad_list) ∷ (not (ends_in_fence (take n list)), bad_list) ∷ []

unfoldable pub carry_out : List ℕ → List ℕ → ℕ → Answer (List ℕ)
carry_out v list n =
    first_refusal ((not (is_volume (length v) (word v)), no_volume) ∷ list_checks (word v) list n) (done (carried v (take n list)))

unfoldable pub carry_answer : List ℕ → List ℕ → ℕ → Answer Nothing
carry_answer v list n = map_answer (λ w. record {}) (carry_out v list n)

unfoldable pub carry_volume : List ℕ → List ℕ → ℕ → List ℕ
carry_volume v list n = replaced_by v (carry_out v list n)

-- The bytes beneath folder d, and what a name counts that leads to inode k, of the view u; n inodes are still unvisited.
module _ (u : Mem) (P N : ℕ) where
  unfoldable pub beneath : ℕ → ℕ → ℕ
  beneath n d = folder_total (folders_of u P N) (is_folder u) (λ k. (file_of u P N k).size) n d

  unfoldable pub counts : ℕ → ℕ → ℕ
  counts n k = name_total (folders_of u P N) (is_folder u) (λ k. (file_of u P N k).size) n k

-- The reading calls, from the length and the words of the volume; everything is read from the view.
module _ (len : ℕ) (m : Mem) where
  abbrev P : ℕ
  P = m 0

  abbrev N : ℕ
  N = m 1

  -- the inode that name n leads to in folder d
  unfoldable pub find : ℕ → List ℕ → Answer ℕ
  find d n =
      let u = view m in
      first_refusal (closed_checks len m ++ (not (name_ok n), bad_name) ∷ (none_there u P N d || is_absent u P N d n, not_there)
      ∷ (not (is_directory u d), wrong_type) ∷ [])
      (done (leads_to u P N d n))

  unfoldable pub size : ℕ → Answer ℕ
  size k = first_refusal (closed_checks len m ++ file_checks (view m) P N k) (done (file_of (view m) P N k).size)

  -- "as many bytes as the file has from the offset, up to the buffer [of b bytes]; none at or past the end"
  unfoldable pub read : ℕ → ℕ → ℕ → Answer (List ℕ)
  read k o b =
      let f = file_of (view m) P N k in
      first_refusal (closed_checks len m ++ file_checks (view m) P N k)
      (done (values_from (file_byte (view m) f) o (min b (f.size - o))))

  -- the k-th name of folder d, for a buffer of b bytes; "In a file given as folder, [..] no k [counts] as too large"
  unfoldable pub kth_name : ℕ → ℕ → ℕ → Answer (List ℕ)
  kth_name d k b =
      let u = view m in
      let ns = folders_of u P N d in
      first_refusal ((ltb b name_bytes, short_memory)
      ∷ (closed_checks len m ++ (none_there u P N d || (is_directory u d && leb (length ns) k), not_there)
      ∷ (not (is_directory u d), wrong_type) ∷ []))
      (done (get_or ns k ([], 0)).0)

  -- Document 02, order 6: "We also want a total: the bytes beneath a folder". All N inodes are still unvisited.
  unfoldable pub total : ℕ → Answer ℕ
  total d =
      let u = view m in
      first_refusal (closed_checks len m ++ (none_there u P N d, not_there) ∷ (not (is_directory u d), wrong_type) ∷ [])
      (done (beneath u P N N d))

  unfoldable pub count_free : Answer ℕ
  count_free = first_refusal (closed_checks len m) (done (free_count (view m) P N))

  -- Document 02, order 1, for a list of n pairs: "A volume whose stretches exceed the list is refused with 14, checked after 4; 1 does not
  -- apply."
  unfoldable pub gaps_in : ℕ → Answer (List (ℕ × ℕ))
  gaps_in n =
      let gs = gaps (view m) P N in
      first_refusal (closed_checks len m ++ (ltb n (length gs), too_many_gaps) ∷ []) (done gs)

unfoldable pub find_answer : List ℕ → ℕ → List ℕ → Answer ℕ
find_answer v d n = find (length v) (word v) d n

unfoldable pub size_answer : List ℕ → ℕ → Answer ℕ
size_answer v k = size (length v) (word v) k

-- the count of bytes read, and the buffer: "The rest of the buffer keeps its bytes."
unfoldable pub read_answer : List ℕ → ℕ → ℕ → List ℕ → Answer ℕ
read_answer v k o buffer = map_answer length (read (length v) (word v) k o (length buffer))

unfoldable pub read_buffer : List ℕ → ℕ → ℕ → List ℕ → List ℕ
read_buffer v k o buffer = filled_from buffer (read (length v) (word v) k o (length buffer))

-- "K-th name writes 32 bytes, zeros after the name, and answers the name's length; bytes past 32 stay."
unfoldable pub kth_name_answer : List ℕ → ℕ → ℕ → List ℕ → Answer ℕ
kth_name_answer v d k buffer = map_answer length (kth_name (length v) (word v) d k (length buffer))

unfoldable pub kth_name_buffer : List ℕ → ℕ → ℕ → List ℕ → List ℕ
kth_name_buffer v d k buffer = filled_from buffer (map_answer padded (kth_name (length v) (word v) d k (length buffer)))

unfoldable pub total_answer : List ℕ → ℕ → Answer ℕ
total_answer v d = total (length v) (word v) d

unfoldable pub free_answer : List ℕ → Answer ℕ
free_answer v = count_free (length v) (word v)

-- "The answer is the count of pairs filled", for a list of n pairs
unfoldable pub gaps_answer : List ℕ → ℕ → Answer ℕ
gaps_answer v n = map_answer length (gaps_in (length v) (word v) n)

-- "later pairs keep their content": the lent list, whose pairs `pair` makes from a first page and a length
unfoldable pub gaps_list : {A : Type 0} → (ℕ × ℕ → A) → List ℕ → List A → List A
gaps_list pair v list = filled_from list (map_answer (map pair) (gaps_in (length v) (word v) (length list)))

-- pairs as words: first page, length, first page, length, ..
unfoldable pub flat : List (ℕ × ℕ) → List ℕ
flat [] = []
flat (g ∷ gs) = g.0 ∷ g.1 ∷ flat gs

-- the lent list, where its pairs are words, two for each pair; a last word that is none of a pair keeps its content
unfoldable pub gaps_words : List ℕ → List ℕ → List ℕ
gaps_words v list = filled_from list (map_answer flat (gaps_in (length v) (word v) (length list / 2)))
