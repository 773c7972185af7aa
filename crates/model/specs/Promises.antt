-- What else is promised: corollaries of the third demand, the shape of every store list, format, the reading calls in terms of the file
-- map, the total of a folder, the calls that are served, the gaps, the page kept back, the dot names, the place of each folder and the
-- move.
use Rattle.std.specs.Prelude.{ℕ, ◌+◌, ◌-◌, ◌*◌, ◌^◌, ◌≤◌, ◌<◌, ◌≡◌, ◌⊎◌, Bool, true, false, cond, ◌&&◌, ◌||◌, not, List, [], ◌∷◌, length, take, drop, get_or, leb, ltb, eqb}
use Rattle.std.proofs.Math.Option.{Option, none, some}
use Rattle.model.specs.Lists.{bit, has, is_some}
use Rattle.model.specs.Words.{word}
use Rattle.model.specs.Layout.{root, tail_word, file_bytes, write_bytes, most_names, sizes_ok, table_pages, list_words}
use Rattle.model.specs.Journal.{is_open, view}
use Rattle.model.specs.Entry.{name_ok, is_dot_name, new_name_ok, padded}
use Rattle.model.specs.Log.{tail_slots}
use Rattle.model.specs.State.{Names, inode_of, inodes}
use Rattle.model.specs.Tree.{name_count, parent_of, is_reached, is_beneath, sum_over, folder_total}
use Rattle.model.specs.Accept.{free, free_count, gaps}
use Rattle.model.specs.FileMap.{FileMap, names_in, bytes_in, new_inode, map_after, Call, create, create_folder, link, unlink, rename}
use Rattle.model.specs.FileMap.{write, set_size, clean, recover}
use Rattle.model.specs.Stores.{Stores}
use Rattle.model.specs.Power.{Power, held, cut, group, leaves}
use Rattle.model.specs.Answer.{Answer, refused, done, not_there, too_many_gaps, wrong_type, filled_from}
use Rattle.model.specs.Calls.{pages_for, tail_pages, lowest_pages, pages_covered, cuts_page, clean_entries, groups}
use Rattle.model.specs.Public.{is_accepted, fills, call_answer, format_answer, format_volume, pairs_ok, ends_in_fence, carry_out, find_answer}
use Rattle.model.specs.Public.{size_answer, read_answer, read_buffer, kth_name_answer, kth_name_buffer, total_answer, free_answer, gaps_answer}
use Rattle.model.specs.Claim.{Bytes, CallBytes, Event, History, HistoryBytes, answer_to, volume_after, map_in}

-- Below, pieces of 8 bytes land whole.

-- what an event leaves: refused, what holds without it; landed, what holds with it; cut, one of the two
abbrev pub ByOutcome : Answer (List ℕ) → Power → Type 0 → Type 0 → Type 0
ByOutcome (refused n) p without with' = without
ByOutcome (done l) held without with' = with'
ByOutcome (done l) (cut g kept) without with' = without ⊎ with'

-- "So every call finished earlier is kept": after a history that starts at the volume v with the map M, the map is M with every finished
-- call applied, and of the cut calls some, in order.
abbrev pub Explained : List ℕ → FileMap → History → Type 0
Explained v M [] = map_in v ≡ M
Explained v M (e ∷ es) =
    ByOutcome (answer_to v e) e.power (Explained (volume_after 8 v e) M es)
    (Explained (volume_after 8 v e) (map_after (word v 1) e.call M) es)

abbrev pub FinishedKept : Type 0
FinishedKept = (v : List ℕ) → Bytes v → is_accepted v ≡ true → (es : History) → HistoryBytes es → Explained v (map_in v) es

-- "the count of file maps that a cut can leave is at most two": of three cuts of one call, two leave the same map
abbrev pub left_by : List ℕ → Call → ℕ → ℕ → (ℕ → Bool) → FileMap
left_by v c l g kept = map_in (volume_after 8 v (record { call = c; list = l; power = cut g kept }))

abbrev pub AtMostTwo : Type 0
AtMostTwo =
    (v : List ℕ) → Bytes v → is_accepted v ≡ true → (c : Call) → CallBytes c → (l : ℕ) (g₁ g₂ g₃ : ℕ) (k₁ k₂ k₃ : ℕ → Bool)
    → (left_by v c l g₁ k₁ ≡ left_by v c l g₂ k₂) ⊎ ((left_by v c l g₁ k₁ ≡ left_by v c l g₃ k₃) ⊎ (left_by v c l g₂ k₂ ≡ left_by v c l g₃ k₃))

-- "a recovery run through, however many were cut, closes the journal and keeps the map": recoveries with any lists and any power, then one
-- that lands
abbrev pub recover_with : ℕ → Power → Event
recover_with l p = record { call = recover; list = l; power = p }

abbrev pub recoveries : List (ℕ × Power) → List ℕ → List ℕ
recoveries [] v = v
recoveries (r ∷ rs) v = recoveries rs (volume_after 8 v (recover_with r.0 r.1))

pub record Recovered (v w : List ℕ) (l : ℕ) : Type 0 where
  pub ends_done : (n : ℕ) → answer_to w (recover_with l held) ≡ refused n → ⊥
  pub accepted_after : is_accepted (volume_after 8 w (recover_with l held)) ≡ true
  pub is_closed : is_open (word (volume_after 8 w (recover_with l held))) ≡ false
  pub same_map : map_in (volume_after 8 w (recover_with l held)) ≡ map_in v

abbrev pub RunThrough : Type 0
RunThrough =
    (v : List ℕ) → Bytes v → is_accepted v ≡ true → (rs : List (ℕ × Power)) (l : ℕ) → list_words ≤ l → Recovered v (recoveries rs v) l

-- Store lists.

-- pairs in ascending index, each word once, from index a on
unfoldable pub ascending : ℕ → List ℕ → Bool
ascending a [] = true
ascending a (i ∷ []) = false
ascending a (i ∷ x ∷ r) = leb a i && ascending (i + 1) r

-- pairs that store a word of 64 bits in a word behind words 0, 1 and 2
unfoldable pub storable : List ℕ → Bool
storable [] = true
storable (i ∷ []) = false
storable (i ∷ x ∷ r) = ltb 2 i && ltb x (2 ^ 64) && storable r

-- the longest list of each call, in words: a call that is not refused with 1 has room for it
abbrev pub most_words : Call → ℕ
most_words (create d n) = 48
most_words (create_folder d n) = 48
most_words (link d a e b) = 24
most_words (unlink d n) = 42
most_words (rename d a e b) = cond (eqb d e) 58 66
most_words (write k o bs) = 1306
most_words (set_size k s) = 168
most_words (clean k) = 3670
most_words recover = 14

-- no group stores past the volume, so that its text leaves no store out
abbrev pub NoneOutside : ℕ → List Stores → Type 0
NoneOutside words [] = Unit {0}
NoneOutside words (s ∷ ss) = ((w : ℕ) → words ≤ w → s w ≡ none) × NoneOutside words ss

-- what holds of the words ws that call c fills on the volume v into the lent list
pub record ListFine (c : Call) (v ws list : List ℕ) : Type 0 where
  pub short : length ws ≤ most_words c
  pub fits : length ws ≤ list_words
  pub groups_ascend : (g : ℕ) → ascending 0 (group g ws) ≡ true
  pub words_storable : storable ws ≡ true
  pub none_outside : NoneOutside (64 * word v 0) (groups (word v) (word v 0) (word v 1) c)
  pub indices_inside : pairs_ok (64 * word v 0) ws ≡ true
  pub last_fence : ends_in_fence ws ≡ true
  -- "Landed whole, a list leaves what carry out leaves."
  pub carried_out : carry_out v (filled_from list (done ws)) (length ws) ≡ done (leaves 8 held v ws)

abbrev pub ListsFine : Type 0
ListsFine =
    (v : List ℕ) → Bytes v → is_accepted v ≡ true → (c : Call) → CallBytes c → (list ws : List ℕ)
    → fills (length v) (word v) (length list) c ≡ done ws → ListFine c v ws list

-- Format: an accepted volume with its journal closed, no folder but inode 0, no names and P − T − 1 free pages, whatever the bytes before.
pub record Formatted (v : List ℕ) (P N : ℕ) : Type 0 where
  pub ends_done : format_answer v P N ≡ done (record {})
  pub accepted_after : is_accepted (format_volume v P N) ≡ true
  pub is_closed : is_open (word (format_volume v P N)) ≡ false
  pub pages : word (format_volume v P N) 0 ≡ P
  pub inodes : word (format_volume v P N) 1 ≡ N
  pub no_names : (k : ℕ) → (map_in (format_volume v P N)).folders k ≡ cond (eqb k root) (some []) none
  pub no_files : (k : ℕ) → (map_in (format_volume v P N)).files k ≡ none
  pub free : free_answer (format_volume v P N) ≡ done (P - table_pages N - 1)

abbrev pub FormatDone : Type 0
FormatDone = (v : List ℕ) (P N : ℕ) → sizes_ok P N ≡ true → length v ≡ 512 * P → Formatted v P N

-- The reading calls, on an accepted volume with its journal closed, answer what its file map says.

-- what f says of something that is there; else 6
abbrev pub if_there : {A B : Type 0} → Option A → (A → B) → Answer B
if_there none f = refused not_there
if_there (some a) f = done (f a)

-- what f says of a file, from what the map has of an inode as folder and as file: 16 where it is a folder, 6 where it is neither
abbrev pub of_file : {B : Type 0} → Option Names → Option (List ℕ) → (List ℕ → Answer B) → Answer B
of_file o (some bs) f = f bs
of_file none none f = refused not_there
of_file (some ns) none f = refused wrong_type

-- what f says of a folder: 16 where it is a file, 6 where it is neither
abbrev pub of_folder : {B : Type 0} → Option Names → Option (List ℕ) → (Names → Answer B) → Answer B
of_folder (some ns) o f = f ns
of_folder none none f = refused not_there
of_folder none (some bs) f = refused wrong_type

-- inode k of the map M, where a file is wanted, and inode d, where a folder is: inode 0 as a file is 6
abbrev pub in_file : {B : Type 0} → FileMap → ℕ → (List ℕ → B) → Answer B
in_file M k f = of_file (cond (eqb k root) none (M.folders k)) (M.files k) (λ bs. done (f bs))

abbrev pub in_folder : {B : Type 0} → FileMap → ℕ → (Names → Answer B) → Answer B
in_folder M d f = of_folder (M.folders d) (M.files d) f

-- the inode that name n leads to, and the k-th name
abbrev pub inode_in : Names → List ℕ → Option ℕ
inode_in ns n = cond (eqb (inode_of ns n) 0) none (some (inode_of ns n))

abbrev pub kth_of : Names → ℕ → Option (List ℕ)
kth_of ns k = cond (ltb k (length ns)) (some (get_or ns k ([], 0)).0) none

-- the bytes beneath folder d of the map M, all N inodes being unvisited
unfoldable pub beneath_in : ℕ → FileMap → ℕ → ℕ
beneath_in N M d = folder_total (names_in M) (λ k. is_some (M.folders k)) (λ k. length (bytes_in M k)) N d

pub record ReadsMap (v : List ℕ) : Type 0 where
  pub finds : (d : ℕ) (n : List ℕ) → name_ok n ≡ true
      → find_answer v d n ≡ in_folder (map_in v) d (λ ns. if_there (inode_in ns n) (λ i. i))
  pub sizes : (k : ℕ) → size_answer v k ≡ in_file (map_in v) k length
  pub reads : (k o : ℕ) (buffer : List ℕ) → read_answer v k o buffer
      ≡ in_file (map_in v) k (λ bs. length (take (length buffer) (drop o bs)))
  pub fills_buffer : (k o : ℕ) (buffer : List ℕ)
      → read_buffer v k o buffer ≡ filled_from buffer (in_file (map_in v) k (λ bs. take (length buffer) (drop o bs)))
  pub names : (d k : ℕ) (buffer : List ℕ) → 32 ≤ length buffer
      → kth_name_answer v d k buffer ≡ in_folder (map_in v) d (λ ns. if_there (kth_of ns k) length)
  pub names_buffer : (d k : ℕ) (buffer : List ℕ) → 32 ≤ length buffer
      → kth_name_buffer v d k buffer ≡ filled_from buffer (in_folder (map_in v) d (λ ns. if_there (kth_of ns k) padded))
  pub totals : (d : ℕ) → total_answer v d ≡ in_folder (map_in v) d (λ ns. done (beneath_in (word v 1) (map_in v) d))
  -- "the bytes beneath a folder are the sum over its names, where a file counts its size once for each name and a folder counts what lies
  -- beneath it", with no count in it: the unvisited inodes are never spent
  pub total_sum : (d : ℕ) → beneath_in (word v 1) (map_in v) d
      ≡ sum_over (λ k. cond (is_some ((map_in v).folders k)) (beneath_in (word v 1) (map_in v) k) (length (bytes_in (map_in v) k)))
      (inodes (names_in (map_in v) d))

abbrev pub ReadingDone : Type 0
ReadingDone = (v : List ℕ) → is_accepted v ≡ true → is_open (word v) ≡ false → ReadsMap v

-- Calls are served. "A version that refuses always, or says "no space" on a volume with enough, breaks the second demand": on an accepted
-- volume with its journal closed each call is done exactly where its file map and its free pages allow it.

abbrev pub is_served : {A : Type 0} → Answer A → Bool
is_served (refused n) = false
is_served (done a) = true

-- all of these
abbrev pub every : List Bool → Bool
every [] = true
every (b ∷ bs) = b && every bs

-- how many longest stretches of consecutive numbers an ascending list has: each ends where the next number does not stand in the list
unfoldable pub stretch_count : List ℕ → ℕ
stretch_count [] = 0
stretch_count (p ∷ ps) = bit (not (has (p + 1) ps)) + stretch_count ps

-- Of the map M: name n stands in folder d; inode k is a folder; folder d has as many names as it may have.
abbrev pub named_in : FileMap → ℕ → List ℕ → Bool
named_in M d n = not (eqb (inode_of (names_in M d) n) 0)

abbrev pub folder_in : FileMap → ℕ → Bool
folder_in M k = is_some (M.folders k)

abbrev pub full_in : FileMap → ℕ → Bool
full_in M d = leb most_names (length (names_in M d))

-- what document 02, order 6, allows of a rename that changes something: not "onto an existing folder or of a folder onto any standing
-- name", not "into or beneath itself", and no "225th name"
abbrev pub may_move : ℕ → FileMap → ℕ → List ℕ → ℕ → List ℕ → Bool
may_move N M d a e b =
    every (not (named_in M e b && (folder_in M (inode_of (names_in M d) a) || folder_in M (inode_of (names_in M e) b)))
    ∷ not (folder_in M (inode_of (names_in M d) a) && is_beneath N (names_in M) (inode_of (names_in M d) a) e)
    ∷ (eqb d e || named_in M e b || not (full_in M e)) ∷ [])

module _ (v : List ℕ) where
  abbrev pub free_pages : ℕ
  free_pages = free_count (word v) (word v 0) (word v 1)

  -- how many write entries c data pages take: one for each longest stretch of the pages that they go to, one in all where these are a run
  abbrev pub writes_for : ℕ → ℕ
  writes_for c = stretch_count (lowest_pages (free (word v) (word v 0) (word v 1)) (word v 0) c)

  -- how many fresh log pages n more entries of inode k take: those that the entries fill behind its tail, less the tail's page
  abbrev pub log_pages_for : ℕ → ℕ → ℕ
  log_pages_for k n = pages_for (tail_slots (word v) k + n) - length (tail_pages (word v) k)

  -- the data and log pages together that n more entries of inode k's log and c data pages take
  abbrev pub pages_taken : ℕ → ℕ → ℕ → ℕ
  pages_taken k n c = c + log_pages_for k n

  -- they have room: the free pages are no fewer
  abbrev pub has_space : ℕ → ℕ → ℕ → Bool
  has_space k n c = leb (pages_taken k n c) free_pages

  -- they have room and a free page is left, or they take none
  abbrev pub leaves_page : ℕ → ℕ → ℕ → Bool
  leaves_page k n c = eqb (pages_taken k n c) 0 || ltb (pages_taken k n c) free_pages

  -- a rename has room: in one folder for two more entries, and else for one more in each folder's log
  abbrev pub has_move_space : ℕ → ℕ → Bool
  has_move_space d e = leb (cond (eqb d e) (log_pages_for d 2) (log_pages_for d 1 + log_pages_for e 1)) free_pages

  -- whether a page of file k is copied where its size becomes s
  abbrev pub copied : ℕ → ℕ → Bool
  copied k s = cuts_page (word v) (word v 0) (word v 1) k s

  -- the pages of inode k's log written anew
  abbrev pub pages_anew : ℕ → ℕ
  pages_anew k = pages_for (length (clean_entries (word v) (word v 0) (word v 1) k))

  -- each call with a lent list; M is the file map
  pub record Serves (list : List ℕ) (M : FileMap) : Type 0 where
    pub creates : (d : ℕ) (n : List ℕ) → is_served (call_answer v list (create d n))
        ≡ every (new_name_ok n ∷ folder_in M d ∷ not (named_in M d n) ∷ not (eqb (new_inode (word v 1) M) 0) ∷ not (full_in M d)
        ∷ leaves_page d 1 0 ∷ [])
    pub creates_folder : (d : ℕ) (n : List ℕ) → is_served (call_answer v list (create_folder d n))
        ≡ every (new_name_ok n ∷ folder_in M d ∷ not (named_in M d n) ∷ not (eqb (new_inode (word v 1) M) 0) ∷ not (full_in M d)
        ∷ leaves_page d 1 0 ∷ [])
    pub links : (d : ℕ) (a : List ℕ) (e : ℕ) (b : List ℕ) → is_served (call_answer v list (link d a e b))
        ≡ every ((name_ok a && new_name_ok b) ∷ named_in M d a ∷ folder_in M e ∷ not (named_in M e b)
        ∷ not (folder_in M (inode_of (names_in M d) a)) ∷ not (full_in M e) ∷ leaves_page e 1 0 ∷ [])
    pub unlinks : (d : ℕ) (n : List ℕ) → is_served (call_answer v list (unlink d n))
        ≡ every (name_ok n ∷ named_in M d n ∷ eqb (length (names_in M (inode_of (names_in M d) n))) 0 ∷ has_space d 1 0 ∷ [])
    pub renames : (d : ℕ) (a : List ℕ) (e : ℕ) (b : List ℕ) → is_served (call_answer v list (rename d a e b))
        ≡ every ((name_ok a && new_name_ok b) ∷ named_in M d a ∷ folder_in M e
        ∷ (eqb (inode_of (names_in M d) a) (inode_of (names_in M e) b) || (may_move (word v 1) M d a e b && has_move_space d e)) ∷ [])
    pub writes : (k o : ℕ) (bs : List ℕ) → is_served (call_answer v list (write k o bs))
        ≡ every (is_some (M.files k) ∷ leb (length bs) write_bytes ∷ leb (o + length bs) file_bytes
        ∷ (eqb (length bs) 0 || leaves_page k (writes_for (pages_covered o (o + length bs))) (pages_covered o (o + length bs))) ∷ [])
    pub sets : (k s : ℕ) → is_served (call_answer v list (set_size k s))
        ≡ every (is_some (M.files k) ∷ leb s file_bytes
        ∷ (eqb s (length (bytes_in M k)) || leaves_page k (1 + bit (copied k s)) (bit (copied k s))) ∷ [])
    pub cleans : (k : ℕ) → is_served (call_answer v list (clean k))
        ≡ every ((folder_in M k || is_some (M.files k)) ∷ (eqb (word v (tail_word k)) 0 || leb (pages_anew k) free_pages) ∷ [])
    pub recovers : is_served (call_answer v list recover) ≡ true

abbrev pub CallsServed : Type 0
CallsServed =
    (v : List ℕ) → is_accepted v ≡ true → is_open (word v) ≡ false → (list : List ℕ) → list_words ≤ length list → Serves v list (map_in v)

-- Gaps (document 02, order 1), on an accepted volume; what is answered, where its journal is closed.

-- "sorted by first page, each pair the longest stretch possible and no stretch twice": each has a page at least, and ends before the page
-- in front of the next one
abbrev pub Apart : List (ℕ × ℕ) → Type 0
Apart [] = Unit {0}
Apart (a ∷ []) = 1 ≤ a.1
Apart (a ∷ b ∷ gs) = (1 ≤ a.1) × (a.0 + a.1 < b.0) × Apart (b ∷ gs)

-- how many of the pairs hold page p
abbrev pub holding : ℕ → List (ℕ × ℕ) → ℕ
holding p [] = 0
holding p (g ∷ gs) = bit (leb g.0 p && ltb p (g.0 + g.1)) + holding p gs

-- the sum of the lengths
abbrev pub lengths : List (ℕ × ℕ) → ℕ
lengths [] = 0
lengths (g ∷ gs) = g.1 + lengths gs

-- the pairs gs of the volume v
pub record GapsFine (v : List ℕ) (gs : List (ℕ × ℕ)) : Type 0 where
  pub apart : Apart gs
  -- every free page lies in exactly one pair, and every other page in none
  pub each_once : (p : ℕ) → holding p gs ≡ bit (free (view (word v)) (word v 0) (word v 1) p)
  -- "The lengths must add up to the count of free pages already given."
  pub add_up : is_open (word v) ≡ false → free_answer v ≡ done (lengths gs)
  -- 14 exactly where a list of n pairs is too short
  pub answers : is_open (word v) ≡ false → (n : ℕ)
      → gaps_answer v n ≡ cond (ltb n (length gs)) (refused too_many_gaps) (done (length gs))

abbrev pub GapsDone : Type 0
GapsDone = (v : List ℕ) → is_accepted v ≡ true → GapsFine v (gaps (view (word v)) (word v 0) (word v 1))

-- The page kept back (document 02, order 4): "On a full handheld unlink fails when the remove entry wants a log page."

-- what is done on the volume v with the map M, which has a free page: unlink of a standing name that leads to no folder with names; rename
-- of one inside its folder, which takes one log page at most; and with two free pages also a move
pub record Removes (v list : List ℕ) (M : FileMap) : Type 0 where
  pub unlinks : (d : ℕ) (n : List ℕ) → named_in M d n ≡ true → names_in M (inode_of (names_in M d) n) ≡ []
      → is_served (call_answer v list (unlink d n)) ≡ true
  pub renames : (d : ℕ) (a b : List ℕ) → named_in M d a ≡ true → new_name_ok b ≡ true → may_move (word v 1) M d a d b ≡ true
      → is_served (call_answer v list (rename d a d b)) ≡ true
  pub moves : 2 ≤ free_pages v → (d : ℕ) (a : List ℕ) (e : ℕ) (b : List ℕ) → named_in M d a ≡ true → new_name_ok b ≡ true
      → folder_in M e ≡ true → may_move (word v 1) M d a e b ≡ true → is_served (call_answer v list (rename d a e b)) ≡ true

abbrev pub RemovingServed : Type 0
RemovingServed =
    (v : List ℕ) → is_accepted v ≡ true → is_open (word v) ≡ false → 1 ≤ free_pages v → (list : List ℕ) → list_words ≤ length list
    → Removes v list (map_in v)

-- "Unlink, rename and clean may take the last page."
abbrev pub may_take_last : Call → Bool
may_take_last (create d n) = false
may_take_last (create_folder d n) = false
may_take_last (link d a e b) = false
may_take_last (unlink d n) = true
may_take_last (rename d a e b) = true
may_take_last (write k o bs) = false
may_take_last (set_size k s) = false
may_take_last (clean k) = true
may_take_last recover = false

-- the count of free pages as the view has it, whether the journal is open or closed
abbrev pub free_in : List ℕ → ℕ
free_in v = free_count (view (word v)) (word v 0) (word v 1)

-- "Create, link, write and set size shall not take the last free page": through every event of a history that starts at v, landed, cut or
-- refused, whose call is one of these or recover, a volume with a free page keeps one
abbrev pub PageStays : List ℕ → History → Type 0
PageStays v [] = Unit {0}
PageStays v (e ∷ es) =
    (may_take_last e.call ≡ false → 1 ≤ free_in v → 1 ≤ free_in (volume_after 8 v e)) × PageStays (volume_after 8 v e) es

abbrev pub PageKept : Type 0
PageKept = (v : List ℕ) → Bytes v → is_accepted v ≡ true → (es : History) → HistoryBytes es → PageStays v es

-- Dot names (document 02, order 5).

-- the volume that a history which starts at v ends with
abbrev pub volume_left : List ℕ → History → List ℕ
volume_left v [] = v
volume_left v (e ∷ es) = volume_left (volume_after 8 v e) es

-- "Create, link's new name and rename's new name shall no longer accept them.": after any history, its calls landed, cut or refused, no "."
-- and no ".." stands in a folder in which it did not stand before
abbrev pub NoNewDotName : Type 0
NoNewDotName =
    (v : List ℕ) → Bytes v → is_accepted v ≡ true → (es : History) → HistoryBytes es → (d : ℕ) (n : List ℕ) → is_dot_name n ≡ true
    → named_in (map_in v) d n ≡ false → named_in (map_in (volume_left v es)) d n ≡ false

-- Folders (document 02, order 6).

-- folder k of the map M, of N inodes: "has exactly one name and is reached from inode 0", and what holds that name is a folder
pub record HasPlace (N : ℕ) (M : FileMap) (k : ℕ) : Type 0 where
  pub one_name : name_count N (names_in M) k ≡ 1
  pub from_root : is_reached N (names_in M) k ≡ true
  pub parent_folder : folder_in M (parent_of N (names_in M) k) ≡ true

-- "Every valid folder but inode 0 has exactly one name and is reached from inode 0": after any history, its calls landed, cut or refused
abbrev pub FoldersNamed : Type 0
FoldersNamed =
    (v : List ℕ) → Bytes v → is_accepted v ≡ true → (es : History) → HistoryBytes es → (k : ℕ)
    → folder_in (map_in (volume_left v es)) k ≡ true → (k ≡ root → ⊥) → HasPlace (word v 1) (map_in (volume_left v es)) k

-- whether name n of folder d leads to inode i, in the map M
abbrev pub leads_in : FileMap → ℕ → List ℕ → ℕ → Bool
leads_in M d n i = eqb (inode_of (names_in M d) n) i

-- A move leaves one name, "wherever each cut falls": name a of folder d leads to inode i, and name b of folder e, the same folder or
-- another, does not. After a rename of the first to the second, landed, cut or refused, exactly one of the two leads to i: never both,
-- never none. Where both led to i, both stay: "Names leading to one inode still change nothing".
abbrev pub MoveAtomic : Type 0
MoveAtomic =
    (v : List ℕ) → Bytes v → is_accepted v ≡ true → (d : ℕ) (a : List ℕ) (e : ℕ) (b : List ℕ) → CallBytes (rename d a e b)
    → (l : ℕ) (p : Power) (i : ℕ) → named_in (map_in v) d a ≡ true → leads_in (map_in v) d a i ≡ true → leads_in (map_in v) e b i ≡ false
    → (let M' = map_in (volume_after 8 v (record { call = rename d a e b; list = l; power = p })) in
    leads_in M' d a i ≡ not (leads_in M' e b i))
