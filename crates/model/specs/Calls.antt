-- What the changing calls fill, and when they refuse with 5 to 12 and 15 to 18. Document 01, "The store list" and "The calls".
-- Everything is read from the view u of a volume of P pages and N inodes.
use Rattle.std.specs.Prelude.{ℕ, ◌+◌, ◌-◌, ◌*◌, ◌/◌, ◌%◌, max, Bool, true, false, cond, ◌&&◌, ◌||◌, not, List, [], ◌∷◌, ◌++◌, map, length, get_or, leb, ltb, eqb}
use Rattle.std.proofs.Math.Option.{Option, none, some}
use Rattle.model.specs.Lists.{bit, all_below, values_from, lowest, lowest_few, has, index_of, is_some, or_else}
use Rattle.model.specs.Stretches.{Stretch, stretches}
use Rattle.model.specs.Words.{Mem, le_from}
use Rattle.model.specs.Layout.{valid_word, head_word, tail_word, type_word, root, is_directory, page_entries, file_pages, file_bytes}
use Rattle.model.specs.Layout.{write_bytes, most_names}
use Rattle.model.specs.Journal.{dequeue_word, enqueue_word, position_count, target_word, old_word, next_position, open_targets, is_open, view}
use Rattle.model.specs.Entry.{name_ok, new_name_ok, write_words, size_words, add_words, remove_words}
use Rattle.model.specs.Log.{tail_slots}
use Rattle.model.specs.State.{File, file_of, file_byte, Names, names_of, inode_of}
use Rattle.model.specs.Tree.{Folders, name_count, is_beneath}
use Rattle.model.specs.Accept.{is_valid, folders_of, free, free_count}
use Rattle.model.specs.FileMap.{Call, create, create_folder, link, unlink, rename, write, set_size, clean, recover}
use Rattle.model.specs.Stores.{Stores, one_word, no_words, first_of, both, only_if}
use Rattle.model.specs.Answer.{Checks, bad_name, not_there, taken, long_write, past_the_end, no_inode, directory_full, no_space, last_page}
use Rattle.model.specs.Answer.{wrong_type, not_empty, into_itself}

-- Writing a log.

-- Entries es, eight words each, laid into the pages ps from slot i of the first page on, seven slots to a page, and a link in every page
-- but the last. "A link is the footer of the page left behind, also inside the log that clean writes."
unfoldable pub lay_entries : List ℕ → ℕ → List (List ℕ) → Stores
lay_entries ps i es w =
    let j = index_of (w / 64) ps in
    let o = w % 64 in
    let s = page_entries * j + o / 8 in
    cond (ltb j (length ps))
    (cond (eqb o 56) (cond (ltb (j + 1) (length ps)) (some (get_or ps (j + 1) 0)) none)
    (cond (ltb o 56 && leb i s && ltb s (i + length es)) (some (get_or (get_or es (s - i) []) (o % 8) 0)) none))
    none

-- the tail behind n entries laid so; 0 where there are none
unfoldable pub tail_after : List ℕ → ℕ → ℕ → ℕ
tail_after ps i n =
    cond (eqb n 0) 0 (512 * get_or ps ((i + n - 1) / page_entries) 0 + 64 * ((i + n - 1) % page_entries + 1))

-- the pages that n entries fill
abbrev pub pages_for : ℕ → ℕ
pages_for n = (n + 6) / page_entries

-- the page on which inode k's log goes on, if it has one
unfoldable pub tail_pages : Mem → ℕ → List ℕ
tail_pages u k = cond (eqb (u (tail_word k)) 0) [] (u (tail_word k) / 512 ∷ [])

-- The pages ps, all 64 words each, the j-th word in all being f j.
unfoldable pub lay_pages : List ℕ → (ℕ → ℕ) → Stores
lay_pages ps f w =
    let j = index_of (w / 64) ps in
    cond (ltb j (length ps)) (some (f (64 * j + w % 64))) none

-- one kind 1 entry for each stretch of file pages on data pages, with size z
unfoldable pub stretch_entries : ℕ → List Stretch → List (List ℕ)
stretch_entries z ss = map (λ (s : Stretch). write_words s.first s.page s.count z) ss

-- Committing.

-- a word's index and its new value
abbrev pub Change : Type 0
Change = ℕ × ℕ

-- "second group the tail": the preparation s, then one word
unfoldable pub commit_one : Stores → Change → List Stores
commit_one s c = s ∷ one_word c.0 c.1 ∷ []

-- the journal's pairs for the targets, from position e on
unfoldable pub journal_pairs : Mem → ℕ → List Change → Stores
journal_pairs u e [] w = none
journal_pairs u e (c ∷ cs) w =
    first_of (one_word (target_word e) c.0 w) (first_of (one_word (old_word e) (u c.0) w) (journal_pairs u (next_position e) cs w))

unfoldable pub targets : List Change → Stores
targets [] w = none
targets (c ∷ cs) w = first_of (one_word c.0 c.1 w) (targets cs w)

-- "first group the same preparation plus the journal pairs at enqueue; then enqueue; then the two targets; then dequeue, set equal to
-- enqueue" for any number of targets
unfoldable pub commit_together : Mem → Stores → List Change → List Stores
commit_together u s cs =
    let e = (u enqueue_word + length cs) % position_count in
    both s (journal_pairs u (u enqueue_word) cs) ∷ one_word enqueue_word e ∷ targets cs ∷ one_word dequeue_word e ∷ []

-- one word by itself, several through the journal
unfoldable pub commit : Mem → Stores → List Change → List Stores
commit u s [] = []
commit u s (c ∷ []) = commit_one s c
commit u s (c ∷ d ∷ cs) = commit_together u s (c ∷ d ∷ cs)

-- Taking pages. f says which pages may be taken: free ones that the call has not taken yet. "Pages let go by a call are not free to it."

-- f but for the pages ps
unfoldable pub besides : (ℕ → Bool) → List ℕ → ℕ → Bool
besides f ps p = f p && not (has p ps)

-- the first page of the lowest run of n pages, of P
unfoldable pub lowest_run : (ℕ → Bool) → ℕ → ℕ → Option ℕ
lowest_run f P n = lowest (λ p. all_below n (λ i. f (p + i))) P 0

-- n pages from a page on, if there is one, and else the pages ps
abbrev pub run_or : ℕ → Option ℕ → List ℕ → List ℕ
run_or n none ps = ps
run_or n (some p) ps = values_from (λ i. i) p n

-- n pages for data, of P: "Data goes to the lowest run of enough free pages"; "A write that finds no single run shall take the lowest free
-- pages one by one, as many as it needs" (document 02, order 3). They are fewer than n where there are not so many.
unfoldable pub lowest_pages : (ℕ → Bool) → ℕ → ℕ → List ℕ
lowest_pages f P n = run_or n (lowest_run f P n) (lowest_few f P 0 n)

-- Appending to one log.

-- What is appended to inode `log`'s log, or is the whole of it where the log is written `anew`: `entries`, and then fresh data, `count`
-- file pages from `file` on, of which the j-th word is `words j`, with the file's `size`. `count` may be 0: then there are the entries
-- alone.
pub record Append : Type 0 where
  pub log : ℕ
  pub anew : Bool
  pub entries : List (List ℕ)
  pub file : ℕ
  pub count : ℕ
  pub words : ℕ → ℕ
  pub size : ℕ

-- entries and no data
unfoldable pub entries_only : Bool → ℕ → List (List ℕ) → Append
entries_only b k es = record { log = k; anew = b; entries = es; file = 0; count = 0; words = λ j. 0; size = 0 }

module _ (u : Mem) (P : ℕ) (f : ℕ → Bool) (a : Append) where
  -- the pages of the data, ascending: the j-th is that of file page `file` + j
  unfoldable pub data_pages : List ℕ
  data_pages = lowest_pages f P a.count

  -- the entries, and "one write entry for each longest stretch among them, all with the final size, in file order"
  unfoldable pub appended : List (List ℕ)
  appended = a.entries ++ stretch_entries a.size (stretches (λ i. get_or data_pages (i - a.file) 0) a.count a.file)

  -- the page on which the log goes on, if it has one, and how many entries that page holds
  unfoldable pub old_pages : List ℕ
  old_pages = cond a.anew [] (tail_pages u a.log)

  unfoldable pub old_slots : ℕ
  old_slots = cond a.anew 0 (tail_slots u a.log)

  -- how many fresh log pages the entries take
  unfoldable pub fresh_pages : ℕ
  fresh_pages = pages_for (old_slots + length appended) - length old_pages

  -- "Log pages, up to two now, come from the lowest free pages left"; "Clean writes a new log in the lowest free pages, ascending."
  unfoldable pub fresh_log : List ℕ
  fresh_log = lowest_few (besides f data_pages) P 0 fresh_pages

  -- how many pages it takes, "the data and log pages together"
  unfoldable pub pages_needed : ℕ
  pages_needed = a.count + fresh_pages

  -- "first group the data pages (all 64 words each), the entries (8 words each), a new log page's link, and the head if the tail was 0"
  unfoldable pub prepared : Stores
  prepared =
      both (lay_entries (old_pages ++ fresh_log) old_slots appended)
      (both (only_if (not a.anew && eqb (u (tail_word a.log)) 0) (one_word (head_word a.log) (get_or fresh_log 0 0)))
      (lay_pages data_pages a.words))

  -- "second group the tail"; of a log written anew "head, then tail"
  unfoldable pub new_tail : Change
  new_tail = (tail_word a.log, tail_after (old_pages ++ fresh_log) old_slots (length appended))

  unfoldable pub own_changes : List Change
  own_changes = cond a.anew ((head_word a.log, get_or fresh_log 0 0) ∷ new_tail ∷ []) (new_tail ∷ [])

  -- what may be taken afterwards
  unfoldable pub pages_left : ℕ → Bool
  pages_left = besides (besides f data_pages) fresh_log

-- Several appends of one call, in order.
module _ (u : Mem) (P : ℕ) where
  unfoldable pub all_needed : (ℕ → Bool) → List Append → ℕ
  all_needed f [] = 0
  all_needed f (a ∷ more) = pages_needed u P f a + all_needed (pages_left u P f a) more

  unfoldable pub all_prepared : (ℕ → Bool) → List Append → Stores
  all_prepared f [] = no_words
  all_prepared f (a ∷ more) = both (prepared u P f a) (all_prepared (pages_left u P f a) more)

  unfoldable pub all_changes : (ℕ → Bool) → List Append → List Change
  all_changes f [] = []
  all_changes f (a ∷ more) = own_changes u P f a ++ all_changes (pages_left u P f a) more

-- Room, of a call that needs some of the free pages that are available. 12: "the free pages are fewer than the data and log pages
-- together"; with one data page or none this is document 01's "for the data no run long enough, or no page left for the log where it needs
-- one (clean: fewer free than needed)". Then 15, of a call that keeps the last free page (document 02, order 4): "The rule concerns only
-- calls that take at least one page", "checked directly after 12".
unfoldable pub room_checks : Bool → ℕ → ℕ → Checks
room_checks keeps available needed = (ltb available needed, no_space) ∷ (keeps && not (eqb needed 0) && eqb needed available, last_page) ∷ []

-- What a call does: the refusals that always apply; whether there is nothing to change; the refusals that apply only where something
-- changes; whether it keeps the last free page ("Create, link, write and set size shall not take the last free page"; "Unlink, rename and
-- clean may take the last page"); what is appended; further stores of the first group; further words to commit, after those of the appends.
pub record Action : Type 0 where
  pub always : Checks
  pub unchanged : Bool
  pub changing : Checks
  pub keeps : Bool
  pub appends : List Append
  pub further : Stores
  pub changes : List Change

module _ (u : Mem) (P N : ℕ) where
  -- the checks for room of a call that makes the appends xs: "pages let go by the call do not count"
  unfoldable pub space_checks : Bool → List Append → Checks
  space_checks keeps xs = room_checks keeps (free_count u P N) (all_needed u P (free u P N) xs)

  unfoldable pub action_checks : Action → Checks
  action_checks a = a.always ++ cond a.unchanged [] (a.changing ++ space_checks a.keeps a.appends)

  -- "A call with nothing to change fills 0 words."
  unfoldable pub action_groups : Action → List Stores
  action_groups a =
      let s = both (all_prepared u P (free u P N) a.appends) a.further in
      let cs = all_changes u P (free u P N) a.appends ++ a.changes in
      let gs = commit u s cs in
      cond a.unchanged [] gs

-- how many file pages there are from the one that holds byte o up to the one that holds byte e − 1
abbrev pub pages_covered : ℕ → ℕ → ℕ
pages_covered o e = (e - 1) / 512 + 1 - o / 512

-- Below, d and e are inodes of folders in which names are read and changed.
module _ (u : Mem) (P N : ℕ) where
  -- Names.

  abbrev pub folders : Folders
  folders = folders_of u P N

  -- 6, of a call that takes a folder, or any inode: "inode invalid or out of range". "Where a folder is taken, 6 no longer covers inode 0."
  unfoldable pub none_there : ℕ → Bool
  none_there k = leb N k || not (is_valid u k)

  -- the inode that name n leads to in folder d; 0 where it is absent, and where d is no folder
  unfoldable pub leads_to : ℕ → List ℕ → ℕ
  leads_to d n = inode_of (folders d) n

  -- 7: whether name n stands in folder d; "In a file given as folder, no name counts as [..] taken"
  unfoldable pub stands : ℕ → List ℕ → Bool
  stands d n = not (eqb (leads_to d n) 0)

  -- 6: "In a file given as folder, no name counts as absent"
  unfoldable pub is_absent : ℕ → List ℕ → Bool
  is_absent d n = is_directory u d && not (stands d n)

  -- 11: "a 225th name"
  unfoldable pub is_full : ℕ → Bool
  is_full d = leb most_names (length (folders d))

  -- "Unlinking the last name, and a rename that takes away a file's last name, journal [..] that valid word": 0, where name n is its
  -- inode's only name in all folders
  unfoldable pub release : ℕ → List ℕ → List Change
  release d n = let j = leads_to d n in cond (stands d n && eqb (name_count N folders j) 1) ((valid_word j, 0) ∷ []) []

  -- create: "the lowest invalid inode", from 1 on
  unfoldable pub invalid_inode : Option ℕ
  invalid_inode = lowest (λ k. not (is_valid u k)) (N - 1) 1

  -- "Create journals the directory's tail, then the inode's valid word, and in its first group also stores 0 in the new inode's head and
  -- tail." "Every create, of a file or a folder, stores the type in its first group": t. 16: "a file where a folder is wanted".
  unfoldable pub create_action : ℕ → ℕ → List ℕ → Action
  create_action t d n =
      let i = or_else invalid_inode 0 in
      record {
        always = (not (new_name_ok n), bad_name) ∷ (none_there d, not_there) ∷ (stands d n, taken) ∷ (not (is_directory u d), wrong_type)
            ∷ (not (is_some invalid_inode), no_inode) ∷ (is_full d, directory_full) ∷ [];
        unchanged = false;
        changing = [];
        keeps = true;
        appends = entries_only false d (add_words i n ∷ []) ∷ [];
        further = both (one_word (head_word i) 0) (both (one_word (tail_word i) 0) (one_word (type_word i) t));
        changes = (valid_word i, 1) ∷ [];
      }

  -- 16: "a file where a folder is wanted, a link to a folder"
  unfoldable pub link_action : ℕ → List ℕ → ℕ → List ℕ → Action
  link_action d a e b =
      record {
        always = (not (name_ok a && new_name_ok b), bad_name) ∷ (none_there d || none_there e || is_absent d a, not_there) ∷ (stands e b, taken)
            ∷ (not (is_directory u d) || not (is_directory u e) || is_directory u (leads_to d a), wrong_type)
            ∷ (is_full e, directory_full) ∷ [];
        unchanged = false;
        changing = [];
        keeps = true;
        appends = entries_only false e (add_words (leads_to d a) b ∷ []) ∷ [];
        further = no_words;
        changes = [];
      }

  -- "unlinking a folder that has names gets 17, directly after 16"
  unfoldable pub unlink_action : ℕ → List ℕ → Action
  unlink_action d n =
      record {
        always = (not (name_ok n), bad_name) ∷ (none_there d || is_absent d n, not_there) ∷ (not (is_directory u d), wrong_type)
            ∷ (ltb 0 (length (folders (leads_to d n))), not_empty) ∷ [];
        unchanged = false;
        changing = [];
        keeps = false;
        appends = entries_only false d (remove_words n ∷ []) ∷ [];
        further = no_words;
        changes = release d n;
      }

  -- "Names leading to one inode still change nothing, before the new checks."
  unfoldable pub same_inode : ℕ → List ℕ → ℕ → List ℕ → Bool
  same_inode d a e b = is_directory u d && is_directory u e && eqb (leads_to d a) (leads_to e b)

  -- "Rename appends remove, then add." "Moving a name between folders takes log pages [..] and journals the two tails, the source folder
  -- first in both": the remove goes to the source folder's log, the add to the other's.
  unfoldable pub rename_appends : ℕ → List ℕ → ℕ → List ℕ → List Append
  rename_appends d a e b =
      let add = add_words (leads_to d a) b in
      cond (eqb d e) (entries_only false d (remove_words a ∷ add ∷ []) ∷ [])
      (entries_only false d (remove_words a ∷ []) ∷ entries_only false e (add ∷ []) ∷ [])

  -- 16: "a rename onto an existing folder or of a folder onto any standing name"
  abbrev pub replaces_folder : ℕ → List ℕ → ℕ → List ℕ → Bool
  replaces_folder d a e b = stands e b && (is_directory u (leads_to d a) || is_directory u (leads_to e b))

  -- 18: "a folder's move into or beneath itself"
  abbrev pub enters_itself : ℕ → List ℕ → ℕ → Bool
  enters_itself d a e = is_directory u (leads_to d a) && is_beneath N folders (leads_to d a) e

  -- 11: "A move that would give a folder a 225th name gets 11."
  abbrev pub fills_up : ℕ → ℕ → List ℕ → Bool
  fills_up d e b = not (eqb d e) && not (stands e b) && is_full e

  -- "[..] and then the valid word of a file that loses its last name."
  unfoldable pub rename_action : ℕ → List ℕ → ℕ → List ℕ → Action
  rename_action d a e b =
      record {
        always = (not (name_ok a && new_name_ok b), bad_name) ∷ (none_there d || none_there e || is_absent d a, not_there) ∷ [];
        unchanged = same_inode d a e b;
        changing = (not (is_directory u d) || not (is_directory u e) || replaces_folder d a e b, wrong_type)
            ∷ (enters_itself d a e, into_itself) ∷ (fills_up d e b, directory_full) ∷ [];
        keeps = false;
        appends = rename_appends d a e b;
        further = no_words;
        changes = release e b;
      }

  -- Files.

  -- 6 and 16, of a call that takes a file's inode: "inode invalid or out of range", "inode 0"; "A folder given where a file is wanted"
  unfoldable pub file_checks : ℕ → Checks
  file_checks k = (none_there k || eqb k root, not_there) ∷ (is_directory u k, wrong_type) ∷ []

  -- "The fresh pages cover the written part; their other bytes are the file's, or zeros."
  unfoldable pub written_byte : ℕ → ℕ → List ℕ → ℕ → ℕ
  written_byte k o bs x =
      cond (leb o x && ltb x (o + length bs)) (get_or bs (x - o) 0) (file_byte u (file_of u P N k) x)

  -- "Size becomes the larger of old size and end."
  unfoldable pub write_append : ℕ → ℕ → List ℕ → Append
  write_append k o bs =
      record {
        log = k;
        anew = false;
        entries = [];
        file = o / 512;
        count = pages_covered o (o + length bs);
        words = λ j. le_from (written_byte k o bs) (512 * (o / 512) + 8 * j) 8;
        size = max (file_of u P N k).size (o + length bs);
      }

  -- "0 bytes changes nothing, after the checks."
  unfoldable pub write_action : ℕ → ℕ → List ℕ → Action
  write_action k o bs =
      record {
        always = file_checks k ++ (ltb write_bytes (length bs), long_write) ∷ (ltb file_bytes (o + length bs), past_the_end) ∷ [];
        unchanged = eqb (length bs) 0;
        changing = [];
        keeps = true;
        appends = write_append k o bs ∷ [];
        further = no_words;
        changes = [];
      }

  -- "A smaller size inside a mapped page, not at its start"
  unfoldable pub cuts_page : ℕ → ℕ → Bool
  cuts_page k s =
      let f = file_of u P N k in
      ltb s f.size && not (eqb (s % 512) 0) && not (eqb (f.page (s / 512)) 0)

  -- "a fresh copy, zero from the size on"
  unfoldable pub kept_byte : ℕ → ℕ → ℕ → ℕ
  kept_byte k s x = cond (ltb x s) (file_byte u (file_of u P N k) x) 0

  -- "appends kind 2 and then kind 1 with a fresh copy [..]. Any other appends kind 2."
  unfoldable pub size_append : ℕ → ℕ → Append
  size_append k s =
      record {
        log = k;
        anew = false;
        entries = size_words s ∷ [];
        file = s / 512;
        count = bit (cuts_page k s);
        words = λ j. le_from (kept_byte k s) (512 * (s / 512) + 8 * j) 8;
        size = s;
      }

  -- "Set size: equal size changes nothing."
  unfoldable pub size_action : ℕ → ℕ → Action
  size_action k s =
      record {
        always = file_checks k ++ (ltb file_bytes s, past_the_end) ∷ [];
        unchanged = eqb s (file_of u P N k).size;
        changing = [];
        keeps = true;
        appends = size_append k s ∷ [];
        further = no_words;
        changes = [];
      }

-- Cleaning.

-- "one kind 1 entry for each longest stretch of consecutive file pages on consecutive data pages, ascending, with the final size"
-- "with no mapped page, one kind 2 if the size is not 0"
unfoldable pub clean_file : File → List (List ℕ)
clean_file f =
    let ws = stretch_entries f.size (stretches f.page file_pages 0) in
    cond (eqb (length ws) 0) (cond (eqb f.size 0) [] (size_words f.size ∷ [])) ws

-- "The directory gets one add for each name, in list order", and a folder as the directory does.
unfoldable pub clean_names : Names → List (List ℕ)
clean_names ns = map (λ (p : List ℕ × ℕ). add_words p.1 p.0) ns

module _ (u : Mem) (P N : ℕ) where
  unfoldable pub clean_entries : ℕ → List (List ℕ)
  clean_entries k = cond (is_directory u k) (clean_names (names_of u P N k)) (clean_file (file_of u P N k))

  -- 6 (inode 0 and folders are allowed). "A log whose tail is 0 already changes nothing."
  unfoldable pub clean_action : ℕ → Action
  clean_action k =
      record {
        always = (none_there u P N k, not_there) ∷ [];
        unchanged = eqb (u (tail_word k)) 0;
        changing = [];
        keeps = false;
        appends = entries_only true k (clean_entries k) ∷ [];
        further = no_words;
        changes = [];
      }

-- Recovering. m are the words as they stand, not the view.

-- "the old values", by target
unfoldable pub old_values : Mem → Stores
old_values m w = cond (has w (open_targets m)) (some (view m w)) none

-- "Recover: if the journal is open, first group the old values, second group dequeue set to enqueue."
unfoldable pub recover_action : Mem → Action
recover_action m =
    record {
      always = [];
      unchanged = not (is_open m);
      changing = [];
      keeps = false;
      appends = [];
      further = old_values m;
      changes = (dequeue_word, m enqueue_word) ∷ [];
    }

-- All nine, from the words m of a volume. "its type, 0 file and 1 folder"
unfoldable pub action : Mem → ℕ → ℕ → Call → Action
action m P N (create d n) = create_action (view m) P N 0 d n
action m P N (create_folder d n) = create_action (view m) P N 1 d n
action m P N (link d a e b) = link_action (view m) P N d a e b
action m P N (unlink d n) = unlink_action (view m) P N d n
action m P N (rename d a e b) = rename_action (view m) P N d a e b
action m P N (write k o bs) = write_action (view m) P N k o bs
action m P N (set_size k s) = size_action (view m) P N k s
action m P N (clean k) = clean_action (view m) P N k
action m P N recover = recover_action m

-- refusals from 5 on
unfoldable pub checks : Mem → ℕ → ℕ → Call → Checks
checks m P N c = action_checks (view m) P N (action m P N c)

-- the groups of stores, where the call is not refused
unfoldable pub groups : Mem → ℕ → ℕ → Call → List Stores
groups m P N c = action_groups (view m) P N (action m P N c)
