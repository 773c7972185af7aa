-- Document 01, "An accepted volume". P, N and the journal's own words are read as they stand, all else from the view.
use Rattle.std.specs.Prelude.{ℕ, ◌+◌, ◌-◌, ◌*◌, ◌/◌, ◌%◌, Bool, cond, ◌&&◌, ◌||◌, not, List, [], length, leb, ltb, eqb}
use Rattle.model.specs.Lists.{bit, all_below, sum_below, all, count, is_some}
use Rattle.model.specs.Stretches.{stretches_of}
use Rattle.model.specs.Words.{Mem}
use Rattle.model.specs.Layout.{valid_word, type_word, in_pages, root, is_directory, file_pages, most_names}
use Rattle.model.specs.Journal.{journal_ok, view}
use Rattle.model.specs.Entry.{file_entry_ok, name_entry_ok}
use Rattle.model.specs.Log.{log_pages, pages, entries}
use Rattle.model.specs.State.{File, file_of, file_byte, Names, names_of, inodes}
use Rattle.model.specs.Tree.{Folders, name_count, is_reached}

-- Below, u is a view.

abbrev pub is_valid : Mem → ℕ → Bool
is_valid u k = eqb (u (valid_word k)) 1

-- a valid file, a valid folder
abbrev pub is_file : Mem → ℕ → Bool
is_file u k = not (is_directory u k) && is_valid u k

abbrev pub is_folder : Mem → ℕ → Bool
is_folder u k = is_directory u k && is_valid u k

-- the names of each valid folder; of what is none, no names
unfoldable pub folders_of : Mem → ℕ → ℕ → Folders
folders_of u P N d = cond (ltb d N && is_folder u d) (names_of u P N d) []

-- how often page p, not 0, is a data page of a file
unfoldable pub mapped_to : File → ℕ → ℕ
mapped_to f p = sum_below file_pages (λ i. bit (eqb (f.page i) p))

-- how often page p serves inode k: "log pages and mapped pages of valid inodes"
unfoldable pub uses_by : Mem → ℕ → ℕ → ℕ → ℕ → ℕ
uses_by u P N p k =
    cond (is_valid u k) (count p (pages u P N k) + cond (is_directory u k) 0 (mapped_to (file_of u P N k) p)) 0

-- how often page p serves
unfoldable pub uses : Mem → ℕ → ℕ → ℕ → ℕ
uses u P N p = sum_below N (uses_by u P N p)

-- "A page from T+1 up is free if it is no such log page or mapped page."
unfoldable pub free : Mem → ℕ → ℕ → ℕ → Bool
free u P N p = in_pages P N p && eqb (uses u P N p) 0

unfoldable pub free_count : Mem → ℕ → ℕ → ℕ
free_count u P N = sum_below P (λ p. bit (free u P N p))

-- Document 02, order 1: the free pages "as pairs of first page and length, sorted by first page, each pair the longest stretch possible and
-- no stretch twice"
unfoldable pub gaps : Mem → ℕ → ℕ → List (ℕ × ℕ)
gaps u P N = stretches_of (free u P N) P 0

-- The bullets of the section, in its order; the journal's own are journal_ok.

-- "valid words [are 0 or 1], inode 0 [is valid]"
unfoldable pub valid_ok : Mem → ℕ → Bool
valid_ok u k = cond (eqb k root) (is_valid u k) (leb (u (valid_word k)) 1)

-- Document 02, order 6: "A valid inode's type other than 0 or 1, inode 0's apart, makes a volume damaged."
unfoldable pub type_ok : Mem → ℕ → Bool
type_ok u k = eqb k root || leb (u (type_word k)) 1

-- "tails [..] are as said above"; "Every log walk ends, inside the log and data pages."
-- "entry kinds are as said above, and the bytes after a name are 0", and the limits of sizes, writes, names and added inodes, entry by
-- entry. "A folder's log is like the directory's".
unfoldable pub log_ok : Mem → ℕ → ℕ → ℕ → Bool
log_ok u P N k =
    is_some (log_pages u P N k)
    && cond (is_directory u k) (all (name_entry_ok N) (entries u P N k)) (all (file_entry_ok P N) (entries u P N k))

-- "In the end at most 224 names stand, each names a valid file": of each folder, "with its own 224 names", and a valid file or folder
unfoldable pub folder_ok : Mem → Names → Bool
folder_ok u ns = leb (length ns) most_names && all (is_valid u) (inodes ns)

-- "and each valid file has a name", in some folder; "Every valid folder but inode 0 has exactly one name and is reached from inode 0; a
-- volume that breaks this is damaged."
unfoldable pub named_ok : Mem → ℕ → Folders → ℕ → Bool
named_ok u N F k =
    not (is_valid u k) || eqb k root
    || cond (is_directory u k) (eqb (name_count N F k) 1 && is_reached N F k) (not (eqb (name_count N F k) 0))

-- "No page serves twice". Page 0 is none of them.
unfoldable pub serves_once : Mem → ℕ → ℕ → ℕ → Bool
serves_once u P N p = eqb p 0 || leb (uses u P N p) 1

-- "In the end no mapped page starts at or after the size, and a mapped page holding the size is zero from there on."
unfoldable pub end_ok : Mem → File → Bool
end_ok u f =
    all_below file_pages (λ i. eqb (f.page i) 0 || ltb (512 * i) f.size)
    && (eqb (f.size % 512) 0 || eqb (f.page (f.size / 512)) 0
    || all_below (512 - f.size % 512) (λ j. eqb (file_byte u f (f.size + j)) 0))

-- What is asked of inode k. "Heads and tails of invalid inodes are not read", and their types neither.
unfoldable pub inode_ok : Mem → ℕ → ℕ → ℕ → Bool
inode_ok u P N k =
    valid_ok u k && (not (is_valid u k) || (type_ok u k && log_ok u P N k && (is_directory u k || end_ok u (file_of u P N k))))

unfoldable pub view_ok : Mem → ℕ → ℕ → Bool
view_ok u P N =
    all_below N (inode_ok u P N) && all_below N (λ d. folder_ok u (folders_of u P N d)) && all_below N (named_ok u N (folders_of u P N))
    && all_below P (serves_once u P N)

-- An accepted volume, from its words m and its sizes P and N, which are within their limits.
unfoldable pub accepted : Mem → ℕ → ℕ → Bool
accepted m P N = journal_ok m N && view_ok (view m) P N
