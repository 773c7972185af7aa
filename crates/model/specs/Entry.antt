-- Log entries of document 01, "Volume": eight words, four kinds, each with its own fields.
use Rattle.std.specs.Prelude.{ℕ, ◌+◌, ◌-◌, ◌*◌, Bool, false, cond, ◌&&◌, ◌||◌, not, List, [], ◌∷◌, ◌++◌, length, take, drop, replicate, leb, ltb, eqb}
use Rattle.model.specs.Lists.{all, same_list, values_from}
use Rattle.model.specs.Words.{Mem, word, byte_at}
use Rattle.model.specs.Layout.{table_pages, file_pages, file_bytes, name_bytes}

-- A name is held as its length and its four words, as 32 bytes: `len` and `field`.
pub data Entry : Type 0 where
  write_entry : (file : ℕ) → (page : ℕ) → (count : ℕ) → (size : ℕ) → Entry
  size_entry : (size : ℕ) → Entry
  add_entry : (inode : ℕ) → (len : ℕ) → (field : List ℕ) → Entry
  remove_entry : (len : ℕ) → (field : List ℕ) → Entry
  no_entry : Entry

-- a name "filled up with zeros": its 32 bytes
unfoldable pub padded : List ℕ → List ℕ
padded n = n ++ replicate (name_bytes - length n) 0

-- the 32 bytes of the four words from w on
unfoldable pub name_field : Mem → ℕ → List ℕ
name_field m w = values_from (byte_at m) (8 * w) name_bytes

-- The entry whose first word is word w.
-- "Kind 1, write: 1, first file page, first data page, page count, file size."
-- "Kind 2, set size: 2, size."
-- "Kind 3, add: 3, inode, name length, four words of name filled up with zeros."
-- "Kind 4, remove: 4, 0 (not read), name length, name."
unfoldable pub entry_at : Mem → ℕ → Entry
entry_at m w =
    cond (eqb (m w) 1) (write_entry (m (w + 1)) (m (w + 2)) (m (w + 3)) (m (w + 4)))
    (cond (eqb (m w) 2) (size_entry (m (w + 1)))
    (cond (eqb (m w) 3) (add_entry (m (w + 1)) (m (w + 2)) (name_field m (w + 3)))
    (cond (eqb (m w) 4) (remove_entry (m (w + 2)) (name_field m (w + 3)))
    no_entry)))

-- "Names have 1 to 32 bytes, none of them 0 or 47 ("/")."
abbrev pub name_byte_ok : ℕ → Bool
name_byte_ok b = not (eqb b 0) && not (eqb b 47)

-- a name that may stand
unfoldable pub name_ok : List ℕ → Bool
name_ok n = leb 1 (length n) && leb (length n) name_bytes && all name_byte_ok n

-- Document 02, order 5: "POSIX keeps the names "." and ".." for the directory itself and its parent." 46 is the full stop.
unfoldable pub is_dot_name : List ℕ → Bool
is_dot_name n = same_list n (46 ∷ []) || same_list n (46 ∷ 46 ∷ [])

-- "Create, link's new name and rename's new name shall no longer accept them.": a name that a file may be given
unfoldable pub new_name_ok : List ℕ → Bool
new_name_ok n = name_ok n && not (is_dot_name n)

-- "the bytes after a name are 0"
abbrev pub is_zero : ℕ → Bool
is_zero b = eqb b 0

unfoldable pub field_ok : ℕ → List ℕ → Bool
field_ok l f = leb l name_bytes && name_ok (take l f) && all is_zero (drop l f)

-- "files [have kinds] 1 and 2"; "Sizes are at most 65,536. Write counts are 1 to 128, file pages end at or below 128, data pages lie in T+1
-- to P−1."
unfoldable pub file_entry_ok : ℕ → ℕ → Entry → Bool
file_entry_ok P N (write_entry f d c s) =
    leb 1 c && leb c file_pages && leb (f + c) file_pages && ltb (table_pages N) d && leb (d + c) P && leb s file_bytes
file_entry_ok P N (size_entry s) = leb s file_bytes
file_entry_ok P N (add_entry i l f) = false
file_entry_ok P N (remove_entry l f) = false
file_entry_ok P N no_entry = false

-- "The directory has kinds 3 and 4"; "Added inodes are 1 to N−1."
unfoldable pub name_entry_ok : ℕ → Entry → Bool
name_entry_ok N (write_entry f d c s) = false
name_entry_ok N (size_entry s) = false
name_entry_ok N (add_entry i l f) = leb 1 i && ltb i N && field_ok l f
name_entry_ok N (remove_entry l f) = field_ok l f
name_entry_ok N no_entry = false

-- Entries as their eight words. "unused words are written 0"
unfoldable pub write_words : ℕ → ℕ → ℕ → ℕ → List ℕ
write_words f d c s = 1 ∷ f ∷ d ∷ c ∷ s ∷ 0 ∷ 0 ∷ 0 ∷ []

unfoldable pub size_words : ℕ → List ℕ
size_words s = 2 ∷ s ∷ 0 ∷ 0 ∷ 0 ∷ 0 ∷ 0 ∷ 0 ∷ []

-- a name's four words are those of its bytes, which read as 0 past its end
unfoldable pub name_words : ℕ → ℕ → List ℕ → List ℕ
name_words kind i n = kind ∷ i ∷ length n ∷ word n 0 ∷ word n 1 ∷ word n 2 ∷ word n 3 ∷ 0 ∷ []

unfoldable pub add_words : ℕ → List ℕ → List ℕ
add_words i n = name_words 3 i n

unfoldable pub remove_words : List ℕ → List ℕ
remove_words n = name_words 4 0 n
