-- Document 01, "Volume": the sizes, and where things stand.
-- P is the page count and N the inode count throughout.
use Rattle.std.specs.Prelude.{ℕ, ◌+◌, ◌*◌, ◌/◌, ◌%◌, Bool, ◌&&◌, ◌||◌, leb, ltb, eqb}
use Rattle.model.specs.Words.{Mem}

-- The limits that document 01 names.
abbrev pub file_pages : ℕ
file_pages = 128

abbrev pub file_bytes : ℕ
file_bytes = 65536

abbrev pub write_bytes : ℕ
write_bytes = 4096

abbrev pub name_bytes : ℕ
name_bytes = 32

abbrev pub most_names : ℕ
most_names = 224

abbrev pub list_words : ℕ
list_words = 4096

-- T: the pages of the inode table, which follow page 0
abbrev pub table_pages : ℕ → ℕ
table_pages N = N / 8

-- "P is the page count, 16 to 4,096; N the inode count, a multiple of 8 from 8 to 256; T = N/8 and P is at least T+4."
unfoldable pub sizes_ok : ℕ → ℕ → Bool
sizes_ok P N = leb 16 P && leb P 4096 && leb 8 N && leb N 256 && eqb (N % 8) 0 && leb (table_pages N + 4) P

-- "Inode k starts at word 64+8k. Its first word is valid (0 or 1), its second the head (a page number), its third the tail (a byte
-- offset)."
abbrev pub valid_word : ℕ → ℕ
valid_word k = 64 + 8 * k

abbrev pub head_word : ℕ → ℕ
head_word k = 65 + 8 * k

abbrev pub tail_word : ℕ → ℕ
tail_word k = 66 + 8 * k

-- Document 02, order 6: "The fourth word of an inode becomes its type, 0 file and 1 folder."
abbrev pub type_word : ℕ → ℕ
type_word k = 67 + 8 * k

-- "Inode 0 is the directory", the folder from which all others are reached
abbrev pub root : ℕ
root = 0

-- Whether inode k, where it is valid, is a folder, asked of the view u. "Inode 0 is a folder whatever that word holds."
abbrev pub is_directory : Mem → ℕ → Bool
is_directory u k = eqb k root || eqb (u (type_word k)) 1

-- "Pages T+1 to P−1 hold logs and data."
unfoldable pub in_pages : ℕ → ℕ → ℕ → Bool
in_pages P N p = ltb (table_pages N) p && ltb p P

-- "A log page has seven entries of 64 bytes, then a footer whose first word is the next log page."
abbrev pub page_entries : ℕ
page_entries = 7

abbrev pub footer : ℕ → ℕ
footer p = 64 * p + 56
