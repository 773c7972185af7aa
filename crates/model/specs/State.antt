-- What a log's entries come to: a file's size and pages, a directory's names. Document 01, "Volume", the four kinds.
use Rattle.std.specs.Prelude.{ℕ, ◌+◌, ◌-◌, ◌*◌, ◌/◌, ◌%◌, Bool, cond, ◌&&◌, not, List, [], ◌∷◌, ◌++◌, map, take, leb, ltb, eqb}
use Rattle.model.specs.Lists.{filter, foldl, same_list, values_from}
use Rattle.model.specs.Words.{Mem, byte_at}
use Rattle.model.specs.Entry.{Entry, write_entry, size_entry, add_entry, remove_entry, no_entry}
use Rattle.model.specs.Log.{entries}

-- A file: its size, and the data page of each file page. 0 says that a file page is unmapped: no data page is page 0.
pub record File : Type 0 where
  pub size : ℕ
  pub page : ℕ → ℕ

unfoldable pub empty_file : File
empty_file = record { size = 0; page = λ i. 0 }

-- Kind 1 "Maps those file pages and sets the size."
-- Kind 2 "Unmaps file pages starting at or after it, and sets it."
unfoldable pub file_step : File → Entry → File
file_step s (write_entry f d c z) =
    record { size = z; page = λ i. cond (leb f i && ltb i (f + c)) (d + (i - f)) (s.page i) }
file_step s (size_entry z) = record { size = z; page = λ i. cond (leb z (512 * i)) 0 (s.page i) }
file_step s (add_entry i l f) = s
file_step s (remove_entry l f) = s
file_step s no_entry = s

-- the file that inode k's log means
unfoldable pub file_of : Mem → ℕ → ℕ → ℕ → File
file_of m P N k = foldl file_step empty_file (entries m P N k)

-- Byte x of a file, whatever its size. "An unmapped page reads as zeros."
unfoldable pub file_byte : Mem → File → ℕ → ℕ
file_byte m f x = cond (eqb (f.page (x / 512)) 0) 0 (byte_at m (512 * f.page (x / 512) + x % 512))

-- the bytes of a file
unfoldable pub bytes_of : Mem → File → List ℕ
bytes_of m f = values_from (file_byte m f) 0 f.size

-- A directory: its names with their inodes, in order.
abbrev pub Names : Type 0
Names = List (List ℕ × ℕ)

abbrev pub is_named : List ℕ → List ℕ × ℕ → Bool
is_named n p = same_list p.0 n

-- Kind 4 "Takes the name out if it is there."
unfoldable pub without : List ℕ → Names → Names
without n ns = filter (λ (p : List ℕ × ℕ). not (is_named n p)) ns

-- Kind 3 "Takes out any earlier pair of that name, then puts name and inode at the list's end."
unfoldable pub with_name : List ℕ → ℕ → Names → Names
with_name n i ns = without n ns ++ ((n, i) ∷ [])

unfoldable pub name_step : Names → Entry → Names
name_step ns (write_entry f d c z) = ns
name_step ns (size_entry z) = ns
name_step ns (add_entry i l f) = with_name (take l f) i ns
name_step ns (remove_entry l f) = without (take l f) ns
name_step ns no_entry = ns

-- the names that directory k's log means
unfoldable pub names_of : Mem → ℕ → ℕ → ℕ → Names
names_of m P N k = foldl name_step [] (entries m P N k)

-- the inode that a name leads to; 0, the directory's own, where the name is absent: no name leads to inode 0
unfoldable pub inode_of : Names → List ℕ → ℕ
inode_of [] n = 0
inode_of (p ∷ ps) n = let r = inode_of ps n in cond (is_named n p) p.1 r

-- the inodes that the names lead to
abbrev pub inodes : Names → List ℕ
inodes ns = map (λ (p : List ℕ × ℕ). p.1) ns
