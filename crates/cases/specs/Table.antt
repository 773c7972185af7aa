-- Cases A to K and M of document 01, "Campsite examples", and 28 rows more, as rows of one table; and a second table, of folders.
-- A row is data: where it starts, what is called, what is expected.
use Rattle.std.specs.Prelude.{ℕ, ◌+◌, ◌%◌, List, [], ◌∷◌}
use Rattle.model.specs.Lists.{values_from}
use Rattle.model.specs.Stores.{fence}
use Rattle.model.specs.FileMap.{Call, create, create_folder, link, unlink, rename, write, set_size, clean, recover}

-- What a row does.
pub data Step : Type 0 where
  -- format blank memory
  formats : (pages : ℕ) → (inodes : ℕ) → Step
  -- make a call on the volume that row `start` left; all its stores land
  calls : (start : ℕ) → (call : Call) → Step
  -- make a call on the volume that row `start` left; it is cut in group g, counted from 0, of which the words `kept` land
  cuts : (start : ℕ) → (call : Call) → (g : ℕ) → (kept : List ℕ) → Step
  -- land all stores of a list that no call filled on the volume that row `start` left
  stores : (start : ℕ) → (list : List ℕ) → Step

-- The answer that is expected: done, done with a count of words, or refused with a number.
pub data Expected : Type 0 where
  is_done : Expected
  fills : (words : ℕ) → Expected
  refuses : (number : ℕ) → Expected

-- What is expected of the volume that a row leaves.
pub data Fact : Type 0 where
  word_is : (index : ℕ) → (value : ℕ) → Fact
  free_is : (pages : ℕ) → Fact
  names_are : (folder : ℕ) → (count : ℕ) → Fact
  size_is : (inode : ℕ) → (size : ℕ) → Fact
  total_is : (folder : ℕ) → (bytes : ℕ) → Fact
  -- the data pages of an inode's file pages, from file page 0 on
  data_is : (inode : ℕ) → (pages : List ℕ) → Fact
  -- the pages of an inode's log
  log_is : (inode : ℕ) → (pages : List ℕ) → Fact
  -- what read lays in a buffer of as many bytes, from an offset on
  bytes_are : (inode : ℕ) → (offset : ℕ) → (bytes : List ℕ) → Fact
  -- what volume-list prints
  prints : (text : List ℕ) → Fact

pub record Row : Type 0 where
  pub step : Step
  pub answer : Expected
  pub facts : List Fact

-- Rows by their place in the table.
abbrev A : ℕ
A = 0

abbrev B : ℕ
B = 1

abbrev C : ℕ
C = 2

abbrev D : ℕ
D = 3

abbrev E : ℕ
E = 4

abbrev J : ℕ
J = 10

abbrev linked : ℕ
linked = 13

abbrev M : ℕ
M = 32

abbrev dots : ℕ
dots = 35

-- Rows of the table of folders.
abbrev folder : ℕ
folder = 3

abbrev nested : ℕ
nested = 4

abbrev moved : ℕ
moved = 5

-- "A1"
abbrev A1 : List ℕ
A1 = 65 ∷ 49 ∷ []

-- "A2"
abbrev A2 : List ℕ
A2 = 65 ∷ 50 ∷ []

-- "A3"
abbrev A3 : List ℕ
A3 = 65 ∷ 51 ∷ []

-- "A4"
abbrev A4 : List ℕ
A4 = 65 ∷ 52 ∷ []

-- "."
abbrev dot : List ℕ
dot = 46 ∷ []

-- ".."
abbrev dot_dot : List ℕ
dot_dot = 46 ∷ 46 ∷ []

-- n bytes to write: 1, 2, 3 and so on up to 255, then again. Document 01 leaves their values open.
abbrev bytes : ℕ → List ℕ
bytes n = values_from (λ i. i % 255 + 1) 0 n

-- "files 1 free 10" and "1 514 A1", each ended by a newline
abbrev listing_c : List ℕ
listing_c =
    102 ∷ 105 ∷ 108 ∷ 101 ∷ 115 ∷ 32 ∷ 49 ∷ 32 ∷ 102 ∷ 114 ∷ 101 ∷ 101 ∷ 32 ∷ 49 ∷ 48 ∷ 10
    ∷ 49 ∷ 32 ∷ 53 ∷ 49 ∷ 52 ∷ 32 ∷ 65 ∷ 49 ∷ 10 ∷ []

-- "files 2 free 13", "1 0 ." and "1 0 ..", each ended by a newline
abbrev listing_dots : List ℕ
listing_dots =
    102 ∷ 105 ∷ 108 ∷ 101 ∷ 115 ∷ 32 ∷ 50 ∷ 32 ∷ 102 ∷ 114 ∷ 101 ∷ 101 ∷ 32 ∷ 49 ∷ 51 ∷ 10
    ∷ 49 ∷ 32 ∷ 48 ∷ 32 ∷ 46 ∷ 10 ∷ 49 ∷ 32 ∷ 48 ∷ 32 ∷ 46 ∷ 46 ∷ 10 ∷ []

-- "files 1 free 8" and "2 514 A2", each ended by a newline
abbrev listing_moved : List ℕ
listing_moved =
    102 ∷ 105 ∷ 108 ∷ 101 ∷ 115 ∷ 32 ∷ 49 ∷ 32 ∷ 102 ∷ 114 ∷ 101 ∷ 101 ∷ 32 ∷ 56 ∷ 10
    ∷ 50 ∷ 32 ∷ 53 ∷ 49 ∷ 52 ∷ 32 ∷ 65 ∷ 50 ∷ 10 ∷ []

unfoldable pub table : List Row
table =
    -- A
    record { step = formats 16 8; answer = is_done; facts = free_is 14 ∷ names_are 0 0 ∷ [] }
    -- B
    ∷ record {
      step = calls A (create 0 A1);
      answer = fills 48;
      facts =
          log_is 0 (2 ∷ [])
          ∷ word_is 128 3 ∷ word_is 129 1 ∷ word_is 130 2 ∷ word_is 131 12609
          ∷ word_is 65 2 ∷ word_is 66 1088 ∷ word_is 72 1 ∷ word_is 8 2 ∷ word_is 9 2 ∷ names_are 0 1 ∷ [];
    }
    -- C
    ∷ record {
      step = calls B (write 1 510 (bytes 4));
      answer = fills 280;
      facts =
          data_is 1 (3 ∷ 4 ∷ []) ∷ log_is 1 (5 ∷ []) ∷ word_is 74 2624 ∷ size_is 1 514 ∷ bytes_are 1 508 (0 ∷ 0 ∷ 1 ∷ 2 ∷ 3 ∷ 4 ∷ [])
          ∷ free_is 10 ∷ prints listing_c ∷ [];
    }
    -- D
    ∷ record {
      step = calls C (set_size 1 100);
      answer = fills 166;
      facts = data_is 1 (6 ∷ 0 ∷ []) ∷ word_is 74 2752 ∷ size_is 1 100 ∷ free_is 11 ∷ [];
    }
    -- E
    ∷ record {
      step = calls D (clean 1);
      answer = fills 40;
      facts = word_is 73 3 ∷ word_is 74 1600 ∷ free_is 11 ∷ size_is 1 100 ∷ data_is 1 (6 ∷ 0 ∷ []) ∷ [];
    }
    -- F
    ∷ record {
      step = calls E (unlink 0 A1);
      answer = is_done;
      facts = free_is 13 ∷ word_is 8 6 ∷ word_is 9 6 ∷ names_are 0 0 ∷ [];
    }
    -- G
    ∷ record { step = calls B (rename 0 A1 0 A1); answer = fills 0; facts = [] }
    -- H
    ∷ record { step = calls B (create 0 A1); answer = refuses 7; facts = [] }
    -- I
    ∷ record { step = calls B (write 1 61440 (bytes 4096)); answer = is_done; facts = [] }
    ∷ record { step = calls B (write 1 61441 (bytes 4096)); answer = refuses 9; facts = [] }
    -- J
    ∷ record { step = cuts A (create 0 A1) 2 (66 ∷ []); answer = is_done; facts = word_is 66 1088 ∷ word_is 72 0 ∷ [] }
    ∷ record { step = calls J recover; answer = fills 10; facts = names_are 0 0 ∷ free_is 14 ∷ [] }
    -- K
    ∷ record { step = calls B (write 1 0 (bytes 4097)); answer = refuses 8; facts = [] }
    -- Not of document 01: calls by name that are done and store, which the cases above lack. A further name; a name in place of another;
    -- one of two names taken away, which keeps the file.
    ∷ record { step = calls B (link 0 A1 0 A2); answer = fills 22; facts = names_are 0 2 ∷ word_is 66 1152 ∷ free_is 13 ∷ [] }
    ∷ record { step = calls B (rename 0 A1 0 A2); answer = fills 38; facts = names_are 0 1 ∷ word_is 66 1216 ∷ free_is 13 ∷ [] }
    ∷ record { step = calls linked (unlink 0 A1); answer = fills 22; facts = names_are 0 1 ∷ word_is 72 1 ∷ free_is 13 ∷ [] }
    -- Document 02, order 3. Of two files with a page each in turn one is taken away, so that pages 5 and 6 are free, and 8 to 15.
    ∷ record { step = calls B (create 0 A2); answer = fills 46; facts = [] }
    ∷ record { step = calls 16 (write 1 0 (bytes 1)); answer = is_done; facts = data_is 1 (3 ∷ []) ∷ log_is 1 (4 ∷ []) ∷ [] }
    ∷ record { step = calls 17 (write 2 0 (bytes 1)); answer = is_done; facts = data_is 2 (5 ∷ []) ∷ log_is 2 (6 ∷ []) ∷ [] }
    ∷ record { step = calls 18 (write 1 512 (bytes 1)); answer = is_done; facts = data_is 1 (3 ∷ 7 ∷ []) ∷ [] }
    ∷ record { step = calls 19 (unlink 0 A2); answer = is_done; facts = free_is 10 ∷ [] }
    ∷ record { step = calls 20 (create 0 A2); answer = is_done; facts = [] }
    -- Nine pages have no run: the lowest nine are taken, with an entry for 5 and 6 and one for 8 to 14, and page 15 is left.
    ∷ record {
      step = calls 21 (write 1 1025 (bytes 4096));
      answer = fills 1190;
      facts =
          data_is 1 (3 ∷ 7 ∷ 5 ∷ 6 ∷ 8 ∷ 9 ∷ 10 ∷ 11 ∷ 12 ∷ 13 ∷ 14 ∷ []) ∷ log_is 1 (4 ∷ [])
          ∷ word_is 273 2 ∷ word_is 274 5 ∷ word_is 275 2 ∷ word_is 276 5121
          ∷ word_is 281 4 ∷ word_is 282 8 ∷ word_is 283 7 ∷ word_is 284 5121
          ∷ word_is 74 2304 ∷ size_is 1 5121 ∷ bytes_are 1 2047 (3 ∷ 4 ∷ 5 ∷ []) ∷ free_is 1 ∷ [];
    }
    -- Then two pages for a byte of a file that has no log are one too many.
    ∷ record { step = calls 22 (write 2 0 (bytes 1)); answer = refuses 12; facts = [] }
    -- Three pages have a run, and take it as before, though 5 and 6 are free.
    ∷ record {
      step = calls 20 (write 1 1024 (bytes 1025));
      answer = fills 406;
      facts = data_is 1 (3 ∷ 7 ∷ 8 ∷ 9 ∷ 10 ∷ []) ∷ log_is 1 (4 ∷ []) ∷ free_is 7 ∷ [];
    }
    -- Document 02, order 4. All ten free pages are not taken, nor the last one for a page that is let go.
    ∷ record { step = calls 21 (write 2 1 (bytes 4096)); answer = refuses 15; facts = [] }
    ∷ record { step = calls 22 (write 1 0 (bytes 1)); answer = refuses 15; facts = [] }
    -- The directory's page has four entries: two more and one more have room on it.
    ∷ record { step = calls 22 (rename 0 A1 0 A3); answer = fills 38; facts = free_is 1 ∷ [] }
    ∷ record { step = calls 27 (link 0 A2 0 A1); answer = fills 22; facts = word_is 66 1472 ∷ free_is 1 ∷ [] }
    -- Now a name more wants the last page and does not get it, and a name less does.
    ∷ record { step = calls 28 (create 0 A4); answer = refuses 15; facts = [] }
    ∷ record { step = calls 28 (unlink 0 A1); answer = fills 24; facts = log_is 0 (2 ∷ 15 ∷ []) ∷ free_is 0 ∷ [] }
    -- With no free page a name more that takes none is made.
    ∷ record { step = calls 30 (link 0 A2 0 A1); answer = fills 22; facts = free_is 0 ∷ [] }
    -- M, with the number that order 4 gives it
    ∷ record { step = calls B (write 1 0 (bytes 4096)); answer = is_done; facts = free_is 4 ∷ [] }
    ∷ record { step = calls M (write 1 4096 (bytes 1537)); answer = refuses 15; facts = [] }
    ∷ record { step = calls M (write 1 4096 (bytes 2049)); answer = refuses 12; facts = [] }
    -- Document 02, order 5. The two names of row 13 become "." and "..", as a volume from before the order may have them: the lengths and
    -- the first words of the names in the directory's first two entries.
    ∷ record {
      step = stores linked (130 ∷ 1 ∷ 131 ∷ 46 ∷ 138 ∷ 2 ∷ 139 ∷ 11822 ∷ fence ∷ 0 ∷ []);
      answer = is_done;
      facts = prints listing_dots ∷ [];
    }
    -- Neither can be given: 5 comes before "nothing changes", before 7 and before 6.
    ∷ record { step = calls dots (rename 0 dot 0 dot); answer = refuses 5; facts = [] }
    ∷ record { step = calls dots (rename 0 dot 0 dot_dot); answer = refuses 5; facts = [] }
    ∷ record { step = calls dots (create 0 dot_dot); answer = refuses 5; facts = [] }
    ∷ record { step = calls dots (link 0 A1 0 dot); answer = refuses 5; facts = [] }
    -- Each can be unlinked, linked and renamed away. "..." and ".a" are names as any other.
    ∷ record { step = calls dots (unlink 0 dot_dot); answer = fills 22; facts = names_are 0 1 ∷ [] }
    ∷ record { step = calls dots (link 0 dot 0 (46 ∷ 46 ∷ 46 ∷ [])); answer = fills 22; facts = names_are 0 3 ∷ [] }
    ∷ record { step = calls dots (rename 0 dot_dot 0 (46 ∷ 97 ∷ [])); answer = fills 38; facts = names_are 0 2 ∷ word_is 155 24878 ∷ [] }
    ∷ record { step = calls B (create 0 (46 ∷ 46 ∷ 46 ∷ [])); answer = fills 46; facts = names_are 0 2 ∷ [] }
    ∷ []

-- Document 02, order 6: a table of its own, since a computation has an end. Its first three rows are those of cases A to C.
unfoldable pub folder_table : List Row
folder_table =
    record { step = formats 16 8; answer = is_done; facts = [] }
    ∷ record { step = calls A (create 0 A1); answer = fills 48; facts = [] }
    ∷ record { step = calls B (write 1 510 (bytes 4)); answer = fills 280; facts = [] }
    -- A folder in inode 0 beside the file of case C, and a folder in that folder.
    ∷ record {
      step = calls C (create_folder 0 A2);
      answer = fills 46;
      facts = names_are 0 2 ∷ names_are 2 0 ∷ word_is 80 1 ∷ word_is 83 1 ∷ log_is 2 [] ∷ total_is 0 514 ∷ total_is 2 0 ∷ free_is 10 ∷ [];
    }
    ∷ record {
      step = calls folder (create_folder 2 A3);
      answer = fills 48;
      facts = names_are 2 1 ∷ names_are 3 0 ∷ log_is 2 (6 ∷ []) ∷ free_is 9 ∷ [];
    }
    -- The file moves into the inner one, which takes a log page; the two tails go through the journal.
    ∷ record {
      step = calls nested (rename 0 A1 3 A4);
      answer = fills 58;
      facts =
          names_are 0 1 ∷ names_are 3 1 ∷ log_is 3 (7 ∷ []) ∷ word_is 66 1216 ∷ word_is 90 3648 ∷ word_is 73 5 ∷ size_is 1 514 ∷ total_is 2 514
          ∷ total_is 3 514 ∷ free_is 8 ∷ prints listing_moved ∷ [];
    }
    -- A further name of it, one folder up, counts once more beneath that folder; a rename of one of the two onto the other changes nothing.
    ∷ record { step = calls moved (link 3 A4 2 A1); answer = fills 22; facts = names_are 2 2 ∷ total_is 0 1028 ∷ total_is 3 514 ∷ [] }
    ∷ record { step = calls (moved + 1) (rename 3 A4 2 A1); answer = fills 0; facts = names_are 2 2 ∷ names_are 3 1 ∷ [] }
    -- 6: an inode that is not valid, or out of range, given as a folder
    ∷ record { step = calls moved (create 4 A1); answer = refuses 6; facts = [] }
    ∷ record { step = calls moved (link 3 A4 4 A1); answer = refuses 6; facts = [] }
    ∷ record { step = calls moved (unlink 8 A4); answer = refuses 6; facts = [] }
    ∷ record { step = calls moved (rename 8 A4 0 A1); answer = refuses 6; facts = [] }
    -- 7 before 16: a file given as the old name's folder, and a new name that stands
    ∷ record { step = calls moved (link 1 A4 0 A2); answer = refuses 7; facts = [] }
    -- 16: a file given as a folder, a folder as a file, a link to a folder, a folder onto a name that stands, and a name onto a folder
    ∷ record { step = calls moved (create 1 A1); answer = refuses 16; facts = [] }
    ∷ record { step = calls moved (create_folder 1 A1); answer = refuses 16; facts = [] }
    ∷ record { step = calls moved (link 3 A4 1 A1); answer = refuses 16; facts = [] }
    ∷ record { step = calls moved (unlink 1 A4); answer = refuses 16; facts = [] }
    ∷ record { step = calls moved (rename 1 A4 1 A4); answer = refuses 16; facts = [] }
    ∷ record { step = calls moved (write 2 0 (bytes 1)); answer = refuses 16; facts = [] }
    ∷ record { step = calls moved (set_size 2 0); answer = refuses 16; facts = [] }
    ∷ record { step = calls moved (link 0 A2 0 A1); answer = refuses 16; facts = [] }
    ∷ record { step = calls folder (rename 0 A2 0 A1); answer = refuses 16; facts = [] }
    ∷ record { step = calls folder (rename 0 A1 0 A2); answer = refuses 16; facts = [] }
    -- 17 and 18: a folder that has names, and a folder into itself or beneath itself
    ∷ record { step = calls moved (unlink 0 A2); answer = refuses 17; facts = [] }
    ∷ record { step = calls moved (rename 0 A2 2 A1); answer = refuses 18; facts = [] }
    ∷ record { step = calls moved (rename 0 A2 3 A1); answer = refuses 18; facts = [] }
    -- A folder moves with what is in it, and one without names is unlinked.
    ∷ record {
      step = calls moved (rename 2 A3 0 A1);
      answer = fills 56;
      facts = names_are 0 2 ∷ names_are 2 0 ∷ total_is 2 0 ∷ total_is 0 514 ∷ [];
    }
    ∷ record { step = calls (moved + 21) (unlink 0 A2); answer = fills 40; facts = names_are 0 1 ∷ word_is 80 0 ∷ [] }
    -- A folder is cleaned as inode 0 is.
    ∷ record { step = calls moved (clean 2); answer = fills 40; facts = log_is 2 (8 ∷ []) ∷ names_are 2 1 ∷ total_is 2 514 ∷ free_is 8 ∷ [] }
    -- A file moves onto the last name of another: the journal has the source's tail, the target's, and the valid word of the other.
    ∷ record { step = calls moved (create 2 A4); answer = fills 46; facts = names_are 2 2 ∷ [] }
    ∷ record {
      step = calls (moved + 24) (rename 3 A4 2 A4);
      answer = fills 62;
      facts =
          names_are 2 2 ∷ names_are 3 0 ∷ word_is 36 90 ∷ word_is 37 3648 ∷ word_is 38 82 ∷ word_is 39 3200 ∷ word_is 40 96 ∷ word_is 41 1
          ∷ word_is 90 3712 ∷ word_is 82 3264 ∷ word_is 96 0 ∷ [];
    }
    -- A valid inode's type of 2, stored by hand, makes a volume damaged; that of inode 0 may be anything.
    ∷ record { step = stores moved (75 ∷ 2 ∷ fence ∷ 0 ∷ []); answer = is_done; facts = [] }
    ∷ record { step = calls (moved + 26) (create 0 A1); answer = refuses 3; facts = [] }
    ∷ record { step = stores folder (67 ∷ 2 ∷ fence ∷ 0 ∷ []); answer = is_done; facts = names_are 0 2 ∷ [] }
    ∷ []
