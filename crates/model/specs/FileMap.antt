-- The file map of document 01, "Volume", with the folders of document 02, order 6, the calls that may change it, and the map after each.
-- The map after a call is POSIX.1-2024 as document 01 narrows it ("The store list", last paragraph), "narrowed by this order too", said of
-- maps alone: no log is looked at.
use Rattle.std.specs.Prelude.{ℕ, ◌+◌, ◌-◌, cond, ◌&&◌, ◌||◌, not, List, [], ◌++◌, length, take, drop, replicate, ltb, eqb}
use Rattle.std.proofs.Math.Option.{Option, none, some}
use Rattle.model.specs.Lists.{lowest, is_some, or_else}
use Rattle.model.specs.Words.{Mem}
use Rattle.model.specs.Layout.{root}
use Rattle.model.specs.State.{file_of, bytes_of, Names, names_of, without, with_name, inode_of}
use Rattle.model.specs.Tree.{name_count}
use Rattle.model.specs.Accept.{is_file, is_folder}

-- "The file map is the list of names with inodes in that order, and the size and bytes of each valid file."
-- "The file map now includes folders": the list of names of each valid folder. An empty folder is `some []`, what is no folder is `none`.
-- A file's size is the count of its bytes.
pub record FileMap : Type 0 where
  pub folders : ℕ → Option Names
  pub files : ℕ → Option (List ℕ)

-- the map of a volume, from its view u
unfoldable pub map_of : Mem → ℕ → ℕ → FileMap
map_of u P N =
    record {
      folders = λ k. cond (ltb k N && is_folder u k) (some (names_of u P N k)) none;
      files = λ k. cond (ltb k N && is_file u k) (some (bytes_of u (file_of u P N k))) none;
    }

-- The calls of the third demand, with their arguments. "Calls by name [..] take the folder's inode too, link and rename one for each name".
pub data Call : Type 0 where
  create : (folder : ℕ) → (name : List ℕ) → Call
  create_folder : (folder : ℕ) → (name : List ℕ) → Call
  link : (old_folder : ℕ) → (old : List ℕ) → (new_folder : ℕ) → (new : List ℕ) → Call
  unlink : (folder : ℕ) → (name : List ℕ) → Call
  rename : (old_folder : ℕ) → (old : List ℕ) → (new_folder : ℕ) → (new : List ℕ) → Call
  write : (inode : ℕ) → (offset : ℕ) → (bytes : List ℕ) → Call
  set_size : (inode : ℕ) → (size : ℕ) → Call
  clean : (inode : ℕ) → Call
  recover : Call

unfoldable pub with_file : ℕ → Option (List ℕ) → FileMap → FileMap
with_file k o M = record { folders = M.folders; files = λ i. cond (eqb i k) o (M.files i) }

unfoldable pub with_names : ℕ → Option Names → FileMap → FileMap
with_names d o M = record { folders = λ i. cond (eqb i d) o (M.folders i); files = M.files }

-- the names of folder d; none where inode d is no folder
unfoldable pub names_in : FileMap → ℕ → Names
names_in M d = or_else (M.folders d) []

-- "A file left without a name goes." So does a folder that is unlinked. Names of all folders count. Inode 0 has no name and stays.
unfoldable pub drop_unnamed : ℕ → ℕ → FileMap → FileMap
drop_unnamed N k M =
    cond (eqb k root || not (eqb (name_count N (names_in M) k) 0)) M (with_file k none (with_names k none M))

-- the first n bytes, with zeros where there are fewer: "cuts or lengthens the file to its size, and zeros fill any gap"
unfoldable pub sized : ℕ → List ℕ → List ℕ
sized n bs = take n bs ++ replicate (n - length bs) 0

-- "lays its bytes over the file's from the offset on [..], and zeros fill any gap"
unfoldable pub laid_over : List ℕ → ℕ → List ℕ → List ℕ
laid_over old o bs = sized o old ++ bs ++ drop (o + length bs) old

-- a file's bytes; none where the inode is no valid file
unfoldable pub bytes_in : FileMap → ℕ → List ℕ
bytes_in M k = or_else (M.files k) []

-- "the lowest invalid inode", from 1 on: neither a folder nor a file
unfoldable pub new_inode : ℕ → FileMap → ℕ
new_inode N M = or_else (lowest (λ k. not (is_some (M.folders k) || is_some (M.files k))) (N - 1) 1) 0

-- M with a name in folder d put in, or taken out
unfoldable pub named : ℕ → List ℕ → ℕ → FileMap → FileMap
named d n i M = with_names d (some (with_name n i (names_in M d))) M

unfoldable pub unnamed : ℕ → List ℕ → FileMap → FileMap
unnamed d n M = with_names d (some (without n (names_in M d))) M

-- The map after a call that was not refused. (A refused call keeps the map.)
unfoldable pub map_after : ℕ → Call → FileMap → FileMap
map_after N (create d n) M = with_file (new_inode N M) (some []) (named d n (new_inode N M) M)
map_after N (create_folder d n) M = with_names (new_inode N M) (some []) (named d n (new_inode N M) M)
map_after N (link d a e b) M = named e b (inode_of (names_in M d) a) M
map_after N (unlink d n) M = drop_unnamed N (inode_of (names_in M d) n) (unnamed d n M)
map_after N (rename d a e b) M =
    let i = inode_of (names_in M d) a in
    let j = inode_of (names_in M e) b in
    cond (eqb i j) M (drop_unnamed N j (named e b i (unnamed d a M)))
map_after N (write k o bs) M = cond (eqb (length bs) 0) M (with_file k (some (laid_over (bytes_in M k) o bs)) M)
map_after N (set_size k s) M = with_file k (some (sized s (bytes_in M k))) M
map_after N (clean k) M = M
map_after N recover M = M
