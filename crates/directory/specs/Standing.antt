-- What an index tells of a log's names: an entry that adds a name stands exactly if it is the last entry of that name.
-- m are the volume's words, l the slots of an index, ws the first words of a log's entries.
use Rattle.std.specs.Prelude.{ℕ, ◌/◌, ◌≤◌, ◌<◌, ◌≡◌, Bool, true, false, List, map, eqb, leb, length, take, Option, Some, is_some, IsSome, Result, Err, IsOk, ⊤}
use Rattle.model.specs.Lists.{all, filter, foldl}
use Rattle.model.specs.Words.{Mem}
use Rattle.model.specs.Layout.{most_names}
use Rattle.model.specs.Entry.{entry_at, name_entry_ok}
use Rattle.inode_log.specs.Entries.{entry_in}
use Rattle.inode_log.specs.declared.Entry.{Entry}
use Rattle.inode_log.specs.declared.Entry.TheVariants.{Write, SetSize, Add, Remove, None}
use Rattle.index.specs.Index.{held, noted, taken, Slots}
use Rattle.directory.specs.declared.Misfit.{Misfit}
use Rattle.directory.specs.declared.Misfit.TheVariants.{Bad, Full}

-- the index after an entry at place p was noted
unfoldable pub indexed_by : Mem → List ℕ → ℕ → Entry → List ℕ
indexed_by m l p (Write f d c s) = l
indexed_by m l p (SetSize s) = l
indexed_by m l p (Add i n) = noted m l n p true
indexed_by m l p (Remove n) = noted m l n p false
indexed_by m l p None = l

-- whether it brings a new name
unfoldable pub new_by : Mem → List ℕ → Entry → Bool
new_by m l (Write f d c s) = false
new_by m l (SetSize s) = false
new_by m l (Add i n) = eqb (held m l n) 0
new_by m l (Remove n) = false
new_by m l None = false

-- whether an entry at place p adds a name that stands
unfoldable pub stands_by : Mem → List ℕ → ℕ → Entry → Bool
stands_by m l p (Write f d c s) = false
stands_by m l p (SetSize s) = false
stands_by m l p (Add i n) = eqb (held m l n) p
stands_by m l p (Remove n) = false
stands_by m l p None = false

-- the same of the entry at word w
unfoldable pub index_step : Mem → List ℕ → ℕ → List ℕ
index_step m l w = indexed_by m l (w / 8) (entry_in m w)

unfoldable pub stands_at : Mem → List ℕ → ℕ → Bool
stands_at m l w = stands_by m l (w / 8) (entry_in m w)

-- the index after the entries at the words ws
abbrev pub index_of : Mem → List ℕ → List ℕ → List ℕ
index_of m l ws = foldl (index_step m) l ws

-- the places of the entries among those at ws whose names stand, in log order
abbrev pub places_of : Mem → List ℕ → List ℕ → List ℕ
places_of m l ws = map (λ (w : ℕ). w / 8) (filter (stands_at m l) ws)

-- r and k are what noting an entry at place p answered and left of the slots l
pub record EntryNoted (m : Mem) (L : ℕ) (l : List ℕ) (p : ℕ) (e : Entry) (r : Bool) (k : List ℕ) : Type 0 where
  pub answer : r ≡ new_by m l e
  pub list : k ≡ indexed_by m l p e
  pub long : length k ≡ length l
  pub slots : Slots L k

-- r and k are what noting the entries at ws answered and left of the slots l, which are to hold at most b names
pub record Indexes (m : Mem) (L N b : ℕ) (ws l : List ℕ) (r : Result ⊤ Misfit) (k : List ℕ) : Type 0 where
  pub good : IsOk r → all (name_entry_ok N) (map (entry_at m) ws) ≡ true
  pub list : IsOk r → k ≡ index_of m l ws
  pub few : IsOk r → taken k ≤ b
  pub slots : IsOk r → Slots L k
  pub bad : r ≡ Err Bad → all (name_entry_ok N) (map (entry_at m) ws) ≡ false
  pub full : r ≡ Err Full → b < taken (index_of m l ws)

-- r and u are what listing the places ps answered and left of a table
pub record Listed (ps : List ℕ) (r : Option ℕ) (u : List ℕ) : Type 0 where
  pub good : is_some r ≡ leb (length ps) most_names
  pub count : (n : ℕ) → r ≡ Some n → n ≡ length ps
  pub long : length u ≡ 224
  pub places : IsSome r → take (length ps) u ≡ ps
