-- A log's entries as the code has them, and the model's entry of each.
use Rattle.std.specs.Prelude.{ℕ, ◌+◌, cond, List, [], ◌∷◌, eqb, get_or}
use Rattle.model.specs.Words.{Mem}
use Rattle.model.specs.Entry.{Entry as Full, write_entry, size_entry, add_entry, remove_entry, no_entry, name_field}
use Rattle.inode_log.specs.declared.Name.{Name}
use Rattle.inode_log.specs.declared.Entry.{Entry}
use Rattle.inode_log.specs.declared.Entry.TheVariants.{Write, SetSize, Add, Remove, None}

-- the name of the entry whose first word is word w
unfoldable pub name_in : Mem → ℕ → Name
name_in m w = record { len = m (w + 2); first = m (w + 3); second = m (w + 4); third = m (w + 5); fourth = m (w + 6) }

-- the entry whose first word is word w
unfoldable pub entry_in : Mem → ℕ → Entry
entry_in m w =
    cond (eqb (m w) 1) (Write (m (w + 1)) (m (w + 2)) (m (w + 3)) (m (w + 4)))
    (cond (eqb (m w) 2) (SetSize (m (w + 1)))
    (cond (eqb (m w) 3) (Add (m (w + 1)) (name_in m w))
    (cond (eqb (m w) 4) (Remove (name_in m w))
    None)))

-- a memory that starts with the four words of a name
unfoldable pub four_words : Name → Mem
four_words n i = get_or (n.first ∷ n.second ∷ n.third ∷ n.fourth ∷ []) i 0

-- the 32 bytes of a name, filled up with zeros
abbrev pub field_of : Name → List ℕ
field_of n = name_field (four_words n) 0

-- The model's entry. Of what a volume's words say it is the model's own reading (proofs/Meant.antt, `meant_in`).
unfoldable pub meant : Entry → Full
meant (Write f d c s) = write_entry f d c s
meant (SetSize s) = size_entry s
meant (Add i n) = add_entry i n.len (field_of n)
meant (Remove n) = remove_entry n.len (field_of n)
meant None = no_entry
