-- A log read step by step: what one step hands back, and the entries that the steps from a cursor meet.
-- A cursor is a place: a word index divided by 8. Places 0 to 6 of a page are its entries, and place 7 is the footer.
-- Laws tie the steps to the model: `read` (proofs/Reading.antt) for a log by its head and tail, proofs/Viewed.antt for an inode's log.
use Rattle.std.specs.Prelude.{ℕ, zero, suc, ◌+◌, ◌*◌, ◌%◌, Bool, true, false, cond, ◌&&◌, List, [], ◌∷◌, map, eqb, ltb}
use Rattle.model.specs.Words.{Mem}
use Rattle.model.specs.Entry.{Entry as Full, entry_at}
use Rattle.inode_log.specs.Entries.{entry_in}
use Rattle.inode_log.specs.declared.Step.{Step}

-- the place of the entry at a cursor: at a footer, the first place of the next page
unfoldable pub landing : Mem → ℕ → ℕ
landing m from = cond (eqb (from % 8) 7) (8 * m (8 * from)) from

-- the step from a cursor: the entry there, and the cursor after it
abbrev pub step_at : Mem → ℕ → Step
step_at m from = record { entry = entry_in m (8 * landing m from); next = record { place = landing m from + 1 } }

-- the first words of the entries from a cursor up to another, at most n
unfoldable pub words_from : ℕ → Mem → ℕ → ℕ → List ℕ
words_from zero m from end = []
words_from (suc n) m from end =
    let r = 8 * landing m from ∷ words_from n m (landing m from + 1) end in
    cond (eqb from end) [] r

-- these entries
unfoldable pub entries_from : ℕ → Mem → ℕ → ℕ → List Full
entries_from n m from end = map (entry_at m) (words_from n m from end)

-- whether at most n steps lead from a cursor to another, inside the first P pages
unfoldable pub within : ℕ → Mem → ℕ → ℕ → ℕ → Bool
within zero m P from end = eqb from end
within (suc n) m P from end =
    let r = within n m P (landing m from + 1) end in
    cond (eqb from end) true (cond (ltb from (8 * P) && ltb (landing m from) (8 * P)) r false)
