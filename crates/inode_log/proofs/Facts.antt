-- A step reads its entry from the part of the volume that begins there: a part's first entry is the volume's at that word.
use Rattle.model.proofs.Prelude.{ℕ, ◌+◌, ◌*◌, ◌-◌, ◌≡◌, ◌∙◌, ap, List, arith, le_refl, add-zero, length, take, drop, length-drop, take_all}
use Rattle.model.specs.Words.{word}
use Rattle.model.proofs.Words.{word_drop}
use Rattle.inode_log.specs.Entries.{name_in, entry_in}
use Rattle.inode_log.specs.Steps.{landing, step_at}
use Rattle.inode_log.specs.declared.Entry.{Entry}

rest : (l : List ℕ) (a : ℕ) → take (length l - a) (drop a l) ≡ drop a l
rest l a = take_all (length l - a) (drop a l) (rw length-drop (le_refl _))

-- a part's first entry is the volume's at that word
part_entry : (v : List ℕ) (a : ℕ) → entry_in (word (take (length v - 8 * a) (drop (8 * a) v))) 0 ≡ entry_in (word v) a
unfolding entry_in name_in
part_entry v a =
    let w : word (drop (8 * a) v) 0 ≡ word v a = word_drop v a 0 ∙ ap (word v) (add-zero a) in
    rw (rest v (8 * a), w) (simp (word_drop v a))

pub is_step : (v : List ℕ) (from p : ℕ) (e : Entry) → p ≡ landing (word v) from
    → e ≡ entry_in (word (take (length v - 64 * p) (drop (64 * p) v))) 0
    → record { entry = e; next = record { place = p + 1 } } ≡ step_at (word v) from
is_step v from p e g h = let w : 64 * p ≡ 8 * (8 * p) = omega arith in rw (h, w, part_entry, g)
