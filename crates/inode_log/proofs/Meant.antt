-- What a volume's words say of an entry, as the code has it, means the model's entry there: the four words of a name are its 32 bytes.
use Rattle.model.proofs.Prelude.{ℕ, zero, suc, ◌+◌, ◌<◌, ◌≡◌, arith, zero-add, add-zero, add_assoc, eqb}
use Rattle.model.specs.Words.{Mem}
use Rattle.model.specs.Entry.{entry_at, name_field}
use Rattle.model.proofs.Tests.{by_bool}
use Rattle.model.proofs.Log.Decode.{field_same}
use Rattle.inode_log.specs.Entries.{name_in, entry_in, four_words, field_of, meant}

-- the four words of the name of the entry at word w
name_word : (m : Mem) (w j : ℕ) → j < 4 → four_words (name_in m w) j ≡ m (w + 3 + j)
unfolding four_words name_in
name_word m w zero h = rw (add-zero (w + 3))
name_word m w (suc zero) h = rw (add_assoc w 3 1)
name_word m w (suc (suc zero)) h = rw (add_assoc w 3 2)
name_word m w (suc (suc (suc zero))) h = rw (add_assoc w 3 3)
name_word m w (suc (suc (suc (suc j)))) h = absurd (omega arith)

pub field_in : (m : Mem) (w : ℕ) → field_of (name_in m w) ≡ name_field m (w + 3)
field_in m w = field_same m (four_words (name_in m w)) (w + 3) 0 (λ j l. rw (zero-add j) (name_word m w j l))

pub meant_in : (m : Mem) (w : ℕ) → meant (entry_in m w) ≡ entry_at m w
unfolding meant entry_in entry_at name_in
meant_in m w =
    by_bool (eqb (m w) 1) (λ a. rw a)
    (λ a. by_bool (eqb (m w) 2) (λ b. rw (a, b))
    (λ b. by_bool (eqb (m w) 3) (λ c. rw (a, b, c, field_in m w))
    (λ c. by_bool (eqb (m w) 4) (λ d. rw (a, b, c, d, field_in m w)) (λ d. rw (a, b, c, d)))))
