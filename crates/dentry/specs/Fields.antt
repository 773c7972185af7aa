-- Names judged by their words: what the loops over a word's bytes speak of.
use Rattle.std.specs.Prelude.{ℕ, zero, suc, ◌-◌, ◌/◌, ◌%◌, min, Bool, false, cond, eqb}
use Rattle.model.specs.Entry.{name_byte_ok}

-- whether the lowest n bytes of a word are bytes that a name may have and the others are 0
unfoldable pub word_ok : ℕ → ℕ → Bool
word_ok zero x = eqb x 0
word_ok (suc n) x = let r = word_ok n (x / 256) in cond (name_byte_ok (x % 256)) r false

-- how many of a name's l bytes stand in the word that starts at its byte i
abbrev pub bytes_in : ℕ → ℕ → ℕ
bytes_in l i = min 8 (l - i)
