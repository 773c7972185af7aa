-- The words and the bytes before them are all the bytes; a word is 0 exactly if its bytes are, since the volume's bytes are below 256.
use Rattle.model.proofs.Prelude.{arith}
use Rattle.files.proofs.Ends.{words_not, words_then}
use Rattle.files.proofs.zeros_at.Goals as goal

pub returns-then-zero_words : goal.returns-then-zero_words
returns-then-zero_words c =
    words_then _ (λ j. omega (arith, c.type_inv.v j)) _ _ (search) _ c.zero_words.ensures _ (search) (search)

pub returns-else-zero_words : goal.returns-else-zero_words
returns-else-zero_words c =
    words_not _ (λ j. omega (arith, c.type_inv.v j)) _ _ (search) _ c.zero_words.ensures (search)
