-- A byte of the memory that a slice makes is the slice's own byte.
use Rattle.model.proofs.Prelude.{sym, arith}
use Rattle.model.proofs.Words.{byte_word}
use Rattle.words.proofs.byte_at.Goals as goal

pub returns : goal.returns
returns c = sym (byte_word _ _ (λ j. omega (arith, c.type_inv.v j)))
