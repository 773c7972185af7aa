-- The words of a name field that is as it should be are the name's, since the volume's bytes are below 256.
use Rattle.model.proofs.Prelude.{arith, rules}
use Rattle.entries.proofs.Names.{field_word}
use Rattle.entries.proofs.field_word.Goals as goal

pub returns : goal.returns
returns c = field_word _ _ (λ j. omega (arith, c.type_inv.v j)) (search rules) _ _ (search rules) (search rules)
