-- Each half is below 2 ^ 32 and each factor below 2 ^ 29.
use Rattle.model.proofs.Prelude.{arith}
use Rattle.index.specs.Index.{weighed_of}
use Rattle.index.proofs.Looks.{weighs}
use Rattle.index.proofs.weighed.Goals as goal

pub returns : goal.returns
unfolding weighed_of
returns c = (search, weighs c.args.word c.args.low c.args.high (omega arith) (omega arith) (omega arith))
