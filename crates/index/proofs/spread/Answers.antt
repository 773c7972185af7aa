-- The steps are those of the definition.
use Rattle.model.proofs.Prelude.{arith}
use Rattle.index.specs.Index.{spread_of}
use Rattle.index.proofs.spread.Goals as goal

pub returns : goal.returns
unfolding spread_of
returns c = (search, omega arith)
