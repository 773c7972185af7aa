-- The steps are those of the definition; what is below 2 ^ 32 is scaled below the count of slots.
use Rattle.index.proofs.Looks.{scaled_below, home_is}
use Rattle.index.proofs.home.Goals as goal

pub returns : goal.returns
returns c = (search home_is, search scaled_below)
