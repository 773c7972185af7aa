-- The parts, one after the other, are the line.
use Rattle.model.proofs.Prelude.{rules}
use Rattle.listing.proofs.Lines.{line_put}
use Rattle.listing.proofs.put_line.Goals as goal

pub returns : goal.returns
returns c = search (rules, line_put)
