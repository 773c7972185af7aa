-- The parts, one after the other, are the line.
use Rattle.model.proofs.Prelude.{rules}
use Rattle.listing.proofs.Lines.{refusal_put}
use Rattle.listing.proofs.put_refusal.Goals as goal

pub returns : goal.returns
returns c = search (rules, refusal_put)
