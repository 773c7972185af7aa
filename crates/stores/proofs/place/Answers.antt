-- The last pair that is left stays before the place, or all that are left do but that one.
use Rattle.model.proofs.Prelude.{rules}
use Rattle.stores.proofs.Texts.{place_here, place_next, place_end}
use Rattle.stores.proofs.place.Goals as goal

pub returns-then-list-from : goal.returns-then-list-from
returns-then-list-from c = search (rules, place_here)

pub loop-k-preserved : goal.loop-k-preserved
loop-k-preserved c = search (rules, place_next)

pub returns : goal.returns
returns c = search (rules, place_end)
