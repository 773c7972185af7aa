-- Each pair that is left is good, and carried out it leaves what those after it start from.
use Rattle.model.proofs.Prelude.{rules}
use Rattle.pairs.proofs.Pairs.{pair_here, pairs_left, carried_next, carried_end}
use Rattle.pairs.proofs.store_pairs.Goals as goal

pub store_pair-requires : goal.store_pair-requires
store_pair-requires c = search (rules, pair_here)

pub loop-index-preserved : goal.loop-index-preserved
loop-index-preserved c = search (rules, pairs_left, carried_next)

pub returns : goal.returns
returns c = search (rules, carried_end)
