-- The next pair decides, or it is good and those after it decide; of no pairs the answer is true.
use Rattle.model.proofs.Prelude.{rules}
use Rattle.pairs.proofs.Pairs.{pairs_not, pairs_next, pairs_end}
use Rattle.pairs.proofs.pairs_ok.Goals as goal

pub returns-then-not-pair_ok : goal.returns-then-not-pair_ok
returns-then-not-pair_ok c = search (rules, pairs_not)

pub loop-index-preserved : goal.loop-index-preserved
loop-index-preserved c = search (rules, pairs_next)

pub returns : goal.returns
returns c = search (rules, pairs_end)
