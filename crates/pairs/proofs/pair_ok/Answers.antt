-- Each answer is one case of the definition's tests.
use Rattle.words.proofs.Cond.{conds}
use Rattle.pairs.specs.Pairs.{pair_ok}
use Rattle.pairs.proofs.pair_ok.Goals as goal

pub returns-then-index-eq-FENCE : goal.returns-then-index-eq-FENCE
unfolding pair_ok
returns-then-index-eq-FENCE c = search conds

pub returns-else-index-eq-FENCE : goal.returns-else-index-eq-FENCE
unfolding pair_ok
returns-else-index-eq-FENCE c = search conds
