-- The gaps from any page on end inside.
use Rattle.gaps.proofs.Behind.{gaps_inside}
use Rattle.gaps.proofs.Gaps.behind.Goals as goal

pub returns-clause-inside : goal.returns-clause-inside
returns-clause-inside c = rw (← c.of.ensures.0) (gaps_inside _ _ _)
