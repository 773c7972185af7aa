-- An empty list ends in a fence by definition; of any other the pair before the end decides.
use Rattle.model.proofs.Prelude.{rules}
use Rattle.pairs.proofs.Pairs.{empty_ends, last_ends}
use Rattle.pairs.proofs.ends_in_fence.Goals as goal

pub returns-then-n-eq0 : goal.returns-then-n-eq0
returns-then-n-eq0 c = search (rules, empty_ends)

pub returns-else-n-eq0 : goal.returns-else-n-eq0
returns-else-n-eq0 c = search (rules, last_ends)
