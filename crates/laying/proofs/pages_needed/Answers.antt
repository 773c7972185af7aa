-- A tail of 0 has no page to take off.
use Rattle.model.proofs.Prelude.{rules}
use Rattle.laying.proofs.Steps.{needed_first, needed_more, needed_zero}
use Rattle.laying.proofs.pages_needed.Goals as goal

pub returns-then-tail-eq0 : goal.returns-then-tail-eq0
returns-then-tail-eq0 c = (search (rules, needed_first), search rules)

pub returns-then-all-eq0 : goal.returns-then-all-eq0
returns-then-all-eq0 c = (search (rules, needed_zero), search rules)

pub returns : goal.returns
returns c = (search (rules, needed_more), search rules)
