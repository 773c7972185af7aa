-- Each answer is one case of the definition.
use Rattle.model.proofs.Prelude.{rules}
use Rattle.files.proofs.Ends.{end_starts, end_round, end_unmapped, end_zeros}
use Rattle.files.proofs.end_ok.Goals as goal

pub returns-then-not-starts_ok : goal.returns-then-not-starts_ok
returns-then-not-starts_ok c = search (rules, end_starts)

pub returns-then-o-eq0 : goal.returns-then-o-eq0
returns-then-o-eq0 c = search (rules, end_round)

pub returns-then-d-eq0 : goal.returns-then-d-eq0
returns-then-d-eq0 c = search (rules, end_unmapped)

pub returns : goal.returns
returns c = search (rules, end_zeros)
