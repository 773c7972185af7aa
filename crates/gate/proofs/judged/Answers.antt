-- Each answer is one law of proofs/Judging.antt.
use Rattle.model.proofs.Prelude.{rules}
use Rattle.gate.proofs.Judging.{judged_none, judged_behind}
use Rattle.gate.proofs.judged.Goals as goal

pub returns-then-not-is_volume : goal.returns-then-not-is_volume
returns-then-not-is_volume c = search (rules, judged_none)

pub returns : goal.returns
returns c = search (rules, judged_behind)
