-- The run of unmarked pages that ends at the page before is counted; the first that has n pages is the lowest.
use Rattle.model.proofs.Prelude.{rules}
use Rattle.words.proofs.Cond.{flag_true, flag_false}
use Rattle.space.proofs.Runs.{run_of_none, past_end, begun_none, begun_longer, begun_found, begun_behind, begun_nowhere}
use Rattle.space.proofs.search_start.Goals as goal
use Rattle.space.proofs.search_start.Goals.{then-is_unmarked+else-len-n, else-is_unmarked}

pub returns-then-n-eq0 : goal.returns-then-n-eq0
returns-then-n-eq0 c = search (rules, run_of_none)

pub loop-p-init : goal.loop-p-init
loop-p-init c = search (rules, begun_none)

pub returns-then-len-n : goal.returns-then-len-n
returns-then-len-n c = search (rules, begun_found, flag_true)

pub loop-p-preserved : goal.loop-p-preserved
loop-p-preserved c =
    elim c.if-is_unmarked.branch [
      | then-is_unmarked+else-len-n w ↦ rw w.len-is (search (rules, begun_longer, flag_true))
      | else-is_unmarked w ↦ rw w.len-is (search (rules, begun_behind, flag_false))
    ]

pub returns : goal.returns
returns c = search (rules, begun_nowhere, past_end)
