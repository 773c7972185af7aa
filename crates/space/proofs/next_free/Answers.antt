-- Each page passed is marked, so that the first one that is not marked is the lowest.
use Rattle.model.proofs.Prelude.{rules}
use Rattle.words.proofs.Cond.{flag_true, flag_false}
use Rattle.space.proofs.Lowest.{lowest_found, lowest_on, lowest_nowhere}
use Rattle.space.proofs.next_free.Goals as goal

pub returns-then-is_unmarked : goal.returns-then-is_unmarked
returns-then-is_unmarked c = (search (lowest_found, flag_true), search rules)

pub loop-p-preserved : goal.loop-p-preserved
loop-p-preserved c = search (lowest_on, flag_false)

pub returns : goal.returns
returns c = (search lowest_nowhere, search rules)
