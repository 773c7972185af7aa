-- The pages found so far are the lowest that are not marked; a search that finds none shows that there are too few.
use Rattle.model.proofs.Prelude.{rules}
use Rattle.space.proofs.Taken.{finding_next, find_lacks, find_all}
use Rattle.space.proofs.find_pages.Goals as goal

pub returns-in_default : goal.returns-in_default
returns-in_default c = search (rules, find_lacks)

pub loop-page-preserved : goal.loop-page-preserved
loop-page-preserved c = search (rules, finding_next)

pub returns : goal.returns
returns c = search (rules, find_all)
