-- The pages that are found are those of the definitions, and marking them leaves them out of those that may be taken.
use Rattle.model.proofs.Prelude.{rules}
use Rattle.space.proofs.Taken.{found_pages, take_lacks, take_all}
use Rattle.space.proofs.take_pages.Goals as goal

pub returns-then-not-find_pages : goal.returns-then-not-find_pages
returns-then-not-find_pages c = search (rules, take_lacks)

pub mark_pages-requires : goal.mark_pages-requires
mark_pages-requires c = search (rules, found_pages)

pub returns : goal.returns
returns c = search (rules, take_all)
