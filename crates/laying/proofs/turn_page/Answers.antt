-- The log has no page yet, the page has room, or it is full.
use Rattle.model.proofs.Prelude.{rules}
use Rattle.laying.proofs.Steps.{first_page, linked_page, turned_first, turned_link}
use Rattle.laying.proofs.turn_page.Goals as goal

pub unwrap-p-requires : goal.unwrap-p-requires
unwrap-p-requires c = search (rules, first_page)

pub returns-then-g-eq0 : goal.returns-then-g-eq0
returns-then-g-eq0 c = search (rules, turned_first)

pub unwrap-p-requires-2 : goal.unwrap-p-requires-2
unwrap-p-requires-2 c = search (rules, linked_page)

pub returns : goal.returns
returns c = search (rules, turned_link)
