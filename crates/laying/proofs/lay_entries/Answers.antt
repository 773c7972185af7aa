-- Each turn lays one entry: a page for it is turned to first, and its eight words are put there.
use Rattle.model.proofs.Prelude.{rules}
use Rattle.laying.proofs.Steps.{going_start, going_one, going_next, going_done}
use Rattle.laying.proofs.lay_entries.Goals as goal

pub loop-i-init : goal.loop-i-init
loop-i-init c = search (rules, going_start)

pub turn_page-t-requires : goal.turn_page-t-requires
turn_page-t-requires c = search (rules, going_one)

pub loop-i-preserved : goal.loop-i-preserved
loop-i-preserved c = (
  search rules,
  search rules,
  going_next _ _ _ _ _ _ _ _ c.loop-i.invariant.2 (search rules) _ _ c.turn_page-t.ensures _ _ c.put_words-end.ensures.0,
)

pub returns : goal.returns
returns c = going_done _ _ _ _ _ _ _ _ c.loop-i.invariant.2 (search rules) (search rules)
