-- Each turn puts the words of one page; behind the last nothing is left to add.
use Rattle.model.proofs.Prelude.{rules}
use Rattle.append.proofs.Parts.{data_start, data_next, data_done}
use Rattle.append.proofs.put_data.Goals as goal

pub loop-i-init : goal.loop-i-init
loop-i-init c = search (rules, data_start)

pub loop-i-preserved : goal.loop-i-preserved
loop-i-preserved c = (
  search rules,
  data_next _ _ _ _ _ _ _ c.loop-i.invariant.1 _ _ _ c.loop-i-test.true (search rules) (search rules) c.put_words-e.ensures.0,
)

pub returns : goal.returns
returns c = search (rules, data_done)
