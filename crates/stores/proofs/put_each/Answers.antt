-- A turn adds the next word; at the end none is left.
use Rattle.model.proofs.Prelude.{rules}
use Rattle.stores.proofs.Runs.{words_start, words_next, words_done}
use Rattle.stores.proofs.put_each.Goals as goal

pub loop-i-init : goal.loop-i-init
loop-i-init c = search (rules, words_start)

pub loop-i-preserved : goal.loop-i-preserved
loop-i-preserved c = search (rules, words_next)

pub returns : goal.returns
returns c = search (rules, words_done)
