-- A word that is not 0 is one of all, and one that is 0 is one more.
use Rattle.model.proofs.Prelude.{rules}
use Rattle.files.proofs.Ends.{zero_none, zero_more, zero_not, zero_end}
use Rattle.files.proofs.zero_words.Goals as goal

pub loop-i-init : goal.loop-i-init
loop-i-init c = search (rules, zero_none)

pub returns-then-word_at-ne0 : goal.returns-then-word_at-ne0
returns-then-word_at-ne0 c = search (rules, zero_not)

pub loop-i-preserved : goal.loop-i-preserved
loop-i-preserved c = search (rules, zero_more)

pub returns : goal.returns
returns c = search (rules, zero_end)
