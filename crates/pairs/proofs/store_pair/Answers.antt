-- A fence stores nothing; any other pair is a word of the volume, and is stored there.
use Rattle.model.proofs.Prelude.{rules}
use Rattle.pairs.proofs.Pairs.{store_fits, fence_stored, word_stored}
use Rattle.pairs.proofs.store_pair.Goals as goal

pub put_word-requires : goal.put_word-requires
put_word-requires c = search (rules, store_fits)

pub returns-then-index-ne-FENCE : goal.returns-then-index-ne-FENCE
returns-then-index-ne-FENCE c = search (rules, word_stored)

pub returns-else-index-ne-FENCE : goal.returns-else-index-ne-FENCE
returns-else-index-ne-FENCE c = search (rules, fence_stored)
