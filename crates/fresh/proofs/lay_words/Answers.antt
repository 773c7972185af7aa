-- A turn lays the next word.
use Rattle.model.proofs.Prelude.{refl, arith}
use Rattle.contents.proofs.Laying.{laid_next, laid_end}
use Rattle.fresh.proofs.lay_words.Goals as goal

pub loop-j-preserved : goal.loop-j-preserved
loop-j-preserved c = rw c.word_at.ensures (laid_next _ _ _ _ _ _ _ c.loop-j.invariant (omega arith) refl)

pub returns : goal.returns
returns c = laid_end _ _ _ _ _ _ c.loop-j.invariant (omega arith)
