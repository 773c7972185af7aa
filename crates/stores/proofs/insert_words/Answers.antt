-- The pairs that are moved up begin where the pairs of the words end.
use Rattle.model.proofs.Prelude.{rules}
use Rattle.stores.proofs.Texts.{emitted_before}
use Rattle.stores.proofs.insert_words.Goals as goal

pub returns : goal.returns
returns c = search (rules, emitted_before)
