-- The eight bytes that are read make the word.
use Rattle.model.proofs.Prelude.{rules}
use Rattle.words.proofs.Bytes.{bytes_read}
use Rattle.words.proofs.word_at.Goals as goal

pub returns : goal.returns
returns c = search (rules, bytes_read)
