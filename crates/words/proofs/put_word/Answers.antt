-- The eight bytes that are stored are those that the definition stores one after the other.
use Rattle.model.proofs.Prelude.{rules}
use Rattle.words.proofs.Bytes.{bytes_put}
use Rattle.words.proofs.put_word.Goals as goal

pub returns : goal.returns
returns c = search (rules, bytes_put)
