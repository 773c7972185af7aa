-- The buffer has the file's bytes of the pages with the bytes written over them, and its words are laid into the array.
use Rattle.model.proofs.Prelude.{rules}
use Rattle.fresh.proofs.Bytes.{write_laid}
use Rattle.fresh.proofs.lay_write.Goals as goal

pub returns : goal.returns
returns c = search (rules, write_laid)
