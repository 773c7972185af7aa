-- The buffer has the file's bytes below the size and zeros behind them, and its words are laid into the array.
use Rattle.model.proofs.Prelude.{rules}
use Rattle.fresh.proofs.Bytes.{cut_laid}
use Rattle.fresh.proofs.lay_cut.Goals as goal

pub returns : goal.returns
returns c = search (rules, cut_laid)
