-- The sizes decide, and then the length; with good sizes the length that is asked for is a number of 64 bits.
use Rattle.model.proofs.Prelude.{rules}
use Rattle.header.proofs.Cases.{bytes_fit}
use Rattle.header.proofs.sizes_fit.Goals as goal

pub overflow_mul-result : goal.overflow_mul-result
overflow_mul-result c = search (rules, bytes_fit)
