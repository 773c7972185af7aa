-- The head and the tail come from the view; the log that they mean is read from the raw memory, which is the same there.
use Rattle.model.proofs.Prelude.{rules}
use Rattle.inode_log.proofs.Viewed.{log_none, head_low, start_low, end_low, log_some}
use Rattle.inode_log.proofs.log_of.Goals as goal

pub returns-then-tail-eq0 : goal.returns-then-tail-eq0
returns-then-tail-eq0 c = search (rules, log_none)

pub overflow_cast-result : goal.overflow_cast-result
overflow_cast-result c = search (rules, head_low)

pub overflow_mul-result : goal.overflow_mul-result
overflow_mul-result c = search (rules, start_low)

pub overflow_cast-result-2 : goal.overflow_cast-result-2
overflow_cast-result-2 c = search (rules, end_low)

pub returns : goal.returns
returns c = search (rules, log_some)
