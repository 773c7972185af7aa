-- A turn is the first of the search that is left: the inode is the answer, or the search goes on behind it.
use Rattle.model.proofs.Prelude.{rules}
use Rattle.names.proofs.Lowest.{invalid_here, invalid_next, invalid_none}
use Rattle.names.proofs.free_inode.Goals as goal

pub returns-then-not-is_valid : goal.returns-then-not-is_valid
returns-then-not-is_valid c = search invalid_here

pub loop-k-preserved : goal.loop-k-preserved
loop-k-preserved c = search invalid_next

pub returns : goal.returns
returns c = search (rules, invalid_none)
