-- Pages of the inode table are no log and data pages.
use Rattle.model.proofs.Prelude.{rules}
use Rattle.inodes.proofs.Unmarked.{table_page, other_page}
use Rattle.inodes.proofs.is_unmarked.Goals as goal

pub returns-then-sizes-p : goal.returns-then-sizes-p
returns-then-sizes-p c = search (rules, other_page)

pub returns-else-sizes-p : goal.returns-else-sizes-p
returns-else-sizes-p c = search (rules, table_page)
