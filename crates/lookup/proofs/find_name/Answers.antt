-- A turn looks at one place: it has the name, or the places behind it decide.
use Rattle.model.proofs.Prelude.{arith}
use Rattle.lookup.proofs.Places.{next_in, next_field, found, find_next, find_end}
use Rattle.lookup.proofs.find_name.Goals as goal

pub has_name-requires : goal.has_name-requires
has_name-requires c = (search (arith, next_in), search (arith, next_field))

pub inode_at-inode-requires : goal.inode_at-inode-requires
inode_at-inode-requires c = (search (arith, next_in), search arith)

pub returns-then-has_name : goal.returns-then-has_name
returns-then-has_name c = search (arith, found)

pub loop-p-preserved : goal.loop-p-preserved
loop-p-preserved c = search (arith, find_next)

pub returns : goal.returns
returns c = search (arith, find_end)
