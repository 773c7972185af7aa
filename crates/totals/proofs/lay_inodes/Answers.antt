-- A turn lays the inode of the next name.
use Rattle.model.proofs.Prelude.{rules, arith}
use Rattle.directory.proofs.Table.{next_in}
use Rattle.names.proofs.Inodes.{inodes_start, next_below, rest_below}
use Rattle.totals.proofs.Tables.{laid_next, laid_all}
use Rattle.totals.proofs.lay_inodes.Goals as goal

pub loop-i-init : goal.loop-i-init
loop-i-init c = rw (inodes_start _ _ _ _ c.requires.0) (search)

pub inode_at-requires : goal.inode_at-requires
inode_at-requires c = (search (arith, next_in), search arith)

pub overflow_cast-inodes : goal.overflow_cast-inodes
overflow_cast-inodes c = search (rules, next_below)

pub loop-i-preserved : goal.loop-i-preserved
loop-i-preserved c = search (rest_below, laid_next)

pub returns : goal.returns
returns c = search laid_all
