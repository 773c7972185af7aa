-- An inode past the table is none; of another the view of its valid word decides.
use Rattle.model.proofs.Prelude.{arith}
use Rattle.std.proofs.lemmas.Bool.Decides.{nat_tests}
use Rattle.names.specs.Inodes.{below, valid_in}
use Rattle.names.proofs.is_valid.Goals as goal

pub returns-then-k-inodes : goal.returns-then-k-inodes
unfolding valid_in below
returns-then-k-inodes c = grind (arith, nat_tests)

pub returns-else-k-inodes : goal.returns-else-k-inodes
unfolding valid_in below
returns-else-k-inodes c = grind (arith, nat_tests)
