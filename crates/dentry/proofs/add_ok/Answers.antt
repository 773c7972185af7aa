-- An inode out of range fails the definition at once; of another the name decides.
use Rattle.model.proofs.Prelude.{arith}
use Rattle.std.proofs.lemmas.Bool.Decides.{nat_tests}
use Rattle.model.specs.Entry.{name_entry_ok}
use Rattle.dentry.proofs.add_ok.Goals as goal

pub returns-then-inode-inodes : goal.returns-then-inode-inodes
unfolding name_entry_ok
returns-then-inode-inodes c = grind (arith, nat_tests)

pub returns-else-inode-inodes : goal.returns-else-inode-inodes
unfolding name_entry_ok
returns-else-inode-inodes c = grind (arith, nat_tests)
