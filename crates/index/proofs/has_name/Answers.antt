-- The definition's tests in the code's order, word by word.
use Rattle.model.proofs.Prelude.{arith}
use Rattle.std.proofs.lemmas.Bool.Decides.{nat_tests}
use Rattle.inode_log.specs.Entries.{name_in}
use Rattle.index.specs.Index.{same_name}
use Rattle.index.proofs.has_name.Goals as goal

pub returns-then-word_at-name-4 : goal.returns-then-word_at-name-4
unfolding same_name name_in
returns-then-word_at-name-4 c = grind (arith, nat_tests)

pub returns-else-word_at-name-4 : goal.returns-else-word_at-name-4
unfolding same_name name_in
returns-else-word_at-name-4 c = grind (arith, nat_tests)
