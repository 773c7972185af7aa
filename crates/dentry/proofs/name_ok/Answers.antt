-- The definition's tests in the code's order: the two bounds of the length, then the four words, each with its part of the name.
use Rattle.model.proofs.Prelude.{arith}
use Rattle.std.proofs.lemmas.Bool.Decides.{nat_tests}
use Rattle.dentry.proofs.Fields.{field_tests}
use Rattle.dentry.proofs.name_ok.Goals as goal

pub returns-then-word_ok-3 : goal.returns-then-word_ok-3
returns-then-word_ok-3 c = rw (field_tests c.args.name (search)) (grind (arith, nat_tests))

pub returns-else-word_ok-3 : goal.returns-else-word_ok-3
returns-else-word_ok-3 c = rw (field_tests c.args.name (search)) (grind (arith, nat_tests))
