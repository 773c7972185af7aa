-- The definition's two tests in the code's order.
use Rattle.model.proofs.Prelude.{arith}
use Rattle.std.proofs.lemmas.Bool.Decides.{nat_tests}
use Rattle.model.specs.Entry.{new_name_ok}
use Rattle.lookup.proofs.is_new_name.Goals as goal

pub returns-then-is_name : goal.returns-then-is_name
unfolding new_name_ok
returns-then-is_name c = grind (arith, nat_tests)

pub returns-else-is_name : goal.returns-else-is_name
unfolding new_name_ok
returns-else-is_name c = grind (arith, nat_tests)
