-- The definition's tests in the code's order.
use Rattle.model.proofs.Prelude.{arith}
use Rattle.std.proofs.lemmas.Bool.Decides.{nat_tests}
use Rattle.model.specs.Entry.{name_ok}
use Rattle.lookup.proofs.is_name.Goals as goal

pub returns-then-name-le-NAME_BYTES : goal.returns-then-name-le-NAME_BYTES
unfolding name_ok
returns-then-name-le-NAME_BYTES c = grind (arith, nat_tests)

pub returns-else-name-le-NAME_BYTES : goal.returns-else-name-le-NAME_BYTES
unfolding name_ok
returns-else-name-le-NAME_BYTES c = grind (arith, nat_tests)
