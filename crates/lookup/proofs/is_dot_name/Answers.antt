-- Each answer is one case of the definition's tests, with what `==` answers for them.
use Rattle.model.proofs.Prelude.{rules}
use Rattle.model.specs.Entry.{is_dot_name}
use Rattle.lookup.proofs.Bytes.{same_bytes}
use Rattle.lookup.proofs.is_dot_name.Goals as goal

pub returns-then-eq : goal.returns-then-eq
unfolding is_dot_name
returns-then-eq c = simp same_bytes (search rules)

pub returns-else-eq : goal.returns-else-eq
unfolding is_dot_name
returns-else-eq c = simp same_bytes (search rules)
