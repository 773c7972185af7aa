-- The head, and the data behind it.
use Rattle.model.proofs.Prelude.{rules}
use Rattle.append.proofs.Parts.{rest_put}
use Rattle.append.proofs.put_rest.Goals as goal

pub returns : goal.returns
returns c = (search (rules, rest_put), search rules)
