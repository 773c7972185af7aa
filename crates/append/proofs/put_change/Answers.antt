-- The pair, or nothing.
use Rattle.model.proofs.Prelude.{rules}
use Rattle.append.proofs.Parts.{change_none, change_put}
use Rattle.append.proofs.put_change.Goals as goal

pub returns-then-changes : goal.returns-then-changes
returns-then-changes c = (search (rules, change_put), search rules)

pub returns : goal.returns
returns c = (search (rules, change_none), search rules)
