-- The head is stored where the log goes on and had no page.
use Rattle.model.proofs.Prelude.{rules}
use Rattle.append.proofs.Parts.{head_anew, head_there, head_put}
use Rattle.append.proofs.put_head.Goals as goal

pub returns-then-anew : goal.returns-then-anew
returns-then-anew c = (search (rules, head_anew), search rules)

pub returns-then-tail-ne0 : goal.returns-then-tail-ne0
returns-then-tail-ne0 c = (search (rules, head_there), search rules)

pub returns : goal.returns
returns c = (search (rules, head_put), search rules)
