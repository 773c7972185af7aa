-- Head, tail and type are stored where an inode becomes valid.
use Rattle.model.proofs.Prelude.{rules}
use Rattle.append.proofs.Parts.{no_other, let_go, new_put}
use Rattle.append.proofs.put_new.Goals as goal

pub returns-then-a-eq0 : goal.returns-then-a-eq0
returns-then-a-eq0 c = (search (rules, no_other), search rules)

pub returns-then-a-eq0-2 : goal.returns-then-a-eq0-2
returns-then-a-eq0-2 c = (search (rules, let_go), search rules)

pub returns : goal.returns
returns c = (search (rules, new_put), search rules)
