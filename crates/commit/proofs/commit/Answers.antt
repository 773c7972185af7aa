-- One word, or several: what stands in the list is the text of `commit`'s groups.
use Rattle.model.proofs.Prelude.{rules}
use Rattle.commit.proofs.Commits.{one_end, commits_one, commits_more}
use Rattle.commit.proofs.commit.Goals as goal

pub returns-then-n-eq1 : goal.returns-then-n-eq1
returns-then-n-eq1 c = (search (rules, commits_one), search (rules, one_end))

pub returns : goal.returns
returns c = (search (rules, commits_more), search (rules, one_end))
