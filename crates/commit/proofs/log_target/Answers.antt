-- The position's two words, one after the other.
use Rattle.model.proofs.Prelude.{rules}
use Rattle.commit.proofs.Commits.{target_logged}
use Rattle.commit.proofs.log_target.Goals as goal

pub returns : goal.returns
returns c = (search (rules, target_logged), search rules)
