-- The pairs that are moved up begin where the pair ends.
use Rattle.model.proofs.Prelude.{rules}
use Rattle.stores.proofs.Texts.{pair_before}
use Rattle.stores.proofs.insert.Goals as goal

pub returns : goal.returns
returns c = (search (rules, pair_before), search rules)
