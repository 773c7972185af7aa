-- The entries of the table, and the last ones behind them.
use Rattle.model.proofs.Prelude.{rules}
use Rattle.laying.proofs.Steps.{layable_less, last_layable, log_laid}
use Rattle.laying.proofs.lay_log.Goals as goal

pub lay_entries-h-requires : goal.lay_entries-h-requires
lay_entries-h-requires c = (search rules, layable_less _ _ _ _ _ c.requires.1 (search rules), search rules)

pub lay_entries-requires : goal.lay_entries-requires
lay_entries-requires c = (
  search rules,
  last_layable _ _ _ _ _ c.args.last.now _ _ c.lay_entries-h.ensures c.requires.1,
  search rules,
)

pub returns : goal.returns
returns c = log_laid _ _ _ _ _ _ _ _ c.lay_entries-h.ensures c.requires.1 _ _ c.lay_entries.ensures
