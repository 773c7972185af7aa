-- The data pages of the file pages that start below the size are those of the table's first elements.
use Rattle.model.proofs.Prelude.{ap, not, rules}
use Rattle.inodes.proofs.Cases.{counted_in, end_is}
use Rattle.inodes.proofs.judge_end.Goals as goal

pub take_table-requires : goal.take_table-requires
take_table-requires c = search (rules, counted_in)

pub returns : goal.returns
returns c = end_is _ _ _ _ c.end_ok.ensures _ c.pages_below.ensures.0 (search rules) _ _ _ (ap not c.if-not-end_ok.false) c.take_table.ensures
