-- An unmapped file page changes nothing; a data page is the first of those that are left, and is taken.
use Rattle.model.proofs.Prelude.{rules}
use Rattle.marks.proofs.Turns.{table_low, table_in, skip_fresh, skip_marked, take_fresh, take_marked, take_not, table_done}
use Rattle.marks.proofs.Marks.take_table.Goals as goal
use Rattle.marks.proofs.Marks.take_table.Goals.{else-d-ne0-via-then-d-ne0+else-not-take, else-d-ne0-via-else-d-ne0}

pub take-requires : goal.take-requires
take-requires c = search (rules, table_low)

pub returns-then-not-take : goal.returns-then-not-take
returns-then-not-take c = search (rules, take_not)

pub loop-d-preserved : goal.loop-d-preserved
loop-d-preserved c =
    elim c.else-d-ne0.branch [
      | else-d-ne0-via-then-d-ne0+else-not-take w ↦ rw w.self-is (search (rules, table_in, take_fresh, take_marked))
      | else-d-ne0-via-else-d-ne0 w ↦ rw w.self-is (search (rules, table_in, skip_fresh, skip_marked))
    ]

pub returns : goal.returns
returns c = search (rules, table_done)
