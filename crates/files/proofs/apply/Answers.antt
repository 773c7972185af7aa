-- Each answer is one kind of an entry; the run that is mapped or unmapped is that of the definition.
use Rattle.model.proofs.Prelude.{rules, arith}
use Rattle.std.proofs.lemmas.Grind.{common_steps}
use Rattle.model.specs.State.{file_step}
use Rattle.inode_log.specs.Entries.{meant}
use Rattle.files.proofs.Entries.{run_room, run_low, size_low, did_write, did_size}
use Rattle.files.proofs.apply.Goals as goal

pub map_run-requires : goal.map_run-requires
map_run-requires c = search (rules, run_room, run_low)

pub pages_below-requires : goal.pages_below-requires
pages_below-requires c = search (rules, size_low)

pub returns-in-Write : goal.returns-in-Write
returns-in-Write c = search (rules, did_write)

pub returns-in-SetSize : goal.returns-in-SetSize
returns-in-SetSize c = search (rules, did_size)

pub returns-in-Add : goal.returns-in-Add
unfolding meant file_step
returns-in-Add c = record { file = grind (arith, common_steps); long = c.told-table }
