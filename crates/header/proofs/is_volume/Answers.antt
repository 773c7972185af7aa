-- A slice without a whole header is too short for a volume; of any other the three words decide.
use Rattle.model.proofs.Prelude.{rules}
use Rattle.header.proofs.Cases.{too_short, sizes_wrong, kind_decides}
use Rattle.header.proofs.is_volume.Goals as goal

pub returns-then-v-lt-HEADER_BYTES : goal.returns-then-v-lt-HEADER_BYTES
returns-then-v-lt-HEADER_BYTES c = search (rules, too_short)

pub returns-else-sizes_fit : goal.returns-else-sizes_fit
returns-else-sizes_fit c = search (rules, sizes_wrong)

pub returns-then-sizes_fit : goal.returns-then-sizes_fit
returns-then-sizes_fit c = search (rules, kind_decides)
