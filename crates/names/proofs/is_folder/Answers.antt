-- A folder is valid, and its type says so.
use Rattle.model.proofs.Prelude.{arith}
use Rattle.std.proofs.lemmas.Bool.Decides.{nat_tests}
use Rattle.names.proofs.Inodes.{folder_tests, readable_there, below_there}
use Rattle.names.proofs.is_folder.Goals as goal

pub is_directory-requires : goal.is_directory-requires
is_directory-requires c = (search readable_there, search below_there)

pub returns-then-is_valid : goal.returns-then-is_valid
returns-then-is_valid c = rw folder_tests (grind (arith, nat_tests))

pub returns-else-is_valid : goal.returns-else-is_valid
returns-else-is_valid c = rw folder_tests (grind (arith, nat_tests))
