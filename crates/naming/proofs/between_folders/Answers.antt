-- Inside one folder, or from one to the other.
use Rattle.naming.proofs.Calls.{inside_one, from_one}
use Rattle.naming.proofs.between_folders.Goals as goal

pub returns-then-folders : goal.returns-then-folders
returns-then-folders c = search inside_one

pub returns : goal.returns
returns c = search from_one
