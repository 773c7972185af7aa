-- A log that is known to be good gives the file that its size and table stand for.
use Rattle.files.proofs.States.{log_ends, good_answer, good_size}
use Rattle.files.proofs.judged_file.Goals as goal

pub file_state-requires : goal.file_state-requires
file_state-requires c = search log_ends

pub unwrap-requires : goal.unwrap-requires
unwrap-requires c = search good_answer

pub returns : goal.returns
returns c = search good_size
