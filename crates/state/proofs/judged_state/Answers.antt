-- Each answer is one law of proofs/Stating.antt.
use Rattle.names.proofs.Listing.{good_long, good_ready, good_readable}
use Rattle.state.proofs.Stating.{state_absent, file_below, file_inside, state_folder, kind_file, good_log, state_there}
use Rattle.state.proofs.judged_state.Goals as goal

pub of-sizes-requires : goal.of-sizes-requires
of-sizes-requires c = search good_long

pub no_file-requires : goal.no_file-requires
no_file-requires c = search good_readable

pub returns-then-no_file : goal.returns-then-no_file
returns-then-no_file c = search state_absent

pub is_directory-requires : goal.is_directory-requires
is_directory-requires c = (search good_readable, search file_inside)

pub returns-then-is_directory : goal.returns-then-is_directory
returns-then-is_directory c = search state_folder

pub judged_file-requires : goal.judged_file-requires
judged_file-requires c = (search good_ready, search kind_file, search file_below, search, search good_log)

pub returns : goal.returns
returns c = search state_there
