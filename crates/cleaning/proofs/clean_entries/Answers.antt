-- The entries are those of a folder's names; a file's log is good, so that its state is what the log means.
use Rattle.model.proofs.Prelude.{arith}
use Rattle.cleaning.proofs.Anew.{entries_long, entries_readable, entries_below, names_few, names_laid, is_file_lem, file_ready, file_below, file_log, file_laid}
use Rattle.cleaning.proofs.clean_entries.Goals as goal

pub is_directory-requires : goal.is_directory-requires
is_directory-requires c = (search entries_readable, search entries_below)

pub returns-then-is_directory : goal.returns-then-is_directory
returns-then-is_directory c = (search names_laid, search names_few)

pub of-sizes-requires : goal.of-sizes-requires
of-sizes-requires c = search entries_long

pub judged_file-size-requires : goal.judged_file-size-requires
judged_file-size-requires c = (search file_ready, search is_file_lem, search file_below, search, search file_log)

pub returns : goal.returns
returns c = (search file_laid, omega arith)
