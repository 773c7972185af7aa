-- The log pages, the entries and the end one after the other: the first that fails answers no.
use Rattle.inodes.proofs.Cases.{log_not, size_low, size_room, pages_in, file_is}
use Rattle.inodes.proofs.judge_file.Goals as goal

pub returns-then-not-mark_log : goal.returns-then-not-mark_log
returns-then-not-mark_log c = search log_not

pub judge_end-requires : goal.judge_end-requires
judge_end-requires c = (search size_low, search size_room, search pages_in)

pub returns-in-Some : goal.returns-in-Some
returns-in-Some c = search file_is
