-- What a folder's names count, one by one, and what one name counts.
use Rattle.model.proofs.Prelude.{arith, rules}
use Rattle.names.proofs.Listing.{good_long, good_ready}
use Rattle.totals.proofs.Beneath.{total_none, total_start, total_next, total_fits, total_end, leads_below, leads_valid, name_folder, name_file, is_file_lem, name_log, name_below, here_readable}
use Rattle.totals.proofs.+folder_total_name_total.Goals as goal

pub folder_total-returns-then-left-eq0 : goal.folder_total-returns-then-left-eq0
folder_total-returns-then-left-eq0 t c = search (rules, total_none)

pub folder_total-loop-k-init : goal.folder_total-loop-k-init
folder_total-loop-k-init t c = search (rules, total_start)

pub folder_total-name_total-sum-requires : goal.folder_total-name_total-sum-requires
folder_total-name_total-sum-requires t c =
    (search rules, (search rules, omega arith, search rules, search (rules, leads_below), search (rules, leads_valid)))

pub folder_total-overflow_add-sum : goal.folder_total-overflow_add-sum
folder_total-overflow_add-sum t c = search (rules, total_fits)

pub folder_total-loop-k-preserved : goal.folder_total-loop-k-preserved
folder_total-loop-k-preserved t c = search (rules, total_next)

pub folder_total-returns : goal.folder_total-returns
folder_total-returns t c = search (rules, total_end)

pub name_total-is_directory-requires : goal.name_total-is_directory-requires
name_total-is_directory-requires t c = search (rules, here_readable)

pub name_total-returns-then-is_directory : goal.name_total-returns-then-is_directory
name_total-returns-then-is_directory t c = search (rules, name_folder)

pub name_total-of-requires : goal.name_total-of-requires
name_total-of-requires t c = search (rules, good_long)

pub name_total-last_size-requires : goal.name_total-last_size-requires
name_total-last_size-requires t c = search (rules, good_ready, is_file_lem, name_below, name_log)

pub name_total-returns : goal.name_total-returns
name_total-returns t c = search (rules, name_file)
