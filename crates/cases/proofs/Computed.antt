-- The claim of the cases: by computation on words (one run of each table), carried over to bytes.
use Rattle.model.proofs.Prelude.{◌≡◌, refl, ◌∙◌, true, []}
use Rattle.cases.specs.Table.{table, folder_table}
use Rattle.cases.specs.Run.{as_bytes, all_hold, volume_of, filling, answer, left_by, fact_holds, Cases}
use Rattle.cases.proofs.Held.{as_words, stored, carried_words, leaves_words, format_words}
use Rattle.cases.proofs.Alike.{run as same-run}
use Rattle.cases.proofs.SameWords.{SameWords, alike}
use Rattle.model.specs.Lists.{bit, all_below, sum_below, values_from, lowest, lowest_few, all, filter, foldl, has, count, index_of, distinct, same_list}
use Rattle.model.specs.Words.{word, put_word, byte_at}
use Rattle.model.specs.Layout.{sizes_ok, in_pages}
use Rattle.model.specs.Journal.{positions, open_count, open_positions, open_targets, is_open, put_back, view, target_ok, journal_ok}
use Rattle.model.specs.Entry.{name_field, entry_at, name_ok, is_dot_name, new_name_ok, field_ok, file_entry_ok, name_entry_ok, write_words, size_words, name_words, add_words, remove_words}
use Rattle.model.specs.Log.{walk, tail_ok, pages_of, log_pages, pages, slots, entry_words, entries}
use Rattle.model.specs.State.{empty_file, file_step, file_of, file_byte, bytes_of, without, with_name, name_step, names_of, inode_of}
use Rattle.model.specs.Tree.{name_count, parent_of, above, is_reached, is_beneath, sum_over, name_counts, folder_total, name_total}
use Rattle.model.specs.Accept.{folders_of, mapped_to, uses_by, uses, free, free_count, valid_ok, type_ok, log_ok, folder_ok, named_ok, serves_once, end_ok, inode_ok, view_ok, accepted}
use Rattle.model.specs.Stores.{one_word, run, both, only_if, over, landed, listed, store_list, carried}
use Rattle.model.specs.Power.{before, group, mixed, leaves}
use Rattle.model.specs.Stretches.{ahead, stretches}
use Rattle.model.specs.Calls.{lay_entries, tail_after, tail_pages, lay_pages, stretch_entries, commit_one, journal_pairs, targets, commit_together, commit, besides, lowest_run, lowest_pages, entries_only, data_pages, appended, old_pages, old_slots, fresh_pages, fresh_log, pages_needed, prepared, new_tail, own_changes, pages_left, all_needed, all_prepared, all_changes, room_checks, space_checks, action_checks, action_groups, none_there, leads_to, stands, is_absent, is_full, release, invalid_inode, create_action, link_action, unlink_action, same_inode, rename_appends, rename_action, file_checks, written_byte, write_append, write_action, cuts_page, kept_byte, size_append, size_action, clean_file, clean_names, clean_entries, clean_action, old_values, recover_action, action, checks, groups}
use Rattle.model.specs.Public.{is_volume, volume_checks, closed_checks, call_checks, fills, formatted, format, beneath, counts, size, read, total, count_free}
use Rattle.model.specs.Listing.{digits, decimal, first_line, name_line, refusal_line, name_lines, text_of, listing_of}

on_words : all_hold as_words table [] ≡ true
unfolding table all_hold volume_of filling answer left_by fact_holds as_words stored carried_words leaves_words format_words bit all_below sum_below values_from lowest lowest_few all filter foldl has count index_of distinct same_list word put_word byte_at sizes_ok in_pages positions open_count open_positions open_targets is_open put_back view target_ok journal_ok name_field entry_at name_ok is_dot_name new_name_ok field_ok file_entry_ok name_entry_ok write_words size_words name_words add_words remove_words walk tail_ok pages_of log_pages pages slots entry_words entries empty_file file_step file_of file_byte bytes_of without with_name name_step names_of inode_of name_count parent_of above is_reached is_beneath sum_over name_counts folder_total name_total folders_of mapped_to uses_by uses free free_count valid_ok type_ok log_ok folder_ok named_ok serves_once end_ok inode_ok view_ok accepted one_word run both only_if over landed listed store_list carried before group mixed leaves ahead stretches lay_entries tail_after tail_pages lay_pages stretch_entries commit_one journal_pairs targets commit_together commit besides lowest_run lowest_pages entries_only data_pages appended old_pages old_slots fresh_pages fresh_log pages_needed prepared new_tail own_changes pages_left all_needed all_prepared all_changes room_checks space_checks action_checks action_groups none_there leads_to stands is_absent is_full release invalid_inode create_action link_action unlink_action same_inode rename_appends rename_action file_checks written_byte write_append write_action cuts_page kept_byte size_append size_action clean_file clean_names clean_entries clean_action old_values recover_action action checks groups is_volume volume_checks closed_checks call_checks fills formatted format beneath counts size read total count_free digits decimal first_line name_line refusal_line name_lines text_of listing_of
on_words = refl

folders_on_words : all_hold as_words folder_table [] ≡ true
unfolding folder_table all_hold volume_of filling answer left_by fact_holds as_words stored carried_words leaves_words format_words bit all_below sum_below values_from lowest lowest_few all filter foldl has count index_of distinct same_list word put_word byte_at sizes_ok in_pages positions open_count open_positions open_targets is_open put_back view target_ok journal_ok name_field entry_at name_ok is_dot_name new_name_ok field_ok file_entry_ok name_entry_ok write_words size_words name_words add_words remove_words walk tail_ok pages_of log_pages pages slots entry_words entries empty_file file_step file_of file_byte bytes_of without with_name name_step names_of inode_of name_count parent_of above is_reached is_beneath sum_over name_counts folder_total name_total folders_of mapped_to uses_by uses free free_count valid_ok type_ok log_ok folder_ok named_ok serves_once end_ok inode_ok view_ok accepted one_word run both only_if over landed listed store_list carried before group mixed leaves ahead stretches lay_entries tail_after tail_pages lay_pages stretch_entries commit_one journal_pairs targets commit_together commit besides lowest_run lowest_pages entries_only data_pages appended old_pages old_slots fresh_pages fresh_log pages_needed prepared new_tail own_changes pages_left all_needed all_prepared all_changes room_checks space_checks action_checks action_groups none_there leads_to stands is_absent is_full release invalid_inode create_action link_action unlink_action same_inode rename_appends rename_action file_checks written_byte write_append write_action cuts_page kept_byte size_append size_action clean_file clean_names clean_entries clean_action old_values recover_action action checks groups is_volume volume_checks closed_checks call_checks fills formatted format beneath counts size read total count_free digits decimal first_line name_line refusal_line name_lines text_of listing_of
folders_on_words = refl

pub cases : Cases
cases = (same-run as_bytes as_words SameWords alike table ∙ on_words, same-run as_bytes as_words SameWords alike folder_table ∙ folders_on_words)
