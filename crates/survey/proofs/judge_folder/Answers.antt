-- Each answer is one law of proofs/Folders.antt: of an empty log, of names that are not good, of names that are noted or not.
use Rattle.survey.proofs.Folders.{walk_dequeue, walk_enqueue, walk_page, tail_low, tail_room, no_log, walk_long, walk_ready, folder_in_lem, folder_small, folder_type, folder_walk, names_bad, folder_filled, folder_below, names_noted}
use Rattle.survey.proofs.judge_folder.Goals as goal

pub tail_word-requires : goal.tail_word-requires
tail_word-requires c = search tail_low

pub viewed-requires : goal.viewed-requires
viewed-requires c = (search walk_dequeue, search walk_enqueue, search walk_page, search tail_room)

pub returns-then-viewed-eq0 : goal.returns-then-viewed-eq0
returns-then-viewed-eq0 c = search no_log

pub of-sizes-requires : goal.of-sizes-requires
of-sizes-requires c = search walk_long

pub names_of-requires : goal.names_of-requires
names_of-requires c = (search walk_ready, search folder_in_lem, search folder_type, search folder_walk, search)

pub returns-in_err-count : goal.returns-in_err-count
returns-in_err-count c = search (names_bad, c.in_err-count.was, c.from_residual.ensures)

pub note_names-requires : goal.note_names-requires
note_names-requires c = (search (folder_filled, c.in_ok-count.was), search folder_small, search (folder_below, c.in_ok-count.was))

pub returns : goal.returns
returns c =
    names_noted _ c.requires.0 _ _ _ c.of-sizes.ensures.0 c.of-sizes.ensures.1 c.requires.1 c.requires.2 _ _ c.names_of.ensures _
    c.in_ok-count.was _ _ _ c.requires.4 c.note_names.ensures.0 _ c.then_some.ensures c.note_names.ensures.1
