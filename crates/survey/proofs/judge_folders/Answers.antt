-- Inode d, by its state: a folder is judged and noted, and what is none has no names.
use Rattle.survey.proofs.Folders.{loop_small, loop_start, none_judged, none_listed, loop_tree, loop_folder, loop_none, good_none, listed_none, loop_in, judged_tree, judged_more, judged_listed, judged_long}
use Rattle.survey.proofs.judge_folders.Goals as goal

pub loop-d-init : goal.loop-d-init
loop-d-init c = (search, search loop_start, search none_judged, search none_listed)

pub state-requires : goal.state-requires
state-requires c = search loop_small

pub judge_folder-requires : goal.judge_folder-requires
judge_folder-requires c = (search, search loop_in, search loop_folder, search, search loop_tree)

pub loop-d-preserved-then-is_folder : goal.loop-d-preserved-then-is_folder
loop-d-preserved-then-is_folder c = (
  search judged_long,
  search (judged_tree, c.in_ok-count.was),
  search (judged_more, c.in_ok-count.was),
  search (judged_listed, c.in_ok-count.was),
)

pub loop-d-preserved : goal.loop-d-preserved
loop-d-preserved c = (search, search loop_none, search good_none, search listed_none)
