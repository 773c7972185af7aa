-- Each answer is one law of proofs/Facts.antt: of bad inodes, of bad folders, of a tree that is settled or not.
use Rattle.survey.proofs.Facts.{walks_long, no_folders, tree_asks, tree_few, tree_some, found}
use Rattle.survey.proofs.judge.Goals as goal

pub of-sizes-requires : goal.of-sizes-requires
of-sizes-requires c = search walks_long

pub returns-in_err-count : goal.returns-in_err-count
returns-in_err-count c = search (no_folders, c.in_err-count.was, c.from_residual.ensures)

pub settle_all-requires : goal.settle_all-requires
settle_all-requires c = (
  search (tree_asks, c.in_ok-count.was),
  search (tree_some, c.in_ok-count.was),
  search (tree_few, c.in_ok-count.was),
)

pub returns : goal.returns
returns c = search (found, c.in_ok-count.was)
