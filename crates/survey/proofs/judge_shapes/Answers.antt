-- Each answer is one law of proofs/Facts.antt: of a bad journal, or of what the inodes come to.
use Rattle.model.proofs.Prelude.{arith, rules}
use Rattle.names.proofs.Listing.{volume_long}
use Rattle.survey.proofs.Facts.{shapes_few, shapes_some, no_journal, volume_ready, shaped}
use Rattle.survey.proofs.judge_shapes.Goals as goal

pub of-sizes-requires : goal.of-sizes-requires
of-sizes-requires c = omega (arith, volume_long)

pub journal_ok-requires : goal.journal_ok-requires
journal_ok-requires c = (omega (arith, volume_long), search (rules, shapes_few))

pub returns-then-not-journal_ok : goal.returns-then-not-journal_ok
returns-then-not-journal_ok c = search no_journal

pub judge_inodes-requires : goal.judge_inodes-requires
judge_inodes-requires c = (search volume_ready, search shapes_some, search, search)

pub returns : goal.returns
returns c = search shaped
