-- The loop's invariant: the folders from d on are judged and noted, and once inode 0 is, the table has its names.
use Rattle.model.proofs.Prelude.{◌-◌, ◌≡◌, length}
use Rattle.model.specs.Words.{word}
use Rattle.survey.specs.Folders.{TreeFrom, FoldersGood}
use Rattle.survey.proofs.Folders.{RootListed}
use Rattle.survey.proofs.judge_folders.Given as goal

abbrev pub invariant-loop-d : goal.invariant-loop-d
invariant-loop-d l =
    (length l.places ≡ 224) × TreeFrom l.v (word l.v 1 - l.d) l.d l.tree × FoldersGood l.v l.d × RootListed l.v l.d l.count l.places
