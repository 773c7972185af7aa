-- The loop's invariant: the inodes below k are good, the marks are those of their pages, and the table has their states.
use Rattle.model.proofs.Prelude.{◌<◌}
use Rattle.model.specs.Words.{word}
use Rattle.model.specs.Journal.{view}
use Rattle.inodes.specs.Judged.{Below, States}
use Rattle.inodes.proofs.judge_others.Given as goal

abbrev pub invariant-loop-k : goal.invariant-loop-k
invariant-loop-k l =
    (0 < l.k) × Below (view (word l.v)) l.sizes.pages l.sizes.inodes l.k l.marks × States (view (word l.v)) l.k l.tree
