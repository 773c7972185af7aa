-- The inodes from `k` on passed, and elements changed only as marking them does.
use Rattle.model.proofs.Prelude.{◌≤◌}
use Rattle.tree.specs.Table.{Unsettled}
use Rattle.tree.proofs.Settling.{Settling}
use Rattle.tree.proofs.Tree.settle_all.Given as goal

abbrev pub invariant-loop-k : goal.invariant-loop-k
invariant-loop-k l =
    (l.k ≤ l.inodes) × (l.inodes ≤ 256) × Unsettled l.inodes l.initial.self × Settling l.inodes l.k l.initial.self l.self
