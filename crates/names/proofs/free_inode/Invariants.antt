-- The loop's invariant: the search from inode k on finds what the whole search finds.
use Rattle.model.proofs.Prelude.{◌≡◌}
use Rattle.model.specs.Words.{word}
use Rattle.model.specs.Journal.{view}
use Rattle.names.proofs.Lowest.{invalid_from}
use Rattle.names.proofs.free_inode.Given as goal

abbrev pub invariant-loop-k : goal.invariant-loop-k
invariant-loop-k l = invalid_from (view (word l.v)) l.inodes l.k ≡ invalid_from (view (word l.v)) l.inodes 1
