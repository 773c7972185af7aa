-- The elements before the loop's are known.
use Rattle.model.proofs.Prelude.{ℕ, ◌<◌, ◌≡◌, length, get_or}
use Rattle.tree.specs.Numbers.{known}
use Rattle.tree.proofs.TreeFromRefArrayU16256.from.Given as goal

abbrev pub invariant-loop-k : goal.invariant-loop-k
invariant-loop-k l =
    (length l.tree ≡ 256) × ((j : ℕ) → j < l.k → get_or l.tree j 0 ≡ known (get_or l.numbers j 0))
