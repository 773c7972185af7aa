-- The elements before the loop's are those of reached folders.
use Rattle.model.proofs.Prelude.{◌≡◌, ◌++◌, map, take, drop}
use Rattle.tree.specs.Numbers.{reached}
use Rattle.tree.proofs.reach_named.Given as goal

abbrev pub invariant-loop-x : goal.invariant-loop-x
invariant-loop-x l = l.numbers ≡ map reached (take l.x-index l.initial.numbers) ++ drop l.x-index l.initial.numbers
