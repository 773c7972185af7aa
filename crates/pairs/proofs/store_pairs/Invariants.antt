-- The loop's invariant: the pairs that are left, carried out on what is there now, leave what all leave on what was there before.
use Rattle.model.proofs.Prelude.{◌*◌, ◌/◌, ◌≡◌, true, length, drop}
use Rattle.model.specs.Stores.{carried}
use Rattle.model.specs.Public.{pairs_ok}
use Rattle.pairs.proofs.store_pairs.Given as goal

abbrev pub invariant-loop-index : goal.invariant-loop-index
invariant-loop-index l =
    (length l.v ≡ length l.initial.v) × (pairs_ok (length l.initial.v / 8) (drop (2 * l.index-index) l.list) ≡ true)
    × (carried l.v (drop (2 * l.index-index) l.list) ≡ carried l.initial.v l.list)
