-- The loop's invariant: the pairs that are left are good if and only if all are.
use Rattle.model.proofs.Prelude.{◌*◌, ◌≡◌, drop}
use Rattle.model.specs.Public.{pairs_ok}
use Rattle.pairs.proofs.pairs_ok.Given as goal

abbrev pub invariant-loop-index : goal.invariant-loop-index
invariant-loop-index l = pairs_ok l.words (drop (2 * l.index-index) l.list) ≡ pairs_ok l.words l.list
