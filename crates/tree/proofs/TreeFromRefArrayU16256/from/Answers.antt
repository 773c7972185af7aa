-- A turn knows the next element; at the end all are.
use Rattle.model.proofs.Prelude.{rules}
use Rattle.tree.proofs.Numbers.{known_next, known_whole}
use Rattle.tree.proofs.TreeFromRefArrayU16256.from.Goals as goal

pub loop-k-preserved : goal.loop-k-preserved
loop-k-preserved c = search (rules, known_next)

pub returns : goal.returns
returns c = search (rules, known_whole)
