-- A turn changes the next element.
use Rattle.model.proofs.Prelude.{rules}
use Rattle.std.proofs.lemmas.List.Edits.{map_over_more}
use Rattle.tree.specs.Numbers.{reached}
use Rattle.tree.proofs.reach_named.Goals as goal

pub loop-x-preserved : goal.loop-x-preserved
loop-x-preserved c = search (rules, map_over_more reached)
