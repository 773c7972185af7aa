-- A turn passes an unmapped page, or puts the entry of the stretch that begins there.
use Rattle.model.proofs.Prelude.{rules}
use Rattle.entries.proofs.Entries.{filling_none, filling_same, filling_next, filling_end}
use Rattle.entries.proofs.Stretches.{left_same, left_next, left_none, left_all}
use Rattle.entries.proofs.put_stretches.Goals as goal

pub loop-i-init : goal.loop-i-init
loop-i-init c = search (rules, filling_none)

pub loop-i-preserved-then-p-eq0 : goal.loop-i-preserved-then-p-eq0
loop-i-preserved-then-p-eq0 c = search (rules, filling_same, left_same)

pub loop-i-preserved : goal.loop-i-preserved
loop-i-preserved c = search (rules, filling_next, left_next)

pub returns : goal.returns
returns c = (rw (← left_all _ _ _) (search (rules, filling_end, left_none)), search rules)
