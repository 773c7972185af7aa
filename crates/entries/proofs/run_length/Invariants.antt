-- The loop's invariant: the c pages passed stand on consecutive data pages.
use Rattle.entries.proofs.Stretches.{Running}
use Rattle.entries.proofs.run_length.Given as goal

abbrev pub invariant-loop-c : goal.invariant-loop-c
invariant-loop-c l = Running l.table l.i l.c
