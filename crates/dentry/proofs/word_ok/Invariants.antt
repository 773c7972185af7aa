-- The invariant: the bytes that are left are the rest of the name and zeros if and only if all are the name and zeros.
use Rattle.model.proofs.Prelude.{◌≡◌, ◌-◌}
use Rattle.dentry.specs.Fields.{word_ok}
use Rattle.dentry.proofs.word_ok.Given as goal

abbrev pub invariant-loop : goal.invariant-loop
invariant-loop l = word_ok (l.n - l.counter) l.x ≡ word_ok l.n l.word
