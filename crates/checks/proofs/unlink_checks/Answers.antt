-- Each answer is one case of the checks.
use Rattle.model.proofs.Prelude.{rules}
use Rattle.checks.proofs.Cases.{unlink_refused, unlink_full, unlink_is}
use Rattle.checks.proofs.unlink_checks.Goals as goal

pub returns-in_err-inode : goal.returns-in_err-inode
returns-in_err-inode c = search (rules, unlink_refused)

pub returns-then-has_names : goal.returns-then-has_names
returns-then-has_names c = search (rules, unlink_full, c.in_ok-inode.ensures)

pub returns : goal.returns
returns c = search (rules, unlink_is, c.in_ok-inode.ensures)
