-- What the table made of the array comes to, the array comes to.
use Rattle.model.proofs.Prelude.{rules}
use Rattle.tree.proofs.Numbers.{unsettled_known, numbers_stop, numbers_pass}
use Rattle.tree.proofs.settle_all.Goals as goal

pub settle_all-requires : goal.settle_all-requires
settle_all-requires c = search (rules, unsettled_known)

pub returns-then-not-settle_all : goal.returns-then-not-settle_all
returns-then-not-settle_all c = search (rules, numbers_stop)

pub returns : goal.returns
returns c = search (rules, numbers_pass)
