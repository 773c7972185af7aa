-- Only an add can stand; of one the index decides.
use Rattle.model.specs.Words.{word}
use Rattle.directory.proofs.Indexing.{stands_add, stands_other}
use Rattle.directory.proofs.stands.Goals as goal

pub returns-in-Add : goal.returns-in-Add
returns-in-Add c = search stands_add

pub returns-in_default : goal.returns-in_default
returns-in_default c = stands_other (word c.args.v.now) 0 _ _ c.args.e c.in_default.not-Add
