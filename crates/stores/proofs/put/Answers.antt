-- The word is stored already, or its pair is inserted.
use Rattle.model.proofs.Prelude.{rules}
use Rattle.stores.proofs.Groups.{put_there, put_new}
use Rattle.stores.proofs.put.Goals as goal

pub returns-then-has_word : goal.returns-then-has_word
returns-then-has_word c = (search (rules, put_there), search rules, search rules)

pub returns : goal.returns
returns c = (search (rules, put_new), search rules, search rules)
