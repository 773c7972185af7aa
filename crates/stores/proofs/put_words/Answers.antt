-- Nothing to add, words that are added one by one, or all in one go.
use Rattle.model.proofs.Prelude.{rules}
use Rattle.stores.proofs.Runs.{words_none, words_new}
use Rattle.stores.proofs.put_words.Goals as goal

pub returns-then-words-eq0 : goal.returns-then-words-eq0
returns-then-words-eq0 c = search (rules, words_none)

pub returns : goal.returns
returns c = (search (rules, words_new), search rules)
