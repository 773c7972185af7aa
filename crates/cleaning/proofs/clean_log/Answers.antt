-- An empty log, and else the append that writes the log anew.
use Rattle.model.proofs.Prelude.{refl, rules}
use Rattle.cleaning.proofs.Anew.{inode_low, tail_inside, clean_empty, anew_ready, anew_comes}
use Rattle.cleaning.proofs.clean_log.Goals as goal

pub tail_word-requires : goal.tail_word-requires
tail_word-requires c = search inode_low

pub word_at-requires : goal.word_at-requires
word_at-requires c = search tail_inside

pub returns-then-word_at-eq0 : goal.returns-then-word_at-eq0
returns-then-word_at-eq0 c = search clean_empty

pub make-requires : goal.make-requires
make-requires c = anew_ready _ _ _ _ _ _ c.requires.0 c.requires.1 _ (rw c.into.ensures refl) _ _ c.clean_entries-n.ensures.1

pub returns : goal.returns
returns c =
    anew_comes _ _ _ _ _ _ c.requires.0 c.requires.1 _ _ c.tail_word.ensures c.word_at.ensures c.if-word_at-eq0.false
    _ _ _ c.clean_entries-n.ensures.0 c.clean_entries-n.ensures.1 (search rules) _ (rw c.into.ensures refl) _ _ c.make.ensures
