-- The eight words are those of an entry with a name, since the four that were read are the name's.
use Rattle.entries.proofs.Names.{name_is}
use Rattle.entries.proofs.name_words.Goals as goal

pub returns : goal.returns
returns c =
    name_is _ _ _ c.min-len.ensures c.copy_from_slice.ensures.after _ _ _ _ _ _
    c.word_at-a.ensures c.word_at-b.ensures c.word_at-c.ensures c.word_at-d.ensures
