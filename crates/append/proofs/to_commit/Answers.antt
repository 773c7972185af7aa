-- Four changes, one behind the other.
use Rattle.model.proofs.Prelude.{refl, rules}
use Rattle.append.proofs.Parts.{four_put}
use Rattle.append.proofs.to_commit.Goals as goal

pub returns : goal.returns
returns c = (
  four_put _ _ _ _ _ _ _ _ _ _ _ _ _ _ _ _ _ _ _ c.head_word.ensures c.tail_word.ensures c.tail_word-2.ensures
      c.valid_word.ensures refl refl c.put_change-b.ensures.0 c.put_change-c.ensures.0 c.put_change-d.ensures.0
      c.put_change.ensures.0,
  search rules,
)
