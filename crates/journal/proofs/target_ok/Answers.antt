-- Each answer is one case of the definition's tests.
use Rattle.journal.proofs.Turns.{target_in, target_past, target_low}
use Rattle.model.proofs.Prelude.{◌∙◌, lt-leb}
use Rattle.model.proofs.Tests.{clash}
use Rattle.journal.proofs.target_ok.Goals as goal
use Rattle.journal.proofs.target_ok.Goals.{then-t-ge64, else-t-ge64}

pub returns-then-t-valid_word : goal.returns-then-t-valid_word
returns-then-t-valid_word c =
    elim c.if-t-ge64.branch [
      | then-t-ge64 w ↦ target_in _ _ _ _ w.if-t-ge64.true w.valid_word.ensures w.value-is c.if-t-valid_word.true
      | else-t-ge64 w ↦ clash _ c.if-t-valid_word.true (w.value-is ∙ lt-leb _ _ w.if-t-ge64.false)
    ]

pub returns-else-t-valid_word : goal.returns-else-t-valid_word
returns-else-t-valid_word c =
    elim c.if-t-ge64.branch [
      | then-t-ge64 w ↦ target_past _ _ _ _ w.if-t-ge64.true w.valid_word.ensures w.value-is c.if-t-valid_word.false
      | else-t-ge64 w ↦ target_low _ _ _ w.if-t-ge64.false c.if-t-valid_word.false
    ]
