-- The loop's invariant: the text that is left to put gives, put from here on, the whole text.
use Rattle.model.proofs.Prelude.{◌+◌, ◌*◌, ◌-◌, ◌≡◌, length}
use Rattle.stores.specs.Added.{element, element_from, run_text}
use Rattle.stores.proofs.Emitting.{Rest}
use Rattle.stores.proofs.fill.Given as goal

abbrev pub invariant-loop-i : goal.invariant-loop-i
invariant-loop-i l =
    (l.a ≡ l.at + 2 * l.i)
    × Rest l.initial.list l.at (run_text l.w (length l.words) (element l.words)) l.list l.a
    (run_text (l.w + l.i) (length l.words - l.i) (element_from l.words l.i))
