-- An answer handed on as one number: what `code` answered of it is the number of what the answer means.
use Rattle.model.proofs.Prelude.{ℕ, ◌≡◌, ◌∙◌, ap, Option}
use Rattle.std.specs.Prelude.{Result}
use lib.IntN.{ℤ}
use mir.Syntax.{w64}
use mir.Val.{SFits, to_z, of_z}
use mir.Facts.{to_z-of_z}
use Rattle.model.specs.Answer as model
use Rattle.answer.specs.Meaning.{meaning, code_of}
use Rattle.answer.specs.declared.Refusal.{Refusal}

-- z is what `code` answered of a, and m is what a means
pub coded : (z : ℤ) (a : Result ℕ Refusal) (m : model.Answer (Option ℕ)) → SFits w64 z → z ≡ code_of (meaning a) → meaning a ≡ m → to_z w64 (of_z w64 z) ≡ code_of m
coded z a m f e h = to_z-of_z f ∙ e ∙ ap code_of h
