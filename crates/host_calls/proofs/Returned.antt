-- What a call that fills a list comes to gives its number and its list.
use Rattle.model.proofs.Prelude.{◌≡◌, List, ℕ}
use Rattle.std.specs.Prelude.{Result}
use lib.IntN.{ℤ}
use mir.Syntax.{w64}
use mir.Val.{SFits, to_z, of_z}
use Rattle.model.specs.FileMap.{Call}
use Rattle.model.specs.Public.{call_answer, call_list}
use Rattle.answer.specs.Meaning.{meaning, numbered, code_of}
use Rattle.answer.specs.Comes.{Fills}
use Rattle.answer.specs.declared.Refusal.{Refusal}
use Rattle.firmware.proofs.Coded.{coded}

-- a is what the call answered, and z what `code` answered of it
module _ (v l : List ℕ) (c : Call) (a : Result ℕ Refusal) (m : List ℕ) (h : Fills v l c a m) where
  pub returned : (z : ℤ) → SFits w64 z → z ≡ code_of (meaning a) → to_z w64 (of_z w64 z) ≡ code_of (numbered (call_answer v l c))
  unfolding call_answer
  returned z f e = coded z a _ f e h.answer

  pub returned_list : m ≡ call_list v l c
  unfolding call_list
  returned_list = h.list
