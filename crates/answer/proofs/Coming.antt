-- What a call comes to, by cases: a refusal, nothing to change, or words that stand at the start of the list.
use Rattle.model.proofs.Prelude.{ℕ, ◌≡◌, List, []}
use Rattle.std.specs.Prelude.{Result, Ok, Err}
use Rattle.model.specs.Answer as model
use Rattle.model.specs.Answer.{refused, done, map_answer}
use Rattle.answer.specs.Meaning.{number_of}
use Rattle.answer.specs.Comes.{Comes}
use Rattle.answer.specs.declared.Refusal.{Refusal}

-- a refusal leaves the list
pub comes_refused : (y : model.Answer (List ℕ)) (l : List ℕ) (e : Refusal) → y ≡ refused (number_of e) → Comes y l (Err e) l
comes_refused y l e h = record { answer = rw h; list = rw h }

-- nothing to change leaves it too
pub comes_none : (y : model.Answer (List ℕ)) (l : List ℕ) → y ≡ done [] → Comes y l (Ok 0) l
comes_none y l h = record { answer = rw h; list = rw h }

-- one thing that stands for another
pub comes_as : (x y : model.Answer (List ℕ)) (l : List ℕ) (r : Result ℕ Refusal) (m : List ℕ) → x ≡ y → Comes y l r m → Comes x l r m
comes_as x y l r m e h = rw e h
