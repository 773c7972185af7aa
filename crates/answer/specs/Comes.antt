-- What a call that fills a lent list answers and leaves in it.
use Rattle.std.specs.Prelude.{ℕ, ◌≡◌, List, ℤ, length, Result}
use Rattle.model.specs.Words.{word}
use Rattle.model.specs.FileMap.{Call}
use Rattle.model.specs.Answer as model
use Rattle.model.specs.Answer.{map_answer, filled_from}
use Rattle.model.specs.Public.{fills, call_answer, call_list}
use Rattle.answer.specs.Meaning.{meaning, numbered, code_of}
use Rattle.answer.specs.declared.Refusal.{Refusal}

-- A call that comes to y and was lent the list l: r is its answer, and m the list afterwards. "The answer is the count of words filled; the
-- rest keeps its content."
pub record Comes (y : model.Answer (List ℕ)) (l : List ℕ) (r : Result ℕ Refusal) (m : List ℕ) : Type 0 where
  pub answer : meaning r ≡ numbered (map_answer length y)
  pub list : m ≡ filled_from l y

-- what call c comes to on the volume v, lent the list l
abbrev pub came_to : List ℕ → List ℕ → Call → model.Answer (List ℕ)
came_to v l c = fills (length v) (word v) (length l) c

-- The contract of call c on the volume v, lent the list l: r is its answer, which `call_answer v l c` says, and m the list afterwards,
-- which is `call_list v l c`.
abbrev pub Fills : List ℕ → List ℕ → Call → Result ℕ Refusal → List ℕ → Type 0
Fills v l c r m = Comes (came_to v l c) l r m

-- the same of a call that answers with one number, n
abbrev pub Returns : List ℕ → List ℕ → Call → ℤ → List ℕ → Type 0
Returns v l c n m = (n ≡ code_of (numbered (call_answer v l c))) × (m ≡ call_list v l c)
