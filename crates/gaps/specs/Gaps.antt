-- Gaps in the marks that the judge of a volume left.
use Rattle.std.specs.Prelude.{ℕ, ◌+◌, ◌-◌, ◌≤◌, ◌<◌, ◌≡◌, Bool, true, false, List, map, length, Result, Ok, Err, IfOk, All}
use Rattle.model.specs.Stretches.{stretches_of}
use Rattle.model.specs.Words.{word}
use Rattle.model.specs.Answer.{done}
use Rattle.model.specs.Public.{gaps_in, gaps_answer}
use Rattle.marks.specs.Marks.{unmarked}
use Rattle.answer.specs.Meaning.{meaning, numbered}
use Rattle.answer.specs.declared.Refusal.{Refusal}
use Rattle.layout.specs.declared.Sizes.{Sizes}
use Rattle.gaps.specs.declared.Gap.{Gap}

-- f holds of the c numbers from p on, and not of the next one below n
pub record Runs (f : ℕ → Bool) (n p c : ℕ) : Type 0 where
  pub to : p + c ≤ n
  pub on : (j : ℕ) → j < c → f (p + j) ≡ true
  pub longest : p + c < n → f (p + c) ≡ false

-- a pair of first page and length as the code has it
abbrev pub gap_of : ℕ × ℕ → Gap
gap_of g = record { first = g.0; length = g.1 }

-- the first page behind a gap
abbrev pub gap_end : Gap → ℕ
gap_end g = g.first + g.length

-- the gaps from page p on, of the pages that are not marked
abbrev pub gaps_ahead : List ℕ → Sizes → ℕ → List Gap
gaps_ahead marks s p = map gap_of (stretches_of (unmarked marks s.pages s.inodes) (s.pages - p) p)

-- the gaps of the volume v from page p on, of the pages that are not marked
abbrev pub gaps_left : List ℕ → List ℕ → ℕ → List (ℕ × ℕ)
gaps_left v marks p = stretches_of (unmarked marks (word v 0) (word v 1)) (word v 0 - p) p

-- the gaps end at page P or before it
abbrev pub EndBy : ℕ → List Gap → Type 0
EndBy P gs = All (λ g. gap_end g ≤ P) gs

-- the marks show the gaps of the volume v, n of them, which a list of so many pairs has room for
pub record Seen (v : List ℕ) (room n : ℕ) (marks : List ℕ) : Type 0 where
  pub long : 16 ≤ length v
  pub pages : word v 0 ≤ 4096
  pub count : n ≡ length (gaps_left v marks 0)
  pub few : n ≤ 4096
  pub fits : n ≤ room
  pub gaps : gaps_in (length v) (word v) room ≡ done (gaps_left v marks 0)

-- the count of gaps that an answer has, 0 of a refusal
abbrev pub counted : Result ℕ Refusal → ℕ
counted (Ok n) = n
counted (Err e) = 0

-- what `judge` answers, and the marks that it leaves
pub record Judged (v : List ℕ) (room : ℕ) (r : Result ℕ Refusal) (marks : List ℕ) : Type 0 where
  pub answer : meaning r ≡ numbered (gaps_answer v room)
  pub seen : IfOk r (λ n. Seen v room n marks)
