-- What the code's answers mean in document 01's words, and the number that the C firmware gets for it.
use Rattle.std.specs.Prelude.{ℕ, ◌^◌, ◌-◌, cond, ltb, ℤ, pos, neg_ℤ, Result, Ok, Err, ⊤}
use Rattle.std.proofs.Math.Option.{Option, none, some}
use Rattle.model.specs.Answer as model
use Rattle.model.specs.Answer.{refused, done, Nothing, map_answer, short_memory, no_volume, damaged, journal_open, bad_name, not_there}
use Rattle.model.specs.Answer.{taken, long_write, past_the_end, no_inode, directory_full, no_space, bad_list, too_many_gaps, last_page}
use Rattle.model.specs.Answer.{wrong_type, not_empty, into_itself}
use Rattle.answer.specs.declared.Refusal.{Refusal}
use Rattle.answer.specs.declared.Refusal.TheVariants.{ShortMemory, NoVolume, Damaged, JournalOpen, BadName, NotThere, Taken, LongWrite}
use Rattle.answer.specs.declared.Refusal.TheVariants.{PastTheEnd, NoInode, DirectoryFull, NoSpace, BadList, TooManyGaps, LastPage}
use Rattle.answer.specs.declared.Refusal.TheVariants.{WrongType, NotEmpty, IntoItself}

-- a refusal's number of "What the screen says"
abbrev pub number_of : Refusal → ℕ
number_of ShortMemory = short_memory
number_of NoVolume = no_volume
number_of Damaged = damaged
number_of JournalOpen = journal_open
number_of BadName = bad_name
number_of NotThere = not_there
number_of Taken = taken
number_of LongWrite = long_write
number_of PastTheEnd = past_the_end
number_of NoInode = no_inode
number_of DirectoryFull = directory_full
number_of NoSpace = no_space
number_of BadList = bad_list
number_of TooManyGaps = too_many_gaps
number_of LastPage = last_page
number_of WrongType = wrong_type
number_of NotEmpty = not_empty
number_of IntoItself = into_itself

-- Done with a number, or a refusal by its number. No two answers mean the same.
abbrev pub meaning : Result ℕ Refusal → model.Answer (Option ℕ)
meaning (Ok x) = done (some x)
meaning (Err e) = refused (number_of e)

-- the same of a call that answers no number
abbrev pub done_meaning : Result ⊤ Refusal → model.Answer (Option ℕ)
done_meaning (Ok u) = done none
done_meaning (Err e) = refused (number_of e)

-- the model's answer of a call that answers no number
abbrev pub plain : model.Answer Nothing → model.Answer (Option ℕ)
plain = map_answer (λ n. none)

-- the model's answer of a call that answers a number
abbrev pub numbered : model.Answer ℕ → model.Answer (Option ℕ)
numbered = map_answer some

-- the number of a refusal, and 0 of an answer that is none
abbrev pub refusal_of : model.Answer (Option ℕ) → ℕ
refusal_of (refused n) = n
refusal_of (done x) = 0

-- the largest number of an i64
abbrev largest : ℕ
largest = 2 ^ 63 - 1

-- An answer as one number: the call's number, 0 where it has none, or minus the refusal's number. A call's number that
-- an i64 does not hold becomes the largest that it holds.
abbrev pub code_of : model.Answer (Option ℕ) → ℤ
code_of (refused n) = neg_ℤ (pos n)
code_of (done none) = pos 0
code_of (done (some x)) = cond (ltb x (2 ^ 63)) (pos x) (pos largest)
