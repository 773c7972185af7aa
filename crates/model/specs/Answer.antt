-- Answers, and the table of refusals: "The lowest number that applies is answered."
use Rattle.std.specs.Prelude.{ℕ, Bool, cond, List, [], ◌∷◌, ◌++◌, length, drop}

-- What a call comes to: a refusal by its number, or what was asked for. `Answer ℕ` has a number, `Answer Nothing` has none.
pub data Answer (A : Type 0) : Type 0 where
  refused : ℕ → Answer A
  done : A → Answer A

-- "Format and carry out answer "done" and no number."
pub record Nothing : Type 0 where

-- The numbers of document 01, "What the screen says", by their words; from 14 on they are document 02's: "This number and those of later
-- orders join document 01's table".
abbrev pub short_memory : ℕ
short_memory = 1

abbrev pub no_volume : ℕ
no_volume = 2

abbrev pub damaged : ℕ
damaged = 3

abbrev pub journal_open : ℕ
journal_open = 4

abbrev pub bad_name : ℕ
bad_name = 5

abbrev pub not_there : ℕ
not_there = 6

abbrev pub taken : ℕ
taken = 7

abbrev pub long_write : ℕ
long_write = 8

abbrev pub past_the_end : ℕ
past_the_end = 9

abbrev pub no_inode : ℕ
no_inode = 10

abbrev pub directory_full : ℕ
directory_full = 11

abbrev pub no_space : ℕ
no_space = 12

abbrev pub bad_list : ℕ
bad_list = 13

abbrev pub too_many_gaps : ℕ
too_many_gaps = 14

abbrev pub last_page : ℕ
last_page = 15

abbrev pub wrong_type : ℕ
wrong_type = 16

abbrev pub not_empty : ℕ
not_empty = 17

abbrev pub into_itself : ℕ
into_itself = 18

-- Conditions with their numbers, in the order in which they are checked: ascending, but "where an order names a number's place among the
-- checks, that place decides and not the number."
abbrev pub Checks : Type 0
Checks = List (Bool × ℕ)

-- the number of the first condition that holds; a where none does
abbrev pub first_refusal : {A : Type 0} → Checks → Answer A → Answer A
first_refusal [] a = a
first_refusal (t ∷ ts) a = cond t.0 (refused t.1) (first_refusal ts a)

abbrev pub map_answer : {A B : Type 0} → (A → B) → Answer A → Answer B
map_answer f (refused n) = refused n
map_answer f (done a) = done (f a)

-- Lent memory that a call fills from its start: "the rest keeps its content"; a refusal "moves nothing".
abbrev pub filled_from : {A : Type 0} → List A → Answer (List A) → List A
filled_from l (refused n) = l
filled_from l (done xs) = xs ++ drop (length xs) l

-- Lent memory that a call leaves anew; a refusal "moves nothing".
abbrev pub replaced_by : List ℕ → Answer (List ℕ) → List ℕ
replaced_by l (refused n) = l
replaced_by l (done xs) = xs
