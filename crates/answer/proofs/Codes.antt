-- The cases of the two numbers: which case the answer is decides them.
use Rattle.model.proofs.Prelude.{ℕ, ◌≤◌, ◌≡◌, refl, Option}
use Rattle.std.specs.Prelude.{pos, neg_ℤ, Result, Ok, Err, ⊤}
use Rattle.model.specs.Answer as model
use Rattle.answer.specs.Meaning.{meaning, done_meaning, refusal_of, code_of}
use Rattle.answer.specs.declared.Refusal.{Refusal}

-- what the code knows of an answer that is not a number
abbrev pub NoNumber : Result ℕ Refusal → Type 0
NoNumber r = (x : ℕ) → r ≡ Ok x → ⊥

-- such an answer is a refusal, ..
no_number : (a : Result ℕ Refusal) → NoNumber a → code_of (meaning a) ≡ neg_ℤ (pos (refusal_of (meaning a)))
no_number (Ok x) o = absurd (o x refl)
no_number (Err e) o = refl

-- .. or done without a number
no_number_done : (a : Result ⊤ Refusal) → code_of (done_meaning a) ≡ neg_ℤ (pos (refusal_of (done_meaning a)))
no_number_done (Ok u) = refl
no_number_done (Err e) = refl

-- the number of a case that is known, by what answers of its type mean
pub numbered_so : {A : Type 0} (m : Result A Refusal → model.Answer (Option ℕ)) (a b : Result A Refusal) (n : ℕ) → a ≡ b
    → n ≡ refusal_of (m b) → n ≤ 18 → (n ≡ refusal_of (m a)) × (n ≤ 18)
numbered_so m a b n e h l = (rw e h, l)
