-- What checks came to: a refusal, which every call that asks them answers too, or a number, and then what comes after them decides.
use Rattle.model.proofs.Prelude.{ℕ, ◌≡◌, refl, sym, ◌∙◌, ap, Bool, false, cond, [], ◌∷◌, ◌++◌, Option, some, arith}
use Rattle.std.specs.Prelude.{Result, Ok, Err, IsErrAnd, ⊤}
use Rattle.model.specs.Answer as model
use Rattle.model.specs.Answer.{refused, done, Checks, first_refusal, map_answer}
use Rattle.model.proofs.Tests.{by_bool}
use Rattle.answer.specs.Meaning.{meaning, done_meaning, numbered}
use Rattle.answer.specs.declared.Refusal.{Refusal}
use Rattle.answer.proofs.Codes.{NoNumber}

-- a refusal is no done answer
pub clash : {A X : Type 0} (k : ℕ) (a : A) → refused k ≡ done a → X
clash k a e = let q : ◌≡◌ {A = ℕ} 0 1 = cc in absurd (omega arith)

-- an answer that means a number is one
pub no_number : {X : Type 0} (r : Result ℕ Refusal) (x : ℕ) → NoNumber r → meaning r ≡ done (some x) → X
no_number (Ok y) x o e = absurd (o y refl)
no_number (Err d) x o e = clash _ (some x) e

pub no_number_done : {X : Type 0} (r : Result ⊤ Refusal) (x : ℕ) → done_meaning r ≡ done (some x) → X
no_number_done (Ok u) x e = let q : ◌≡◌ {A = ℕ} 0 1 = cc in absurd (omega arith)
no_number_done (Err d) x e = clash _ (some x) e

-- what an answer that is no number means is a refusal
pub refusal_of_lem : {A : Type 0} (r : Result ℕ Refusal) (x : model.Answer A) (f : A → Option ℕ) → ((a : A) → (n : ℕ) × (f a ≡ some n))
    → NoNumber r → meaning r ≡ map_answer f x → (k : ℕ) × (refused k ≡ x)
refusal_of_lem r (refused k) f s o h = (k, refl)
refusal_of_lem r (done a) f s o h = no_number r (s a).0 o (h ∙ ap done (s a).1)

pub refusal_of_done : {A : Type 0} (r : Result ⊤ Refusal) (x : model.Answer A) (f : A → Option ℕ) → ((a : A) → (n : ℕ) × (f a ≡ some n))
    → done_meaning r ≡ map_answer f x → (k : ℕ) × (refused k ≡ x)
refusal_of_done r (refused k) f s h = (k, refl)
refusal_of_done r (done a) f s h = no_number_done r (s a).0 (h ∙ ap done (s a).1)

-- what is answered by a refusal is that refusal
pub told : {A : Type 0} (k : ℕ) (x : model.Answer A) (f : A → Option ℕ) → refused k ≡ map_answer f x → x ≡ refused k
told k (refused n) f h = cc
told k (done a) f h = clash k (f a) h

-- a refusal that `?` passes on
pub passed_on : (e : Refusal) (r : Result ℕ Refusal) → IsErrAnd r (λ d. d ≡ e) → r ≡ Err e
passed_on e (Ok x) h = absurd h
passed_on e (Err d) h = rw h

-- further checks come after the first ones
pub checks_after : {B : Type 0} (cs rest : Checks) (y : model.Answer B) → first_refusal (cs ++ rest) y ≡ first_refusal cs (first_refusal rest y)
checks_after [] rest y = refl
checks_after (t ∷ ts) rest y = ap (cond t.0 (refused t.1)) (checks_after ts rest y)

-- cs are the checks that were asked, of what would answer a number or none, by f: they came to refusal k, which every call that asks them
-- answers, ..
pub refuses_alike : {A : Type 0} (f : A → Option ℕ) (k : ℕ) (cs : Checks) (a : A) → refused k ≡ map_answer f (first_refusal cs (done a))
    → {B : Type 0} (y : model.Answer B) → first_refusal cs y ≡ refused k
refuses_alike f k [] a h y = clash k (f a) h
refuses_alike f k (t ∷ ts) a h y =
    by_bool t.0 (λ b. rw b (let q = rw b at h in cc)) (λ b. rw b (refuses_alike f k ts a (rw b at h) y))

pub same_refusal : (k : ℕ) (cs : Checks) (a : ℕ) → refused k ≡ numbered (first_refusal cs (done a))
    → {B : Type 0} (y : model.Answer B) → first_refusal cs y ≡ refused k
same_refusal k cs a h y = refuses_alike some k cs a h y

-- .. or none of them holds, and the call's answer is what comes after them
pub passes_alike : {A : Type 0} (f : A → Option ℕ) (z : Option ℕ) (cs : Checks) (a : A) → done z ≡ map_answer f (first_refusal cs (done a))
    → {B : Type 0} (y : model.Answer B) → first_refusal cs y ≡ y
passes_alike f z [] a h y = refl
passes_alike f z (t ∷ ts) a h y =
    by_bool t.0 (λ b. clash t.1 z (sym (rw b at h))) (λ b. rw b (passes_alike f z ts a (rw b at h) y))

pub none_refuses : (cs : Checks) (a n : ℕ) → done (some n) ≡ numbered (first_refusal cs (done a))
    → {B : Type 0} (y : model.Answer B) → first_refusal cs y ≡ y
none_refuses cs a n h y = passes_alike some (some n) cs a h y

-- .. and the last of them does not hold
pub last_passes : (cs : Checks) (b : Bool) (k a n : ℕ) → done (some n) ≡ numbered (first_refusal (cs ++ (b, k) ∷ []) (done a)) → b ≡ false
last_passes [] b k a n h = by_bool b (λ y. clash k (some n) (sym (rw y at h))) (λ y. y)
last_passes (t ∷ ts) b k a n h =
    by_bool t.0 (λ y. clash t.1 (some n) (sym (rw y at h))) (λ y. last_passes ts b k a n (rw y at h))

-- the number is the one that was to be answered
pub same_number : (cs : Checks) (a n : ℕ) → done (some n) ≡ numbered (first_refusal cs (done a)) → n ≡ a
same_number cs a n h = let e = rw (none_refuses cs a n h (done a)) at h in cc
