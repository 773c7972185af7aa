-- Dot names: a name of one or two bytes is told by its bytes, and no name of another length is one.
use Rattle.model.proofs.Prelude.{ℕ, ◌≡◌, refl, Bool, true, false, not, List, [], ◌∷◌, arith, length, get_or, eqb, ne_eqb, not-true, not-false}
use Rattle.model.specs.Lists.{same_list}
use Rattle.model.specs.Entry.{name_ok, is_dot_name, new_name_ok}
use Rattle.model.proofs.Tests.{by_bool}

pub dot_one : (n : List ℕ) → length n ≡ 1 → eqb (get_or n 0 0) 46 ≡ is_dot_name n
unfolding is_dot_name same_list
dot_one [] h = absurd (omega arith)
dot_one (x ∷ []) h = by_bool (eqb x 46) (λ e. rw e) (λ e. rw e)
dot_one (x ∷ y ∷ n) h = absurd (omega arith)

pub dot_two : (n : List ℕ) → length n ≡ 2 → get_or n 0 0 ≡ 46 → eqb (get_or n 1 0) 46 ≡ is_dot_name n
unfolding is_dot_name same_list
dot_two [] h f = absurd (omega arith)
dot_two (x ∷ []) h f = absurd (omega arith)
dot_two (x ∷ y ∷ []) h f = rw f (by_bool (eqb y 46) (λ e. rw e) (λ e. rw e))
dot_two (x ∷ y ∷ z ∷ n) h f = absurd (omega arith)

pub dot_first : (n : List ℕ) → (get_or n 0 0 ≡ 46 → ⊥) → false ≡ is_dot_name n
unfolding is_dot_name same_list
dot_first [] f = refl
dot_first (x ∷ n) f = rw (ne_eqb x 46 f)

pub dot_other : (n : List ℕ) → (length n ≡ 1 → ⊥) → (length n ≡ 2 → ⊥) → false ≡ is_dot_name n
unfolding is_dot_name same_list
dot_other [] g h = refl
dot_other (x ∷ []) g h = absurd (g refl)
dot_other (x ∷ y ∷ []) g h = absurd (h refl)
dot_other (x ∷ y ∷ z ∷ n) g h = by_bool (eqb x 46) (λ e. rw e (by_bool (eqb y 46) (λ d. rw d) (λ d. rw d))) (λ e. rw e)

-- a name that a file may be given: f is what `is_name` answered, g what `is_dot_name` answered
module _ (n : List ℕ) (f : Bool) (a : f ≡ name_ok n) where
  pub given_bad : not f ≡ true → false ≡ new_name_ok n
  unfolding new_name_ok
  given_bad y = rw (← a, not-true f y)

  pub given_is : not f ≡ false → (g : Bool) → g ≡ is_dot_name n → not g ≡ new_name_ok n
  unfolding new_name_ok
  given_is y g b = rw (← a, not-false f y, b)
