-- Laws of tests: case splits by a Boolean, and the parts of a test that is made of others. Each is a split on the tests' values.
use Rattle.model.proofs.Prelude.{◌≡◌, refl, sym, ◌∙◌, ℕ, ◌≤◌, ◌<◌, Bool, true, false, cond, ◌&&◌, not, ◌||◌, ◌⊎◌, inl, inr, Option, none, some, arith, leb, ltb, eqb, eqb-true, eqb-false, ltb-true, ltb-false, lt-ltb, le-ltb, le-leb, lt-leb, eq-eqb, ne_eqb}
use Rattle.model.specs.Lists.{bit, is_some}

module _ {X : Type 0} where
  pub by_bool : (b : Bool) → (b ≡ true → X) → (b ≡ false → X) → X
  by_bool true f g = f refl
  by_bool false f g = g refl

  -- a number is another or not
  pub by_eq : (a b : ℕ) → (a ≡ b → X) → ((a ≡ b → ⊥) → X) → X
  by_eq a b f g = by_bool (eqb a b) (λ e. f (eqb-true a b e)) (λ e. g (eqb-false a b e))

  -- a number is below another or not
  pub by_lt : (a b : ℕ) → (a < b → X) → (b ≤ a → X) → X
  by_lt a b f g = by_bool (ltb a b) (λ e. f (ltb-true a b e)) (λ e. g (ltb-false a b e))

  pub no : false ≡ true → X
  no e = let z : ◌≡◌ {A = ℕ} 0 1 = cc in absurd (omega arith)

  pub clash : (b : Bool) → b ≡ true → b ≡ false → X
  clash b e f = no (sym f ∙ e)

pub not_true_false : (b : Bool) → (b ≡ true → ⊥) → b ≡ false
not_true_false true h = absurd (h refl)
not_true_false false h = refl

-- two tests that hold together are the same
pub same_test : (a b : Bool) → (a ≡ true → b ≡ true) → (b ≡ true → a ≡ true) → a ≡ b
same_test true b f g = sym (f refl)
same_test false true f g = g refl
same_test false false f g = refl

-- The parts of a conjunction: `search ands`.
pub and_left : (a b : Bool) → a && b ≡ true → a ≡ true
and_left true b e = refl
and_left false b e = e

pub and_right : (a b : Bool) → a && b ≡ true → b ≡ true
and_right true b e = e
and_right false b e = no e

pub ruleset ands = (and_left, and_right)

pub or_false : (a b : Bool) → a || b ≡ false → (a ≡ false) × (b ≡ false)
or_false true b e = no (sym e)
or_false false b e = (refl, e)

-- tests written as a condition
pub cond_and : (a b : Bool) → cond a b false ≡ true → (a ≡ true) × (b ≡ true)
cond_and true b e = (refl, e)
cond_and false b e = no e

pub cond_or : (a b : Bool) → cond a true b ≡ true → (a ≡ true) ⊎ (b ≡ true)
cond_or true b e = inl refl
cond_or false b e = inr e

pub cond_neither : (a b : Bool) → cond a true b ≡ false → (a ≡ false) × (b ≡ false)
cond_neither true b e = no (sym e)
cond_neither false b e = (refl, e)

pub cond_not : (a b : Bool) → cond a false b ≡ true → (a ≡ false) × (b ≡ true)
cond_not true b e = no e
cond_not false b e = (refl, e)

-- a number of a range
abbrev pub within : ℕ → ℕ → ℕ → Bool
within a b i = leb a i && ltb i b

pub inside : (a b i : ℕ) → a ≤ i → i < b → within a b i ≡ true
inside a b i h g = rw (le-leb a i h, lt-ltb i b g)

pub outside : (a b i : ℕ) → (a ≤ i → i < b → ⊥) → within a b i ≡ false
outside a b i h =
    by_lt i a (λ l. rw (lt-leb a i l)) (λ l. rw (le-leb a i l, le-ltb i b (by_lt i b (λ g. absurd (h l g)) (λ g. g))))

module _ {X : Type 0} where
  pub by_range : (a b i : ℕ) → (within a b i ≡ true → a ≤ i → i < b → X) → (within a b i ≡ false → (a ≤ i → i < b → ⊥) → X) → X
  by_range a b i f g =
      by_lt i a (λ l. g (outside a b i (λ p q. omega arith)) (λ p q. omega arith))
      (λ l. by_lt i b (λ h. f (inside a b i l h) l h) (λ h. g (outside a b i (λ p q. omega arith)) (λ p q. omega arith)))

-- the count of a test
pub bit_le : (b : Bool) → bit b ≤ 1
unfolding bit
bit_le true = omega arith
bit_le false = omega arith

pub bit_same : (a b : ℕ) → a ≡ b → bit (eqb a b) ≡ 1
unfolding bit
bit_same a b e = rw (eq-eqb a b e)

pub bit_other : (a b : ℕ) → (a ≡ b → ⊥) → bit (eqb a b) ≡ 0
unfolding bit
bit_other a b e = rw (ne_eqb a b e)

pub not_not : (b : Bool) → not (not b) ≡ b
not_not true = refl
not_not false = refl

-- what may be missing
module _ {A : Type 0} where
  pub not_some : {X : Type 0} (a : A) → none ≡ some a → X
  not_some a e = let z : ◌≡◌ {A = ℕ} 0 1 = cc in absurd (omega arith)

  pub cond_some : (b : Bool) (o : Option A) (a : A) → cond b o none ≡ some a → (b ≡ true) × (o ≡ some a)
  cond_some true o a e = (refl, e)
  cond_some false o a e = not_some a e

  pub some_is : (o : Option A) → is_some o ≡ true → (a : A) × (o ≡ some a)
  some_is none e = no e
  some_is (some a) e = (a, refl)
