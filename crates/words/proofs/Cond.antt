-- Laws by which `search` goes through nested tests: what the code knows of a test gives its value, and the value chooses the side.
-- A definition tests by `cond` and `&&`; in the code each test is an `if` of its own, and x is what the code answers.
use Rattle.model.proofs.Prelude.{ℕ, ◌≤◌, ◌<◌, ◌≡◌, refl, sym, ◌∙◌, Bool, true, false, not, cond, ◌&&◌, leb, ltb, eqb, lt-ltb, le-ltb, le-leb, lt-leb, eq-eqb, ne_eqb, not-true, not-false}

-- The value of a test that a callee made: f is the callee's result, and the code asked `f` (flag) or `!f` (asked).

module _ (t f : Bool) (g : f ≡ t) where
  pub flag_true : f ≡ true → t ≡ true
  flag_true h = sym g ∙ h

  pub flag_false : f ≡ false → t ≡ false
  flag_false h = sym g ∙ h

  pub asked_true : not f ≡ false → t ≡ true
  asked_true h = flag_true (not-false f h)

  pub asked_false : not f ≡ true → t ≡ false
  asked_false h = flag_false (not-true f h)

-- The value of a test of a number that a callee answered: f is the callee's result, in place of the left number (ˡ) or the right (ʳ).

module _ (a b f : ℕ) where
  pub le_lebˡ : f ≡ a → f ≤ b → leb a b ≡ true
  le_lebˡ g h = rw (← g) (le-leb f b h)

  pub lt_lebˡ : f ≡ a → b < f → leb a b ≡ false
  lt_lebˡ g h = rw (← g) (lt-leb f b h)

  pub lt_ltbˡ : f ≡ a → f < b → ltb a b ≡ true
  lt_ltbˡ g h = rw (← g) (lt-ltb f b h)

  pub le_ltbˡ : f ≡ a → b ≤ f → ltb a b ≡ false
  le_ltbˡ g h = rw (← g) (le-ltb f b h)

  pub eq_eqbˡ : f ≡ a → f ≡ b → eqb a b ≡ true
  eq_eqbˡ g h = rw (← g) (eq-eqb f b h)

  pub ne_eqbˡ : f ≡ a → (f ≡ b → ⊥) → eqb a b ≡ false
  ne_eqbˡ g h = rw (← g) (ne_eqb f b h)

  pub le_lebʳ : f ≡ b → a ≤ f → leb a b ≡ true
  le_lebʳ g h = rw (← g) (le-leb a f h)

  pub lt_lebʳ : f ≡ b → f < a → leb a b ≡ false
  lt_lebʳ g h = rw (← g) (lt-leb a f h)

  pub le_ltbʳ : f ≡ b → f ≤ a → ltb a b ≡ false
  le_ltbʳ g h = rw (← g) (le-ltb a f h)

-- A choice by a test that passed (yes) or failed (no). Each law takes the test's facts and not its value: with one law for
-- every value `search` goes too deep at twelve tests. `ltb a b` is `leb (suc a) b`, so that `yes_le` serves it too.

module _ {X : Type 0} (x r s : X) where
  module _ (a b : ℕ) where
    pub yes_le : a ≤ b → x ≡ r → x ≡ cond (leb a b) r s
    yes_le h e = rw (le-leb a b h) e

    pub no_le : b < a → x ≡ s → x ≡ cond (leb a b) r s
    no_le h e = rw (lt-leb a b h) e

    pub no_lt : b ≤ a → x ≡ s → x ≡ cond (ltb a b) r s
    no_lt h e = rw (le-ltb a b h) e

    pub yes_eq : a ≡ b → x ≡ r → x ≡ cond (eqb a b) r s
    yes_eq h e = rw (eq-eqb a b h) e

    pub no_eq : (a ≡ b → ⊥) → x ≡ s → x ≡ cond (eqb a b) r s
    no_eq h e = rw (ne_eqb a b h) e

    module _ (f : ℕ) where
      pub yes_leˡ : f ≡ a → f ≤ b → x ≡ r → x ≡ cond (leb a b) r s
      yes_leˡ g h e = rw (le_lebˡ a b f g h) e

      pub no_leˡ : f ≡ a → b < f → x ≡ s → x ≡ cond (leb a b) r s
      no_leˡ g h e = rw (lt_lebˡ a b f g h) e

      pub yes_ltˡ : f ≡ a → f < b → x ≡ r → x ≡ cond (ltb a b) r s
      yes_ltˡ g h e = rw (lt_ltbˡ a b f g h) e

      pub no_ltˡ : f ≡ a → b ≤ f → x ≡ s → x ≡ cond (ltb a b) r s
      no_ltˡ g h e = rw (le_ltbˡ a b f g h) e

      pub yes_eqˡ : f ≡ a → f ≡ b → x ≡ r → x ≡ cond (eqb a b) r s
      yes_eqˡ g h e = rw (eq_eqbˡ a b f g h) e

      pub no_eqˡ : f ≡ a → (f ≡ b → ⊥) → x ≡ s → x ≡ cond (eqb a b) r s
      no_eqˡ g h e = rw (ne_eqbˡ a b f g h) e

      pub yes_leʳ : f ≡ b → a ≤ f → x ≡ r → x ≡ cond (leb a b) r s
      yes_leʳ g h e = rw (le_lebʳ a b f g h) e

      pub no_leʳ : f ≡ b → f < a → x ≡ s → x ≡ cond (leb a b) r s
      no_leʳ g h e = rw (lt_lebʳ a b f g h) e

      pub no_ltʳ : f ≡ b → f ≤ a → x ≡ s → x ≡ cond (ltb a b) r s
      no_ltʳ g h e = rw (le_ltbʳ a b f g h) e

  module _ (t f : Bool) (g : f ≡ t) where
    pub yes_flag : f ≡ true → x ≡ r → x ≡ cond t r s
    yes_flag h e = rw (flag_true t f g h) e

    pub no_flag : f ≡ false → x ≡ s → x ≡ cond t r s
    no_flag h e = rw (flag_false t f g h) e

    pub yes_not : not f ≡ true → x ≡ r → x ≡ cond (not t) r s
    yes_not h e = rw (asked_false t f g h) e

    pub no_not : not f ≡ false → x ≡ s → x ≡ cond (not t) r s
    no_not h e = rw (asked_true t f g h) e

-- A conjunction, nested to the left or to the right: the last test decides, or a test fails.

module _ (t u : Bool) where
  pub and_last : (x : Bool) → t ≡ true → x ≡ u → x ≡ t && u
  and_last x h e = rw h e

  pub and_stop : t && u ≡ false → false ≡ t && u
  and_stop h = sym h

  pub and-true : t ≡ true → u ≡ true → t && u ≡ true
  and-true h e = rw h e

  pub and_falseˡ : t ≡ false → t && u ≡ false
  and_falseˡ h = rw h

pub and_falseʳ : (t u : Bool) → u ≡ false → t && u ≡ false
and_falseʳ true u h = h
and_falseʳ false u h = refl

pub not_is_true : (t : Bool) → t ≡ false → not t ≡ true
not_is_true t h = rw h

pub not_is_false : (t : Bool) → t ≡ true → not t ≡ false
not_is_false t h = rw h

-- nested `cond`s: `search conds`
pub ruleset conds = (yes_le, no_le, no_lt, yes_eq, no_eq, yes_flag, no_flag, yes_not, no_not, not-true, not-false)

-- the same with tests of numbers that callees answered
pub ruleset conds' = (conds, yes_leˡ, no_leˡ, yes_ltˡ, no_ltˡ, yes_eqˡ, no_eqˡ, yes_leʳ, no_leʳ, no_ltʳ)

-- a chain of `&&`: `search ands`
pub ruleset ands = (and_last, and_stop, and-true, and_falseˡ, and_falseʳ, not_is_true, not_is_false, le-leb, lt-leb, lt-ltb, le-ltb, eq-eqb, ne_eqb, flag_true, flag_false, asked_true, asked_false)

-- the same with tests of numbers that callees answered
pub ruleset ands' = (ands, le_lebˡ, lt_lebˡ, lt_ltbˡ, le_ltbˡ, eq_eqbˡ, ne_eqbˡ, le_lebʳ, lt_lebʳ, le_ltbʳ)
