-- The cases of carry out: each test of the code is one of the definition's, since a volume of P pages has 64 P words.
use Rattle.model.proofs.Prelude.{ℕ, ◌*◌, ◌/◌, ◌%◌, ◌≤◌, ◌<◌, ◌≡◌, refl, sym, ◌∙◌, Bool, true, false, not, ◌&&◌, List, [], ◌∷◌, none, arith, lt-ltb, le-ltb, eq-eqb, ne_eqb, not-true, not-false, length, take}
use Rattle.model.specs.Words.{word}
use Rattle.model.specs.Stores.{carried}
use Rattle.model.specs.Answer.{refused, done, first_refusal, no_volume, bad_list}
use Rattle.model.specs.Public.{is_volume, pairs_ok, ends_in_fence, list_checks, carry_out, carry_answer, carry_volume}
use Rattle.model.proofs.Tests.{by_bool, and_left, and_right}
use Rattle.model.proofs.Crash.Landing.{volume_parts}
use Rattle.answer.specs.Meaning.{plain}

-- The tests of the part of a list that is looked at, its first n words, for the bytes v.

abbrev good_pairs : List ℕ → List ℕ → ℕ → Bool
good_pairs v l n = pairs_ok (length v / 8) (take n l)

abbrev fenced : List ℕ → ℕ → Bool
fenced l n = ends_in_fence (take n l)

-- g is what `list_ok` answered; w are the bytes v, lent once more
pub good_pairs_lem : (v w l : List ℕ) (n : ℕ) (g : Bool) → g ≡ good_pairs v l n && fenced l n → not g ≡ false → w ≡ v
    → good_pairs w l n ≡ true
good_pairs_lem v w l n g p y e = rw e (and_left (good_pairs v l n) (fenced l n) (sym p ∙ not-false g y))

module _ (v l : List ℕ) (n : ℕ) where
  -- What carry out comes to gives the answer and the bytes.

  pub carry_refused : (k : ℕ) → refused k ≡ carry_out v l n → (refused k ≡ plain (carry_answer v l n)) × (v ≡ carry_volume v l n)
  unfolding carry_answer carry_volume
  carry_refused k e = (rw (← e), rw (← e))

  pub carry_done : (w : List ℕ) → done w ≡ carry_out v l n → (done none ≡ plain (carry_answer v l n)) × (w ≡ carry_volume v l n)
  unfolding carry_answer carry_volume
  carry_done w e = (rw (← e), rw (← e))

  -- f is what `is_volume` answered.

  module _ (f : Bool) (a : f ≡ is_volume (length v) (word v)) where
    pub no_volume_lem : not f ≡ true → refused no_volume ≡ carry_out v l n
    unfolding carry_out
    no_volume_lem h = rw (← a, not-true f h)

    module _ (h : not f ≡ false) where
      is : is_volume (length v) (word v) ≡ true
      is = sym a ∙ not-false f h

      pub odd_count : (n % 2 ≡ 0 → ⊥) → refused bad_list ≡ carry_out v l n
      unfolding carry_out list_checks
      odd_count o = rw (is, ne_eqb (n % 2) 0 o)

      module _ (e : n % 2 ≡ 0) where
        pub long_count : length l < n → refused bad_list ≡ carry_out v l n
        unfolding carry_out list_checks
        long_count s = rw (is, eq-eqb (n % 2) 0 e, lt-ltb (length l) n s)

        module _ (s : n ≤ length l) where
          word_count : 64 * word v 0 ≡ length v / 8
          word_count = let p = (volume_parts (length v) (word v) is).bytes in omega arith

          tests_left : carry_out v l n
              ≡ first_refusal ((not (good_pairs v l n), bad_list) ∷ (not (fenced l n), bad_list) ∷ []) (done (carried v (take n l)))
          unfolding carry_out list_checks
          tests_left = rw (is, eq-eqb (n % 2) 0 e, le-ltb (length l) n s, word_count)

          -- g is what `list_ok` answered
          module _ (g : Bool) (p : g ≡ good_pairs v l n && fenced l n) where
            pub bad_list_lem : not g ≡ true → refused bad_list ≡ carry_out v l n
            bad_list_lem y =
                let q : good_pairs v l n && fenced l n ≡ false = sym p ∙ not-true g y in
                sym (tests_left ∙ by_bool (good_pairs v l n) (λ t. let f : fenced l n ≡ false = rw t at q in rw (t, f)) (λ t. rw t))

            pub good_list : not g ≡ false → (w : List ℕ) → w ≡ carried v (take n l) → done w ≡ carry_out v l n
            good_list y w c =
                let f = and_right (good_pairs v l n) (fenced l n) (sym p ∙ not-false g y) in
                sym (tests_left ∙ rw (good_pairs_lem v v l n g p y refl, f, c))
