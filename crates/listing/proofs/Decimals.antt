-- Numbers in decimal: the digits of x are those of x / 10 and then the last one, since 20 digits hold every number of 64 bits.
use Rattle.model.proofs.Prelude.{ℕ, zero, suc, ◌+◌, ◌/◌, ◌%◌, ◌^◌, ◌≤◌, ◌<◌, ◌≡◌, refl, sym, ◌∙◌, ap, List, [], ◌∷◌, ◌++◌, append_assoc, arith, lt-ltb, le-ltb, length}
use Rattle.model.specs.Listing.{digits, decimal}
use Rattle.model.proofs.Tests.{by_lt}

-- the text behind a number's digits stays behind them
digits_before : (n x : ℕ) (r : List ℕ) → digits n x r ≡ digits n x [] ++ r
unfolding digits
digits_before zero x r = refl
digits_before (suc n) x r =
    by_lt x 10 (λ h. rw (lt-ltb x 10 h))
    (λ h.
    let d = 48 + x % 10 in
    rw (le-ltb x 10 h, digits_before n (x / 10) (d ∷ r), digits_before n (x / 10) (d ∷ []), append_assoc))

-- one digit more changes nothing where the number has no more
digits_more : (n x : ℕ) (r : List ℕ) → x < 10 ^ suc n → digits (suc (suc n)) x r ≡ digits (suc n) x r
unfolding digits
digits_more zero x r h = rw (lt-ltb x 10 (omega arith))
digits_more (suc n) x r h =
    by_lt x 10 (λ l. rw (lt-ltb x 10 l)) (λ l. rw (le-ltb x 10 l) (digits_more n (x / 10) ((48 + x % 10) ∷ r) (omega arith)))

-- the last digit of a number that has more than one
digits_last : (n x : ℕ) → 10 ≤ x → x < 10 ^ suc (suc n) → digits (suc (suc n)) x [] ≡ digits (suc (suc n)) (x / 10) [] ++ (48 + x % 10) ∷ []
unfolding digits
digits_last n x h l =
    let d = 48 + x % 10 in
    let s : digits (suc (suc n)) x [] ≡ digits (suc n) (x / 10) (d ∷ []) = rw (le-ltb x 10 h) in
    let m : digits (suc (suc n)) (x / 10) [] ≡ digits (suc n) (x / 10) [] = digits_more n (x / 10) [] (omega arith) in
    s ∙ digits_before (suc n) (x / 10) (d ∷ []) ∙ ap (λ (k : List ℕ). k ++ d ∷ []) (sym m)

module _ (x : ℕ) where
  pub decimal_one : x < 10 → decimal x ≡ (48 + x % 10) ∷ []
  unfolding decimal digits
  decimal_one h = rw (lt-ltb x 10 h)

  pub decimal_more : 10 ≤ x → x < 2 ^ 64 → decimal x ≡ decimal (x / 10) ++ (48 + x % 10) ∷ []
  unfolding decimal
  decimal_more h l = digits_last 18 x h (omega arith)

-- a number below 10 ^ n has at most n digits
digits_length : (n k x : ℕ) (r : List ℕ) → x < 10 ^ suc k → length (digits n x r) ≤ suc k + length r
unfolding digits
digits_length zero k x r h = omega arith
digits_length (suc n) zero x r h = rw (lt-ltb x 10 (omega arith)) (omega arith)
digits_length (suc n) (suc k) x r h =
    by_lt x 10 (λ l. rw (lt-ltb x 10 l) (omega arith))
    (λ l. rw (le-ltb x 10 l) (let g = digits_length n k (x / 10) ((48 + x % 10) ∷ r) (omega arith) in omega arith))

pub decimal_length : (k x : ℕ) → x < 10 ^ suc k → length (decimal x) ≤ suc k
unfolding decimal
decimal_length k x h = let l = digits_length 20 k x [] h in omega arith

-- every number is written with at most 20 digits
digits_most : (n x : ℕ) (r : List ℕ) → length (digits n x r) ≤ n + length r
unfolding digits
digits_most zero x r = omega arith
digits_most (suc n) x r =
    by_lt x 10 (λ l. rw (lt-ltb x 10 l) (omega arith))
    (λ l. rw (le-ltb x 10 l) (let g = digits_most n (x / 10) ((48 + x % 10) ∷ r) in omega arith))

pub decimal_most : (x : ℕ) → length (decimal x) ≤ 20
unfolding decimal
decimal_most x = let l = digits_most 20 x [] in omega arith
