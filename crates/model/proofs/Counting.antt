-- Pages that are sought are found where there are so many: the lowest few are as many as hold, and taken pages are fewer by their number.
use Rattle.model.proofs.Prelude.{ℕ, zero, suc, ◌+◌, ◌≤◌, ◌<◌, min, ◌≡◌, refl, ◌∙◌, ap, ap₂, Bool, true, false, not, ◌&&◌, and-true, List, [], ◌∷◌, arith, add-zero, zero-add, length, eqb, ltb, lt-ltb, le-ltb, eq-eqb, ne_eqb}
use Rattle.model.specs.Lists.{bit, sum_below, lowest_few, has, count, distinct}
use Rattle.model.specs.Calls.{besides}
use Rattle.model.proofs.Tests.{by_bool, by_eq, by_lt, bit_le}
use Rattle.model.proofs.Lists.{sum_below_same, sum_below_add, sum_below_once, sum_below_from, distinct_cons, has_head, has_tail}

-- a sum by its first term
sum_first : (n : ℕ) (f : ℕ → ℕ) → sum_below (suc n) f ≡ f 0 + sum_below n (λ i. f (i + 1))
unfolding sum_below
sum_first zero f = refl
sum_first (suc n) f = let r = sum_first n f in let e : suc n ≡ n + 1 = omega arith in let g = ap f e in omega arith

-- how many of the n + 1 numbers from i on hold
pub held_first : (f : ℕ → Bool) (n i : ℕ) → sum_below (suc n) (λ j. bit (f (i + j))) ≡ bit (f i) + sum_below n (λ j. bit (f (i + 1 + j)))
held_first f n i =
    sum_first n (λ j. bit (f (i + j)))
    ∙ ap₂ ◌+◌ (ap (λ x. bit (f x)) (add-zero i)) (sum_below_same n _ _ (λ j l. ap (λ x. bit (f x)) (omega arith)))

-- the lowest n of those that hold are n, or all of them
few_count : (f : ℕ → Bool) (t i n : ℕ) → length (lowest_few f t i n) ≡ min n (sum_below t (λ j. bit (f (i + j))))
unfolding lowest_few sum_below bit
few_count f zero i n = omega arith
few_count f (suc t) i zero = omega arith
few_count f (suc t) i (suc n) =
    let s = held_first f t i in
    by_bool (f i)
    (λ e. let r = few_count f t (i + 1) n in rw (lowest_few, s, e) (omega arith))
    (λ e. let r = few_count f t (i + 1) (suc n) in rw (lowest_few, s, e) (omega arith))

-- so n are lacking exactly where fewer hold
pub few_lacks : (f : ℕ → Bool) (P n : ℕ) → ltb (length (lowest_few f P 0 n)) n ≡ ltb (sum_below P (λ p. bit (f p))) n
few_lacks f P n =
    let s = sum_below P (λ p. bit (f p)) in
    let e : length (lowest_few f P 0 n) ≡ min n s
    = few_count f P 0 n ∙ ap (min n) (sum_below_same P _ _ (λ j l. ap (λ x. bit (f x)) (zero-add j))) in
    by_lt s n (λ h. rw (lt-ltb s n h) (lt-ltb _ n (omega arith))) (λ h. rw (le-ltb s n h) (le-ltb _ n (omega arith)))

-- numbers are counted as often as there are numbers, those from P on left out
pub count_sum : (P : ℕ) (xs : List ℕ) → sum_below P (λ p. count p xs) ≤ length xs
unfolding count bit
count_sum P [] = let z = sum_below_from P P (λ p. 0) (λ i l h. refl) (λ i l h. absurd (omega arith)) in omega arith
count_sum P (x ∷ xs) =
    let r = count_sum P xs in
    let one = (sum_below_once P x true (λ p. bit (eqb p x)) (λ p. bit_le (eqb p x)) (λ p n. ap bit (ne_eqb p x n))).0 in
    let both = sum_below_add P (λ p. count p (x ∷ xs)) (λ p. bit (eqb p x)) (λ p. count p xs) (λ p l. omega arith) in omega arith

-- one page x less
one_less : (g h : ℕ → Bool) (x : ℕ) → g x ≡ true → ((p : ℕ) → h p ≡ (g p && not (eqb p x))) → (P : ℕ)
    → (x < P → sum_below P (λ p. bit (h p)) + 1 ≡ sum_below P (λ p. bit (g p))) × (P ≤ x → sum_below P (λ p. bit (h p)) ≡ sum_below P (λ p. bit (g p)))
unfolding sum_below bit
one_less g h x y e zero = (λ l. absurd (omega arith), λ l. refl)
one_less g h x y e (suc P) =
    let r = one_less g h x y e P in
    let q = e P in
    by_eq P x
    (λ z. let s = r.1 (omega arith) in let a : h P ≡ false = q ∙ rw (z, y, eq-eqb x x refl) in let b : g P ≡ true = rw z y in
    (λ l. rw (a, b) (omega arith), λ l. absurd (omega arith)))
    (λ z. let a : h P ≡ g P = q ∙ rw (ne_eqb P x z) (and-true (g P)) in
    (λ l. let s = r.0 (omega arith) in rw a (omega arith), λ l. let s = r.1 (omega arith) in rw a (omega arith)))

besides_cons : (f : ℕ → Bool) (x : ℕ) (xs : List ℕ) (p : ℕ) → besides f (x ∷ xs) p ≡ (besides f xs p && not (eqb p x))
unfolding besides has
besides_cons f x xs p =
    by_bool (f p) (λ a. by_bool (eqb p x) (λ b. by_bool (has p xs) (λ c. rw (has, a, b, c)) (λ c. rw (has, a, b, c)))
    (λ b. by_bool (has p xs) (λ c. rw (has, a, b, c)) (λ c. rw (has, a, b, c)))) (λ a. rw a)

-- the pages ps less
pub besides_count : (f : ℕ → Bool) (P : ℕ) (ps : List ℕ) → distinct ps ≡ true → ((x : ℕ) → has x ps ≡ true → (f x ≡ true) × (x < P))
    → sum_below P (λ p. bit (besides f ps p)) + length ps ≡ sum_below P (λ p. bit (f p))
unfolding besides has
besides_count f P [] d h = rw (add-zero, sum_below_same P (λ p. bit (f p && true)) (λ p. bit (f p)) (λ i l. ap bit (and-true (f i))))
besides_count f P (x ∷ xs) d h =
    let c = distinct_cons x xs d in
    let r = besides_count f P xs c.1 (λ y m. h y (has_tail y x xs m)) in
    let a = h x (has_head x xs) in
    let one = (one_less (besides f xs) (besides f (x ∷ xs)) x (rw (a.0, c.0)) (besides_cons f x xs) P).0 a.1 in omega arith
