-- Laws of values laid into a list, by induction on their count: turn by turn, in two parts, element by element, and as a part of the list.
use Rattle.model.proofs.Prelude.{ℕ, zero, suc, ◌+◌, ◌≤◌, ◌<◌, ◌≡◌, refl, ◌∙◌, ap, List, [], ◌∷◌, ◌++◌, arith, add-zero, zero-add, length, set, take, drop, get_or, length-set, get_or-set_same, get_or-set_other}
use Rattle.model.specs.Lists.{values_from}
use Rattle.contents.specs.Laid.{laid}

-- the same values, numbered from x on or from y on
pub laid_same : (f g : ℕ → ℕ) (n : ℕ) (l : List ℕ) (i x y : ℕ) → ((k : ℕ) → k < n → f (x + k) ≡ g (y + k)) → laid l i f x n ≡ laid l i g y n
unfolding laid
laid_same f g zero l i x y h = refl
laid_same f g (suc n) l i x y h =
    let e : f x ≡ g y = rw (add-zero x, add-zero y) at (h 0 (omega arith)) in
    rw e (laid_same f g n (set l i (g y)) (i + 1) (x + 1) (y + 1) later)
  where
    later : (k : ℕ) → k < n → f (x + 1 + k) ≡ g (y + 1 + k)
    later k p =
        let a : x + 1 + k ≡ x + (k + 1) = omega arith in
        let b : y + 1 + k ≡ y + (k + 1) = omega arith in rw (a, b) (h (k + 1) (omega arith))

-- a values, and b values behind them
pub laid_both : (f : ℕ → ℕ) (a b : ℕ) (l : List ℕ) (i x : ℕ) → laid (laid l i f x a) (i + a) f (x + a) b ≡ laid l i f x (a + b)
unfolding laid
laid_both f zero b l i x = rw (add-zero i, add-zero x, zero-add b)
laid_both f (suc a) b l i x =
    let p : i + suc a ≡ i + 1 + a = omega arith in
    let q : x + suc a ≡ x + 1 + a = omega arith in
    let r : suc a + b ≡ suc (a + b) = omega arith in rw (p, q, r) (laid_both f a b (set l i (f x)) (i + 1) (x + 1))

-- What stands in the list afterwards, at index k: a value that was laid there, or what stood there before.

pub laid_length : (f : ℕ → ℕ) (n : ℕ) (l : List ℕ) (i x : ℕ) → length (laid l i f x n) ≡ length l
unfolding laid
laid_length f zero l i x = refl
laid_length f (suc n) l i x = laid_length f n (set l i (f x)) (i + 1) (x + 1) ∙ length-set l i (f x)

pub laid_beside : (f : ℕ → ℕ) (n : ℕ) (l : List ℕ) (i x k : ℕ) → (i ≤ k → k < i + n → ⊥) → get_or (laid l i f x n) k 0 ≡ get_or l k 0
unfolding laid
laid_beside f zero l i x k h = refl
laid_beside f (suc n) l i x k h =
    laid_beside f n (set l i (f x)) (i + 1) (x + 1) k (λ a b. h (omega arith) (omega arith))
    ∙ get_or-set_other l i k (f x) 0 (λ e. h (omega arith) (omega arith))

pub laid_at : (f : ℕ → ℕ) (n : ℕ) (l : List ℕ) (i x k : ℕ) → i + n ≤ length l → k < n → get_or (laid l i f x n) (i + k) 0 ≡ f (x + k)
unfolding laid
laid_at f zero l i x k h g = absurd (omega arith)
laid_at f (suc n) l i x zero h g =
    rw (add-zero i, add-zero x) (laid_beside f n (set l i (f x)) (i + 1) (x + 1) i (λ a b. omega arith) ∙ get_or-set_same l i (f x) 0 (omega arith))
laid_at f (suc n) l i x (suc k) h g =
    let p : i + suc k ≡ i + 1 + k = omega arith in
    let q : x + suc k ≡ x + 1 + k = omega arith in
    rw (p, q) (laid_at f n (set l i (f x)) (i + 1) (x + 1) k (rw length-set (omega arith)) (omega arith))

-- the same of values laid from the list's start on; l' is the list afterwards
pub laid_front : (f : ℕ → ℕ) (n : ℕ) (l l' : List ℕ) (x k : ℕ) → l' ≡ laid l 0 f x n → n ≤ length l → k < n → get_or l' k 0 ≡ f (x + k)
laid_front f n l l' x k e h g = ap (λ (r : List ℕ). get_or r k 0) e ∙ (rw (zero-add k) at (laid_at f n l 0 x k (omega arith) g))

-- behind the first element
laid_behind : (f : ℕ → ℕ) (n y : ℕ) (l : List ℕ) (i x : ℕ) → laid (y ∷ l) (suc i) f x n ≡ y ∷ laid l i f x n
unfolding laid
laid_behind f zero y l i x = refl
laid_behind f (suc n) y l i x = let e : suc i + 1 ≡ suc (i + 1) = omega arith in rw e (laid_behind f n y (set l i (f x)) (i + 1) (x + 1))

-- from the list's start on: the values, and the rest of the list
pub laid_first : (f : ℕ → ℕ) (n : ℕ) (l : List ℕ) (x : ℕ) → n ≤ length l → laid l 0 f x n ≡ values_from f x n ++ drop n l
unfolding laid values_from
laid_first f zero l x h = refl
laid_first f (suc n) [] x h = absurd (omega arith)
laid_first f (suc n) (y ∷ l) x h =
    laid_behind f n (f x) l 0 (x + 1) ∙ ap (λ (r : List ℕ). f x ∷ r) (laid_first f n l (x + 1) (omega arith))

-- the values laid over a part of the list, from index i on
pub laid_part : (f : ℕ → ℕ) (n : ℕ) (l : List ℕ) (i x : ℕ) → i + n ≤ length l
    → laid l i f x n ≡ take i l ++ (values_from f x n ++ drop n (drop i l))
laid_part f n l zero x h = laid_first f n l x (omega arith)
laid_part f n [] (suc i) x h = absurd (omega arith)
laid_part f n (y ∷ l) (suc i) x h = laid_behind f n y l i x ∙ ap (λ (r : List ℕ). y ∷ r) (laid_part f n l i x (omega arith))

-- A loop that lays one value each turn: of n values from f x on k are left to lay behind the next, and z is what comes of it.
pub laid_next : (f : ℕ → ℕ) (l : List ℕ) (i j n k : ℕ) (z : List ℕ) → laid l i f i n ≡ z → k + 1 ≡ n → j ≡ i + 1
    → laid (set l i (f i)) j f j k ≡ z
unfolding laid
laid_next f l i j zero k z a h e = absurd (omega arith)
laid_next f l i j (suc n) k z a h e = let q : k ≡ n = omega arith in rw (q, e) a

pub laid_end : (f : ℕ → ℕ) (l : List ℕ) (i x n : ℕ) (z : List ℕ) → laid l i f x n ≡ z → n ≤ 0 → l ≡ z
unfolding laid
laid_end f l i x zero z a h = a
laid_end f l i x (suc n) z a h = absurd (omega arith)
