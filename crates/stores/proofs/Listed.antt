-- Laws of a group's text: a range of words in two parts, a range in which nothing is stored, and words that are stored one by one.
use Rattle.model.proofs.Prelude.{ℕ, zero, suc, ◌+◌, ◌-◌, ◌≤◌, ◌<◌, ◌≡◌, refl, ap, ◌∙◌, List, [], ◌∷◌, ◌++◌, Option, none, some, arith, add-zero, zero-add, le_refl}
use Rattle.model.specs.Stores.{Stores, one_word, pair_of, listed}
use Rattle.model.specs.Calls.{Change, targets}
use Rattle.model.proofs.Crash.Stores.{one_here, one_other}
use Rattle.model.proofs.Crash.Journal.{targets_one}

pair_append : (w : ℕ) (o : Option ℕ) (xs ys : List ℕ) → pair_of w o xs ++ ys ≡ pair_of w o (xs ++ ys)
pair_append w none xs ys = refl
pair_append w (some x) xs ys = refl

-- a range in two parts
pub listed_both : (s : Stores) (a b w : ℕ) → listed s (a + b) w ≡ listed s a w ++ listed s b (w + a)
unfolding listed
listed_both s zero b w = rw (zero-add b, add-zero w)
listed_both s (suc a) b w =
    let e : suc a + b ≡ suc (a + b) = omega arith in
    let f : w + suc a ≡ w + 1 + a = omega arith in
    rw (e, f, pair_append w (s w) (listed s a (w + 1)) (listed s b (w + 1 + a))) (ap (pair_of w (s w)) (listed_both s a b (w + 1)))

-- two groups that store the same in the range
pub listed_same : (s t : Stores) (n w : ℕ) → ((i : ℕ) → w ≤ i → i < w + n → s i ≡ t i) → listed s n w ≡ listed t n w
unfolding listed
listed_same s t zero w h = refl
listed_same s t (suc n) w h =
    rw (h w (omega arith) (omega arith), listed_same s t n (w + 1) (λ i g k. h i (omega arith) (omega arith)))

-- nothing is stored in the range
pub listed_none : (s : Stores) (n w : ℕ) → ((i : ℕ) → w ≤ i → i < w + n → s i ≡ none) → listed s n w ≡ []
unfolding listed
listed_none s zero w h = refl
listed_none s (suc n) w h =
    rw (h w (omega arith) (omega arith)) (listed_none s n (w + 1) (λ i g k. h i (omega arith) (omega arith)))

-- word i is stored, none of the range is before it, and t has the stores behind it
pub listed_first : (s t : Stores) (i x n w : ℕ) → w ≤ i → i < w + n → ((j : ℕ) → w ≤ j → j < i → s j ≡ none) → s i ≡ some x
    → ((j : ℕ) → i < j → s j ≡ t j) → listed s n w ≡ i ∷ x ∷ listed t (w + n - (i + 1)) (i + 1)
unfolding listed
listed_first s t i x n w g h before here behind =
    let a = i - w in
    let b = w + n - (i + 1) in
    let e : n ≡ a + suc b = omega arith in
    let f : w + a ≡ i = omega arith in
    ap (λ (k : ℕ). listed s k w) e
    ∙ rw (listed_both s a (suc b) w, f, listed_none s a w (λ j p q. before j p (omega arith)), here, listed_same s t b (i + 1) (λ j p q. behind j (omega arith)))

-- Words stored one by one, in ascending index.

-- the indices ascend, from lo on and below hi
abbrev pub Ascends : ℕ → ℕ → List Change → Type 0
Ascends lo hi [] = Unit {0}
Ascends lo hi (c ∷ cs) = (lo ≤ c.0) × (c.0 < hi) × Ascends (c.0 + 1) hi cs

-- the pairs of index and value, one after the other
abbrev pub flat : List Change → List ℕ
flat [] = []
flat (c ∷ cs) = c.0 ∷ c.1 ∷ flat cs

no_target : (cs : List Change) (lo hi w : ℕ) → Ascends lo hi cs → w < lo → targets cs w ≡ none
unfolding targets
no_target [] lo hi w a h = refl
no_target (c ∷ cs) lo hi w a h =
    let l = a.0 in rw (one_other c.0 c.1 w (omega arith)) (no_target cs (c.0 + 1) hi w a.2 (omega arith))

pub listed_targets : (cs : List Change) (n w : ℕ) → Ascends w (w + n) cs → listed (targets cs) n w ≡ flat cs
unfolding targets
listed_targets [] n w a = listed_none (targets []) n w (λ i g k. refl)
listed_targets (c ∷ cs) n w a =
    let i = c.0 in
    let x = c.1 in
    let g = a.0 in
    let h = a.1 in
    let e : w + n ≡ i + 1 + (w + n - (i + 1)) = omega arith in
    listed_first (targets (c ∷ cs)) (targets cs) i x n w g h
    (λ j p q. no_target (c ∷ cs) i (w + n) j (le_refl i, h, a.2) q)
    (rw (one_here i x))
    (λ j p. rw (one_other i x j (omega arith)))
    ∙ ap (λ (r : List ℕ). i ∷ x ∷ r) (listed_targets cs (w + n - (i + 1)) (i + 1) (rw e at a.2))

-- a group of one word
pub listed_one : (i x n : ℕ) → i < n → listed (one_word i x) n 0 ≡ i ∷ x ∷ []
listed_one i x n h = rw (← targets_one (i, x)) (listed_targets ((i, x) ∷ []) n 0 (omega arith, omega arith, tt))
