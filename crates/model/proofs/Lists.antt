-- Laws of the bounded tests, sums and searches of specs/Lists, and of elements of lists. By induction on the bound or the list.
use Rattle.model.proofs.Prelude.{◌≡◌, refl, sym, ◌∙◌, ap, ◌⊎◌, inl, inr, ⊎_elim, ⊎_map, subst, ℕ, zero, suc, ◌+◌, ◌-◌, ◌≤◌, ◌<◌, Bool, true, false, List, [], ◌∷◌, ◌++◌, map, some, arith, add-zero, add-one, length, get_or, take, drop, replicate, get_or-append, get_or-append-add, eqb, eq-eqb, ne_eqb, eqb-true, eqb-false}
use Rattle.model.specs.Lists.{bit, all_below, sum_below, values_from, lowest, lowest_few, all, filter, foldl, has, count, index_of, distinct, same_list}
use Rattle.model.proofs.Tests.{by_bool, by_eq, by_lt, no, not_some, cond_and, cond_or, cond_not, cond_neither, same_test, bit_other, bit_same}

-- Tests and sums below a bound.

pub all_below_at : (n i : ℕ) (f : ℕ → Bool) → all_below n f ≡ true → i < n → f i ≡ true
unfolding all_below
all_below_at zero i f e h = absurd (omega arith)
all_below_at (suc n) i f e h =
    let c = cond_and (f n) (all_below n f) e in by_eq i n (λ q. rw q c.0) (λ q. all_below_at n i f c.1 (omega arith))

pub all_below_by : (n : ℕ) (f : ℕ → Bool) → ((i : ℕ) → i < n → f i ≡ true) → all_below n f ≡ true
unfolding all_below
all_below_by zero f h = refl
all_below_by (suc n) f h = rw (h n (omega arith)) (all_below_by n f (λ i l. h i (omega arith)))

pub all_below_same : (n : ℕ) (f g : ℕ → Bool) → ((i : ℕ) → i < n → f i ≡ g i) → all_below n f ≡ all_below n g
unfolding all_below
all_below_same zero f g h = refl
all_below_same (suc n) f g h = rw (h n (omega arith), all_below_same n f g (λ i l. h i (omega arith)))

pub sum_below_same : (n : ℕ) (f g : ℕ → ℕ) → ((i : ℕ) → i < n → f i ≡ g i) → sum_below n f ≡ sum_below n g
unfolding sum_below
sum_below_same zero f g h = refl
sum_below_same (suc n) f g h = rw (h n (omega arith), sum_below_same n f g (λ i l. h i (omega arith)))

pub sum_below_le : (n : ℕ) (f g : ℕ → ℕ) → ((i : ℕ) → i < n → f i ≤ g i) → sum_below n f ≤ sum_below n g
unfolding sum_below
sum_below_le zero f g l = omega arith
sum_below_le (suc n) f g l = let a = l n (omega arith) in let b = sum_below_le n f g (λ i k. l i (omega arith)) in omega arith

pub sum_below_add : (n : ℕ) (f g h : ℕ → ℕ) → ((i : ℕ) → i < n → f i ≤ g i + h i) → sum_below n f ≤ sum_below n g + sum_below n h
unfolding sum_below
sum_below_add zero f g h l = omega arith
sum_below_add (suc n) f g h l =
    let a = l n (omega arith) in let b = sum_below_add n f g h (λ i k. l i (omega arith)) in omega arith

-- one summand, two summands
pub sum_below_one : (n i : ℕ) (f : ℕ → ℕ) → i < n → f i ≤ sum_below n f
unfolding sum_below
sum_below_one zero i f h = absurd (omega arith)
sum_below_one (suc n) i f h =
    by_eq i n (λ q. rw q (omega arith)) (λ q. let r = sum_below_one n i f (omega arith) in omega arith)

pub sum_below_two : (n i j : ℕ) (f : ℕ → ℕ) → i < n → j < n → (i ≡ j → ⊥) → f i + f j ≤ sum_below n f
unfolding sum_below
sum_below_two zero i j f h k d = absurd (omega arith)
sum_below_two (suc n) i j f h k d =
    by_eq i n (λ q. let r = sum_below_one n j f (omega arith) in rw q (omega arith))
    (λ p. by_eq j n (λ q. let r = sum_below_one n i f (omega arith) in rw q (omega arith))
    (λ q. let r = sum_below_two n i j f (omega arith) (omega arith) d in omega arith))

-- a sum of which at most the summand at k is not 0, and that only where b holds
pub sum_below_once : (n k : ℕ) (b : Bool) (f : ℕ → ℕ) → ((i : ℕ) → f i ≤ bit b) → ((i : ℕ) → (i ≡ k → ⊥) → f i ≡ 0)
    → (sum_below n f ≤ bit b) × (n ≤ k → sum_below n f ≡ 0)
unfolding sum_below
sum_below_once zero k b f h z = (omega arith, λ l. refl)
sum_below_once (suc n) k b f h z =
    let r = sum_below_once n k b f h z in
    by_eq n k (λ e. let a = h n in let c = r.1 (omega arith) in (omega arith, λ l. omega arith))
    (λ e. let a = z n e in let d = r.0 in (omega arith, λ l. let c = r.1 (omega arith) in omega arith))

-- a sum of which the first a summands are 0 and the others 1
pub sum_below_from : (n a : ℕ) (f : ℕ → ℕ) → ((i : ℕ) → i < n → i < a → f i ≡ 0) → ((i : ℕ) → i < n → a ≤ i → f i ≡ 1) → sum_below n f ≡ n - a
unfolding sum_below
sum_below_from zero a f z o = omega arith
sum_below_from (suc n) a f z o =
    let r = sum_below_from n a f (λ i l h. z i (omega arith) h) (λ i l h. o i (omega arith) h) in
    by_lt n a (λ h. let e = z n (omega arith) h in omega arith) (λ h. let e = o n (omega arith) h in omega arith)

-- Values.

pub length_values : (f : ℕ → ℕ) (x n : ℕ) → length (values_from f x n) ≡ n
unfolding values_from
length_values f x zero = refl
length_values f x (suc n) = ap suc (length_values f (x + 1) n)

pub values_at : (f : ℕ → ℕ) (x n i : ℕ) → i < n → get_or (values_from f x n) i 0 ≡ f (x + i)
unfolding values_from
values_at f x zero i h = absurd (omega arith)
values_at f x (suc n) zero h = rw add-zero
values_at f x (suc n) (suc i) h =
    let e : x + suc i ≡ x + 1 + i = omega arith in rw e (values_at f (x + 1) n i (omega arith))

pub values_same : (f g : ℕ → ℕ) (x n : ℕ) → ((i : ℕ) → x ≤ i → i < x + n → f i ≡ g i) → values_from f x n ≡ values_from g x n
unfolding values_from
values_same f g x zero h = refl
values_same f g x (suc n) h =
    rw (h x (omega arith) (omega arith), values_same f g (x + 1) n (λ i a b. h i (omega arith) (omega arith)))

-- Searches.

pub record Lowest (f : ℕ → Bool) (n i k : ℕ) : Type 0 where
  pub holds : f k ≡ true
  pub from : i ≤ k
  pub below : k < i + n

pub lowest_is : (f : ℕ → Bool) (n i k : ℕ) → lowest f n i ≡ some k → Lowest f n i k
unfolding lowest
lowest_is f zero i k e = not_some k e
lowest_is f (suc n) i k e =
    by_bool (f i)
    (λ t. let z : some i ≡ some k = rw (lowest, t) at e in let q : i ≡ k = cc in record { holds = rw (← q) t; from = omega arith; below = omega arith })
    (λ t. let r = lowest_is f n (i + 1) k (rw (lowest, t) at e) in
    record { holds = r.holds; from = omega (arith, r.from); below = omega (arith, r.below) })

pub lowest_same : (f g : ℕ → Bool) (n i : ℕ) → ((k : ℕ) → i ≤ k → k < i + n → f k ≡ g k) → lowest f n i ≡ lowest g n i
unfolding lowest
lowest_same f g zero i h = refl
lowest_same f g (suc n) i h =
    rw (h i (omega arith) (omega arith), lowest_same f g n (i + 1) (λ k a b. h k (omega arith) (omega arith)))

-- Membership.

pub has_head : (p : ℕ) (ps : List ℕ) → has p (p ∷ ps) ≡ true
unfolding has
has_head p ps = rw (has, eq-eqb p p refl)

pub has_tail : (x p : ℕ) (ps : List ℕ) → has x ps ≡ true → has x (p ∷ ps) ≡ true
unfolding has
has_tail x p ps h = by_bool (eqb x p) (λ e. rw (has, e)) (λ e. rw (has, e) h)

pub has_cons : (x p : ℕ) (ps : List ℕ) → has x (p ∷ ps) ≡ true → (x ≡ p) ⊎ (has x ps ≡ true)
unfolding has
has_cons x p ps h = ⊎_map (eqb-true x p) (λ k. k) (cond_or (eqb x p) (has x ps) h)

pub has_append : (x : ℕ) (xs ys : List ℕ) → has x (xs ++ ys) ≡ true → (has x xs ≡ true) ⊎ (has x ys ≡ true)
has_append x [] ys h = inr h
has_append x (y ∷ xs) ys h =
    ⊎_elim (λ e. inl (rw e (has_head y xs))) (λ k. ⊎_map (has_tail x y xs) (λ i. i) (has_append x xs ys k)) (has_cons x y (xs ++ ys) h)

pub has_get_or : (ps : List ℕ) (j : ℕ) → j < length ps → has (get_or ps j 0) ps ≡ true
has_get_or [] j h = absurd (omega arith)
has_get_or (p ∷ ps) zero h = has_head p ps
has_get_or (p ∷ ps) (suc j) h = has_tail (get_or ps j 0) p ps (has_get_or ps j (omega arith))

-- a list that begins with x has it
pub has_front : (x y : ℕ) (ys : List ℕ) → x ≡ y → has x (y ∷ ys) ≡ true
has_front x y ys e = subst (λ t. has t (y ∷ ys) ≡ true) (sym e) (has_head y ys)

pub has_left : (x : ℕ) (xs ys : List ℕ) → has x xs ≡ true → has x (xs ++ ys) ≡ true
unfolding has
has_left x [] ys h = no h
has_left x (y ∷ xs) ys h =
    ⊎_elim (has_front x y (xs ++ ys)) (λ g. has_tail x y (xs ++ ys) (has_left x xs ys g)) (has_cons x y xs h)

pub has_right : (x : ℕ) (xs ys : List ℕ) → has x ys ≡ true → has x (xs ++ ys) ≡ true
has_right x [] ys h = h
has_right x (y ∷ xs) ys h = has_tail x y (xs ++ ys) (has_right x xs ys h)

pub values_has : (f : ℕ → ℕ) (x n i : ℕ) → x ≤ i → i < x + n → has (f i) (values_from f x n) ≡ true
values_has f x n i a b =
    let e : x + (i - x) ≡ i = omega arith in
    rw (values_at f x n (i - x) (omega arith), e) at (has_get_or (values_from f x n) (i - x) (rw length_values (omega arith)))

-- Counts.

pub count_append : (x : ℕ) (xs ys : List ℕ) → count x (xs ++ ys) ≡ count x xs + count x ys
unfolding count
count_append x [] ys = omega arith
count_append x (y ∷ xs) ys = let r = count_append x xs ys in omega arith

pub count_one : (x y : ℕ) → count x (y ∷ []) ≡ bit (eqb x y)
unfolding count
count_one x y = omega arith

pub has_count : (x : ℕ) (ps : List ℕ) → has x ps ≡ true → 1 ≤ count x ps
unfolding has count bit
has_count x [] h = no h
has_count x (p ∷ ps) h =
    by_bool (eqb x p) (λ e. rw (count, e) (omega arith)) (λ e. let r = has_count x ps (rw (has, e) at h) in rw (count, e) (omega arith))

pub count_has : (x : ℕ) (ps : List ℕ) → 1 ≤ count x ps → has x ps ≡ true
unfolding has count
count_has x [] h = absurd (omega arith)
count_has x (p ∷ ps) h =
    by_bool (eqb x p) (λ e. rw (has, e)) (λ e. let b = bit_other x p (eqb-false x p e) in rw (has, e) (count_has x ps (omega arith)))

pub count_none : (x : ℕ) (ps : List ℕ) → has x ps ≡ false → count x ps ≡ 0
unfolding has count bit
count_none x [] h = refl
count_none x (p ∷ ps) h = let c = cond_neither (eqb x p) (has x ps) h in rw (count, c.0) (rw (count_none x ps c.1))

-- Places in a list.

pub index_none : (x : ℕ) (ys : List ℕ) → has x ys ≡ false → index_of x ys ≡ length ys
unfolding has index_of
index_none x [] h = refl
index_none x (y ∷ ys) h = let c = cond_neither (eqb x y) (has x ys) h in rw (c.0, index_none x ys c.1) (add-one (length ys))

pub index_has : (x : ℕ) (ps : List ℕ) → index_of x ps < length ps → has x ps ≡ true
unfolding index_of has
index_has x [] h = absurd (omega arith)
index_has x (p ∷ ps) h =
    by_bool (eqb x p) (λ e. rw (has, e)) (λ e. rw (has, e) (index_has x ps (let g = rw (index_of, e) at h in omega arith)))

pub get_or_index : (x : ℕ) (ps : List ℕ) → index_of x ps < length ps → get_or ps (index_of x ps) 0 ≡ x
unfolding index_of
get_or_index x [] h = absurd (omega arith)
get_or_index x (p ∷ ps) h =
    by_bool (eqb x p) (λ e. rw (index_of, e) (sym (eqb-true x p e)))
    (λ e. let g = rw (index_of, e) at h in rw (index_of, e, add-one (index_of x ps)) (get_or_index x ps (omega arith)))

pub index_first : (p : ℕ) (ps : List ℕ) → index_of p (p ∷ ps) ≡ 0
unfolding index_of
index_first p ps = rw (index_of, eq-eqb p p refl)

-- Distinct numbers.

pub distinct_cons : (p : ℕ) (ps : List ℕ) → distinct (p ∷ ps) ≡ true → (has p ps ≡ false) × (distinct ps ≡ true)
unfolding distinct
distinct_cons p ps h = cond_not (has p ps) (distinct ps) h

pub apart : (x p : ℕ) (ps : List ℕ) → has p ps ≡ false → has x ps ≡ true → x ≡ p → ⊥
apart x p ps f h e = no (sym f ∙ (rw e at h))

pub index_get_or : (ps : List ℕ) (j : ℕ) → distinct ps ≡ true → j < length ps → index_of (get_or ps j 0) ps ≡ j
unfolding index_of
index_get_or [] j d h = absurd (omega arith)
index_get_or (p ∷ ps) zero d h = rw (index_of, eq-eqb p p refl)
index_get_or (p ∷ ps) (suc j) d h =
    let c = distinct_cons p ps d in
    let i : j < length ps = omega arith in
    rw (ne_eqb (get_or ps j 0) p (apart (get_or ps j 0) p ps c.0 (has_get_or ps j i)), index_get_or ps j c.1) (add-one j)

-- a number stands at most once among distinct ones
pub count_once : (x : ℕ) (ps : List ℕ) → distinct ps ≡ true → count x ps ≤ 1
unfolding count
count_once x [] d = omega arith
count_once x (p ∷ ps) d =
    let c = distinct_cons p ps d in
    by_eq x p (λ e. let a = bit_same x p e in let b = count_none x ps (rw e c.0) in omega arith)
    (λ e. let a = bit_other x p e in let b = count_once x ps c.1 in omega arith)

-- consecutive numbers
pub values_in : (p n x : ℕ) → has x (values_from (λ i. i) p n) ≡ true → (p ≤ x) × (x < p + n)
unfolding values_from has
values_in p zero x h = no h
values_in p (suc n) x h =
    ⊎_elim (λ e. (omega arith, omega arith)) (λ g. let r = values_in (p + 1) n x g in (omega arith, omega arith))
    (has_cons x p (values_from (λ i. i) (p + 1) n) h)

pub values_distinct : (p n : ℕ) → distinct (values_from (λ i. i) p n) ≡ true
unfolding values_from distinct
values_distinct p zero = refl
values_distinct p (suc n) =
    by_bool (has p (values_from (λ i. i) (p + 1) n)) (λ h. let r = values_in (p + 1) n p h in absurd (omega arith))
    (λ h. rw h (values_distinct (p + 1) n))

-- numbers below n, each at most once, are no more than n

sum_both : (n : ℕ) (f g : ℕ → ℕ) → sum_below n f + sum_below n g ≤ sum_below n (λ i. f i + g i)
unfolding sum_below
sum_both zero f g = omega arith
sum_both (suc n) f g = let r = sum_both n f g in omega arith

sum_ones : (n : ℕ) (f : ℕ → ℕ) → ((i : ℕ) → f i ≤ 1) → sum_below n f ≤ n
unfolding sum_below
sum_ones zero f h = omega arith
sum_ones (suc n) f h = let a = h n in let r = sum_ones n f h in omega arith

sum_counts : (n : ℕ) (xs : List ℕ) → ((x : ℕ) → has x xs ≡ true → x < n) → length xs ≤ sum_below n (λ i. count i xs)
unfolding count
sum_counts n [] h = omega arith
sum_counts n (x ∷ xs) h =
    let r = sum_counts n xs (λ y g. h y (has_tail y x xs g)) in
    let a : bit (eqb x x) ≤ sum_below n (λ i. bit (eqb i x)) = sum_below_one n x (λ i. bit (eqb i x)) (h x (has_head x xs)) in
    let b = bit_same x x refl in
    let c = sum_both n (λ i. bit (eqb i x)) (λ i. count i xs) in omega arith

pub fit : (n : ℕ) (xs : List ℕ) → ((x : ℕ) → has x xs ≡ true → x < n) → ((x : ℕ) → count x xs ≤ 1) → length xs ≤ n
fit n xs h c = let a = sum_counts n xs h in let b = sum_ones n (λ i. count i xs) c in omega arith

-- The lowest few: each is one that was sought, there are no more than were asked for, and they ascend.

module _ (f : ℕ → Bool) where
  pub few_holds : (t i n x : ℕ) → has x (lowest_few f t i n) ≡ true → (f x ≡ true) × (i ≤ x) × (x < i + t)
  unfolding lowest_few has
  few_holds zero i n x h = no h
  few_holds (suc t) i zero x h = no h
  few_holds (suc t) i (suc n) x h =
      by_bool (f i)
      (λ e. ⊎_elim (λ q. (rw q e, omega arith, omega arith)) (λ g. let r = few_holds t (i + 1) n x g in (r.0, omega arith, omega arith))
      (has_cons x i (lowest_few f t (i + 1) n) (rw (lowest_few, e) at h)))
      (λ e. let r = few_holds t (i + 1) (suc n) x (rw (lowest_few, e) at h) in (r.0, omega arith, omega arith))

  pub few_none : (t i : ℕ) → lowest_few f t i 0 ≡ []
  unfolding lowest_few
  few_none zero i = refl
  few_none (suc t) i = refl

  pub few_length : (t i n : ℕ) → length (lowest_few f t i n) ≤ n
  unfolding lowest_few
  few_length zero i n = omega arith
  few_length (suc t) i zero = omega arith
  few_length (suc t) i (suc n) =
      by_bool (f i) (λ e. let r = few_length t (i + 1) n in rw (lowest_few, e) (omega arith)) (λ e. rw (lowest_few, e) (few_length t (i + 1) (suc n)))

  pub few_distinct : (t i n : ℕ) → distinct (lowest_few f t i n) ≡ true
  unfolding lowest_few distinct
  few_distinct zero i n = refl
  few_distinct (suc t) i zero = refl
  few_distinct (suc t) i (suc n) =
      by_bool (f i)
      (λ e. by_bool (has i (lowest_few f t (i + 1) n))
      (λ h. let r = few_holds t (i + 1) n i h in absurd (omega arith))
      (λ h. rw (lowest_few, e, h) (few_distinct t (i + 1) n)))
      (λ e. rw (lowest_few, e) (few_distinct t (i + 1) (suc n)))

-- Tests of all members.

module _ {A : Type 0} (f : A → Bool) where
  pub all_cons : (x : A) (xs : List A) → all f (x ∷ xs) ≡ true → (f x ≡ true) × (all f xs ≡ true)
  unfolding all
  all_cons x xs h = cond_and (f x) (all f xs) h

  pub all_yes : (xs : List A) → ((x : A) → f x ≡ true) → all f xs ≡ true
  unfolding all
  all_yes [] h = refl
  all_yes (x ∷ xs) h = rw (h x) (all_yes xs h)

  pub all_append : (xs ys : List A) → all f xs ≡ true → all f ys ≡ true → all f (xs ++ ys) ≡ true
  unfolding all
  all_append [] ys e h = h
  all_append (x ∷ xs) ys e h = let c = all_cons x xs e in rw c.0 (all_append xs ys c.1 h)

  pub all_filter : (g : A → Bool) (xs : List A) → all f xs ≡ true → all f (filter g xs) ≡ true
  unfolding all filter
  all_filter g [] e = refl
  all_filter g (x ∷ xs) e =
      let c = all_cons x xs e in
      by_bool (g x) (λ h. rw (filter, h, all, c.0) (all_filter g xs c.1)) (λ h. rw (filter, h) (all_filter g xs c.1))

  pub all_replicate : (n : ℕ) (x : A) → f x ≡ true → all f (replicate n x) ≡ true
  unfolding all
  all_replicate zero x e = refl
  all_replicate (suc n) x e = rw e (all_replicate n x e)

  pub all_imp : (g : A → Bool) (xs : List A) → ((x : A) → f x ≡ true → g x ≡ true) → all f xs ≡ true → all g xs ≡ true
  unfolding all
  all_imp g [] h e = refl
  all_imp g (x ∷ xs) h e = let c = all_cons x xs e in rw (h x c.0) (all_imp g xs h c.1)

  pub all_take : (n : ℕ) (xs : List A) → all f xs ≡ true → all f (take n xs) ≡ true
  unfolding all
  all_take zero xs e = refl
  all_take (suc n) [] e = refl
  all_take (suc n) (x ∷ xs) e = let c = all_cons x xs e in rw c.0 (all_take n xs c.1)

  pub all_drop : (n : ℕ) (xs : List A) → all f xs ≡ true → all f (drop n xs) ≡ true
  all_drop zero xs e = e
  all_drop (suc n) [] e = e
  all_drop (suc n) (x ∷ xs) e = all_drop n xs (all_cons x xs e).1

pub all_map : {A B : Type 0} (f : B → Bool) (g : A → B) (xs : List A) → all f (map g xs) ≡ all (λ x. f (g x)) xs
unfolding all
all_map f g [] = refl
all_map f g (x ∷ xs) = rw (all_map f g xs)

pub all_has : (f : ℕ → Bool) (x : ℕ) (xs : List ℕ) → all f xs ≡ true → has x xs ≡ true → f x ≡ true
unfolding has
all_has f x [] g h = no h
all_has f x (y ∷ xs) g h = let c = all_cons f y xs g in ⊎_elim (λ e. rw e c.0) (all_has f x xs c.1) (has_cons x y xs h)

-- from what holds of every member
pub all_by : (f : ℕ → Bool) (xs : List ℕ) → ((x : ℕ) → has x xs ≡ true → f x ≡ true) → all f xs ≡ true
unfolding all
all_by f [] h = refl
all_by f (y ∷ ys) h = rw (h y (has_head y ys)) (all_by f ys (λ x g. h x (has_tail x y ys g)))

-- Folds.

module _ {A B : Type 0} (f : A → B → A) where
  pub foldl_append : (a : A) (xs ys : List B) → foldl f a (xs ++ ys) ≡ foldl f (foldl f a xs) ys
  unfolding foldl
  foldl_append a [] ys = refl
  foldl_append a (x ∷ xs) ys = foldl_append (f a x) xs ys

  -- a fold keeps what each step keeps
  pub fold_keeps : (I : A → Type 0) (g : B → Bool) → ((a : A) (b : B) → g b ≡ true → I a → I (f a b))
      → (bs : List B) (a : A) → all g bs ≡ true → I a → I (foldl f a bs)
  unfolding foldl
  fold_keeps I g keep [] a e i = i
  fold_keeps I g keep (b ∷ bs) a e i =
      let c = all_cons g b bs e in fold_keeps I g keep bs (f a b) c.1 (keep a b c.0 i)

-- Two lists of numbers that are the same.

pub same_refl : (a : List ℕ) → same_list a a ≡ true
unfolding same_list
same_refl [] = refl
same_refl (x ∷ xs) = rw (same_list, eq-eqb x x refl) (same_refl xs)

pub same_true : (a b : List ℕ) → same_list a b ≡ true → a ≡ b
unfolding same_list
same_true [] [] e = refl
same_true [] (y ∷ ys) e = no e
same_true (x ∷ xs) [] e = no e
same_true (x ∷ xs) (y ∷ ys) e =
    let c = cond_and (eqb x y) (same_list xs ys) e in
    let p = eqb-true x y c.0 in
    let q = same_true xs ys c.1 in cc

pub same_ne : (a b : List ℕ) → (a ≡ b → ⊥) → same_list a b ≡ false
same_ne a b h = by_bool (same_list a b) (λ e. absurd (h (same_true a b e))) (λ e. e)

pub same_sym : (a b : List ℕ) → same_list a b ≡ same_list b a
same_sym a b = same_test _ _ (λ e. rw (same_true a b e) (same_refl b)) (λ e. rw (same_true b a e) (same_refl a))

-- Elements of two lists put together.

module _ {A : Type 0} (d : A) where
  pub get_or_left : (xs ys : List A) (i : ℕ) → i < length xs → get_or (xs ++ ys) i d ≡ get_or xs i d
  get_or_left xs ys i h = get_or-append xs ys d i h

  pub get_or_right : (xs ys : List A) (i : ℕ) → length xs ≤ i → get_or (xs ++ ys) i d ≡ get_or ys (i - length xs) d
  get_or_right xs ys i h =
      let e : i ≡ length xs + (i - length xs) = omega arith in
      ap (λ (k : ℕ). get_or (xs ++ ys) k d) e ∙ get_or-append-add xs ys (i - length xs) d

pub no_length : {A : Type 0} (l : List A) → length l ≡ 0 → l ≡ []
no_length [] e = refl
no_length (x ∷ xs) e = absurd (omega arith)
