-- Bounded tests, sums and searches, as the other definitions use them. Nothing here is special to a volume.
use Rattle.std.specs.Prelude.{ℕ, zero, suc, ◌+◌, Bool, true, false, cond, List, [], ◌∷◌, eqb}
use Rattle.std.proofs.Math.Option.{Option, none, some}

-- 1 for true, 0 for false
unfoldable pub bit : Bool → ℕ
bit b = cond b 1 0

-- whether f holds of every number below n
unfoldable pub all_below : ℕ → (ℕ → Bool) → Bool
all_below zero f = true
all_below (suc n) f = let r = all_below n f in cond (f n) r false

-- f 0 + .. + f (n − 1)
unfoldable pub sum_below : ℕ → (ℕ → ℕ) → ℕ
sum_below zero f = 0
sum_below (suc n) f = f n + sum_below n f

-- f x, f (x + 1), .. : n values
unfoldable pub values_from : (ℕ → ℕ) → ℕ → ℕ → List ℕ
values_from f x zero = []
values_from f x (suc n) = f x ∷ values_from f (x + 1) n

-- the lowest of the n numbers from i on of which f holds
unfoldable pub lowest : (ℕ → Bool) → ℕ → ℕ → Option ℕ
lowest f zero i = none
lowest f (suc n) i = let r = lowest f n (i + 1) in cond (f i) (some i) r

-- of the t numbers from i on, the lowest n of which f holds, ascending; fewer where there are not so many
unfoldable pub lowest_few : (ℕ → Bool) → ℕ → ℕ → ℕ → List ℕ
lowest_few f zero i n = []
lowest_few f (suc t) i zero = []
lowest_few f (suc t) i (suc n) =
    let taken = lowest_few f t (i + 1) n in
    let passed = lowest_few f t (i + 1) (suc n) in
    cond (f i) (i ∷ taken) passed

-- whether f holds of every member
unfoldable pub all : {A : Type 0} → (A → Bool) → List A → Bool
all f [] = true
all f (x ∷ xs) = let r = all f xs in cond (f x) r false

-- the members of which f holds, in order
unfoldable pub filter : {A : Type 0} → (A → Bool) → List A → List A
filter f [] = []
filter f (x ∷ xs) = let r = filter f xs in cond (f x) (x ∷ r) r

-- f (.. (f (f a x₀) x₁) ..) xₙ
unfoldable pub foldl : {A B : Type 0} → (A → B → A) → A → List B → A
foldl f a [] = a
foldl f a (x ∷ xs) = foldl f (f a x) xs

-- whether x stands in a list
unfoldable pub has : ℕ → List ℕ → Bool
has x [] = false
has x (y ∷ ys) = let r = has x ys in cond (eqb x y) true r

-- how often x stands in a list
unfoldable pub count : ℕ → List ℕ → ℕ
count x [] = 0
count x (y ∷ ys) = bit (eqb x y) + count x ys

-- the first index of x in a list; the list's length where x does not stand in it
unfoldable pub index_of : ℕ → List ℕ → ℕ
index_of x [] = 0
index_of x (y ∷ ys) = let r = index_of x ys in cond (eqb x y) 0 (r + 1)

-- whether no number stands twice in a list
unfoldable pub distinct : List ℕ → Bool
distinct [] = true
distinct (x ∷ xs) = let r = distinct xs in cond (has x xs) false r

-- whether two lists of numbers are the same
unfoldable pub same_list : List ℕ → List ℕ → Bool
same_list [] [] = true
same_list [] (y ∷ ys) = false
same_list (x ∷ xs) [] = false
same_list (x ∷ xs) (y ∷ ys) = let r = same_list xs ys in cond (eqb x y) r false

abbrev pub is_some : {A : Type 0} → Option A → Bool
is_some none = false
is_some (some a) = true

abbrev pub or_else : {A : Type 0} → Option A → A → A
or_else none d = d
or_else (some a) d = a
