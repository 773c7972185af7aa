-- Laws of lists that words are put into, and of the pairs of a group's text.
use Rattle.model.proofs.Prelude.{ℕ, zero, suc, ◌+◌, ◌*◌, ◌-◌, ◌≤◌, ◌<◌, ◌≡◌, refl, sym, ap, ◌∙◌, List, [], ◌∷◌, ◌++◌, append_assoc, Option, none, some, arith, add-zero, zero-add, length, length-append, get_or, set, take, drop, get_or-append, sets, sets-eq, set_comm, set-set, get_or-set_other, get_or-append-add, length-take-le, lt-ltb, le-ltb}
use Rattle.model.specs.Lists.{values_from}
use Rattle.model.specs.Stores.{Stores, pair_of, listed}
use Rattle.model.proofs.Tests.{by_eq}
use Rattle.stores.specs.Emitted.{Emitted}
use Rattle.stores.proofs.Emitting.{same_length, sets_append}
use Rattle.model.proofs.Lists.{length_values}
use Rattle.stores.specs.Added.{part, place_of}

-- Words that are put over others, and below others.

set_below : (ys l : List ℕ) (b z c : ℕ) → b < c → set (sets l c ys) b z ≡ sets (set l b z) c ys
set_below [] l b z c h = refl
set_below (y ∷ ys) l b z c h =
    set_below ys (set l c y) b z (suc c) (omega arith) ∙ ap (λ k. sets k (suc c) ys) (set_comm l c b y z (λ e. omega arith))

pub sets_over : (ys zs l : List ℕ) (b : ℕ) → length ys ≤ length zs → sets (sets l b ys) b zs ≡ sets l b zs
sets_over [] zs l b h = refl
sets_over (y ∷ ys) [] l b h = absurd (omega arith)
sets_over (y ∷ ys) (z ∷ zs) l b h =
    rw (set_below ys (set l b y) b z (suc b) (omega arith), set-set l b y z) (sets_over ys zs (set l b z) (suc b) (omega arith))

sets_below : (xs ys l : List ℕ) (a b : ℕ) → a + length xs ≤ b → sets (sets l b ys) a xs ≡ sets (sets l a xs) b ys
sets_below [] ys l a b h = refl
sets_below (x ∷ xs) ys l a b h = rw (set_below ys l a x b (omega arith)) (sets_below xs ys (set l a x) (suc a) b (omega arith))

-- words that are put, and others then before them
pub emitted_before : {l : List ℕ} {b : ℕ} {ys : List ℕ} {r : ℕ} {m : List ℕ} {a : ℕ} {xs : List ℕ} {c : ℕ} {p : List ℕ}
    → Emitted l b ys r m → Emitted m a xs c p → c ≡ b → Emitted l a (xs ++ ys) r p
emitted_before {l} {b} {ys} {r} {m} {a} {xs} e f k =
    let z : a + length xs ≡ b = sym f.end ∙ k in
    record {
      end = rw length-append (omega (arith, e.end));
      list = f.list ∙ rw (e.list, sets_below xs ys l a b (omega arith), sets_append xs ys l a, z);
    }

-- a pair before them
pub pair_before : {l : List ℕ} {a : ℕ} {ys : List ℕ} {r : ℕ} {m : List ℕ} {x y c : ℕ} {p : List ℕ}
    → Emitted l (a + 2 * 1) ys r m → Emitted m a (x ∷ y ∷ []) c p → Emitted l a (x ∷ y ∷ ys) r p
pair_before e f = emitted_before e f f.end

pub get_or_sets : (vs l : List ℕ) (i j : ℕ) → i + length vs ≤ length l → j < length vs → get_or (sets l i vs) (i + j) 0 ≡ get_or vs j 0
get_or_sets vs l i j h g =
    let e : length (take i l) ≡ i = length-take-le i l (omega arith) in
    let f : get_or (take i l ++ (vs ++ drop (i + length vs) l)) (length (take i l) + j) 0 ≡ get_or (vs ++ drop (i + length vs) l) j 0
    = get_or-append-add (take i l) (vs ++ drop (i + length vs) l) j 0 in
    rw (sets-eq vs l i h, append_assoc) ((rw e at f) ∙ get_or-append vs (drop (i + length vs) l) 0 j g)

-- Parts of a list.

part_set : (n : ℕ) (l : List ℕ) (k i x : ℕ) → k + n ≤ i → part (set l i x) k n ≡ part l k n
unfolding values_from
part_set zero l k i x h = refl
part_set (suc n) l k i x h = rw (get_or-set_other l i k x 0 (λ e. omega arith), part_set n l (k + 1) i x (omega arith))

part_both : (a b : ℕ) (l : List ℕ) (k : ℕ) → part l k (a + b) ≡ part l k a ++ part l (k + a) b
unfolding values_from
part_both zero b l k = rw (zero-add, add-zero)
part_both (suc a) b l k =
    let e : suc a + b ≡ suc (a + b) = omega arith in
    let f : k + suc a ≡ k + 1 + a = omega arith in
    rw (e, f, part_both a b l (k + 1))

pub part_is : (xs l : List ℕ) (a : ℕ) → ((j : ℕ) → j < length xs → get_or l (a + j) 0 ≡ get_or xs j 0) → part l a (length xs) ≡ xs
unfolding values_from
part_is [] l a h = refl
part_is (x ∷ xs) l a h =
    let e : get_or l a 0 ≡ x = rw add-zero at (h 0 (omega arith)) in
    rw (e, part_is xs l (a + 1) (λ j g. let f : a + 1 + j ≡ a + suc j = omega arith in rw f (h (suc j) (omega arith))))

-- The pairs of a text.

abbrev pub pair_count : Option ℕ → ℕ → ℕ
pair_count none r = r
pair_count (some x) r = suc r

unfoldable pub pairs : Stores → ℕ → ℕ → ℕ
pairs s zero w = 0
pairs s (suc n) w = pair_count (s w) (pairs s n (w + 1))

length_pair : (w : ℕ) (o : Option ℕ) (r : List ℕ) (c : ℕ) → length r ≡ 2 * c → length (pair_of w o r) ≡ 2 * pair_count o c
length_pair w none r c e = e
length_pair w (some x) r c e = omega arith

pub length_listed : (s : Stores) (n w : ℕ) → length (listed s n w) ≡ 2 * pairs s n w
unfolding listed pairs
length_listed s zero w = refl
length_listed s (suc n) w = length_pair w (s w) (listed s n (w + 1)) (pairs s n (w + 1)) (length_listed s n (w + 1))

none_pair : (o : Option ℕ) (c : ℕ) → pair_count o c ≡ 0 → (o ≡ none) × (c ≡ 0)
none_pair none c e = (refl, e)
none_pair (some x) c e = absurd (omega arith)

-- a range without pairs has no stores
pub none_listed : (s : Stores) (n w j : ℕ) → pairs s n w ≡ 0 → w ≤ j → j < w + n → s j ≡ none
unfolding pairs
none_listed s zero w j e g h = absurd (omega arith)
none_listed s (suc n) w j e g h =
    let a = none_pair (s w) (pairs s n (w + 1)) e in
    by_eq j w (λ q. rw q a.0) (λ q. none_listed s n (w + 1) j a.1 (omega arith) (omega arith))

index_pair : (Q : ℕ → Type 0) (w : ℕ) (o : Option ℕ) (r : List ℕ) (c k : ℕ) → Q w → ((j : ℕ) → j < c → Q (get_or r (2 * j) 0)) → k < pair_count o c
    → Q (get_or (pair_of w o r) (2 * k) 0)
index_pair Q w none r c k q h g = h k g
index_pair Q w (some x) r c zero q h g = q
index_pair Q w (some x) r c (suc k) q h g = let e : 2 * suc k ≡ suc (suc (2 * k)) = omega arith in rw e (h k (omega arith))

pub index_in : (s : Stores) (n w k : ℕ) → k < pairs s n w → (w ≤ get_or (listed s n w) (2 * k) 0) × (get_or (listed s n w) (2 * k) 0 < w + n)
unfolding listed pairs
index_in s zero w k h = absurd (omega arith)
index_in s (suc n) w k h =
    index_pair (λ i. (w ≤ i) × (i < w + suc n)) w (s w) (listed s n (w + 1)) (pairs s n (w + 1)) k (omega arith, omega arith)
    (λ j g. let a = index_in s n (w + 1) j g in (omega arith, omega arith)) h

-- `place`.

pub place_is : (l : List ℕ) (from i n c : ℕ) → c ≤ n → ((k : ℕ) → k < c → get_or l (from + 2 * k) 0 < i)
    → ((k : ℕ) → c ≤ k → k < n → i ≤ get_or l (from + 2 * k) 0) → place_of l from n i ≡ c
unfolding place_of
place_is l from i zero c h f g = omega arith
place_is l from i (suc n) c h f g =
    by_eq c (suc n)
    (λ e. rw (lt-ltb (get_or l (from + 2 * n) 0) i (f n (omega arith))) (omega arith))
    (λ e. rw (le-ltb (get_or l (from + 2 * n) 0) i (g n (omega arith) (omega arith))) (place_is l from i n c (omega arith) f (λ k p q. g k p (omega arith))))

module _ (l : List ℕ) (from i : ℕ) where
  pub place_here : (k x r : ℕ) → 0 < k → x ≡ get_or l (from + 2 * (k - 1)) 0 → x < i → place_of l from k i ≡ r → k - 1 + 1 ≡ r
  unfolding place_of
  place_here zero x r h e g q = absurd (omega arith)
  place_here (suc k) x r h e g q =
      let f : suc k - 1 ≡ k = omega arith in
      let y : get_or l (from + 2 * k) 0 < i = rw (← f, ← e) g in
      omega (arith, rw (lt-ltb (get_or l (from + 2 * k) 0) i y) at q)

  pub place_next : (k x r : ℕ) → 0 < k → x ≡ get_or l (from + 2 * (k - 1)) 0 → i ≤ x → place_of l from k i ≡ r → place_of l from (k - 1) i ≡ r
  unfolding place_of
  place_next zero x r h e g q = absurd (omega arith)
  place_next (suc k) x r h e g q =
      let f : suc k - 1 ≡ k = omega arith in
      let y : i ≤ get_or l (from + 2 * k) 0 = rw (← f, ← e) g in
      rw f (rw (le-ltb (get_or l (from + 2 * k) 0) i y) at q)

  pub place_end : (k r : ℕ) → k ≤ 0 → place_of l from k i ≡ r → 0 ≡ r
  unfolding place_of
  place_end zero r h q = q
  place_end (suc k) r h q = absurd (omega arith)

-- `move_up`: of n pairs at index `at` of the list l, which are to stand from index `to` on, the first `left` are still to move; the list
-- is m by now.
pub record Moving (l : List ℕ) (at n to : ℕ) (m : List ℕ) (left : ℕ) : Type 0 where
  pub long : length m ≡ length l
  pub list : sets m to (part m at (2 * left)) ≡ sets l to (part l at (2 * n))

module _ (l : List ℕ) (at n to : ℕ) (m : List ℕ) (left : ℕ) (q : Moving l at n to m left) where
  pub move_turn : (x y b : ℕ) (p : List ℕ) → 0 < left → at ≤ to → x ≡ get_or m (at + 2 * (left - 1)) 0 → y ≡ get_or m (at + 2 * (left - 1) + 1) 0
      → Emitted m (to + 2 * (left - 1)) (x ∷ y ∷ []) b p → Moving l at n to p (left - 1)
  unfolding values_from
  move_turn x y b p h g e f o =
      let c = left - 1 in
      let k : 2 * left ≡ 2 * c + 2 = omega arith in
      let a = to + 2 * c in
      let u : part p at (2 * c) ≡ part m at (2 * c)
      = rw o.list (part_set (2 * c) (set m a x) at (suc a) y (omega arith) ∙ part_set (2 * c) m at a x (omega arith)) in
      let z = length_values (λ j. get_or m j 0) at (2 * c) in
      let two : part m (at + 2 * c) 2 ≡ x ∷ y ∷ [] = rw (e, f) in
      let v : sets p to (part m at (2 * c)) ≡ sets (sets m to (part m at (2 * c))) a (x ∷ y ∷ [])
      = rw o.list (sets_below (part m at (2 * c)) (x ∷ y ∷ []) m to a (omega arith)) in
      let w : sets m to (part m at (2 * left)) ≡ sets (sets m to (part m at (2 * c))) a (x ∷ y ∷ [])
      = rw (k, part_both (2 * c) 2 m at, two, sets_append (part m at (2 * c)) (x ∷ y ∷ []) m to, z) in
      record { long = same_length o ∙ q.long; list = rw u (v ∙ sym w ∙ q.list) }

  pub move_end : left ≤ 0 → Emitted l to (part l at (2 * n)) (to + 2 * n) m
  unfolding values_from
  move_end h =
      let k : 2 * left ≡ 0 = omega arith in
      record { end = rw (length_values (λ j. get_or l j 0) at (2 * n)); list = rw k at q.list }
