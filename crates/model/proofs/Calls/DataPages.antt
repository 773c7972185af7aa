-- The pages of data, a run or the lowest ones, are the lowest few from some page on, so that the laws of a search for few pages are theirs.
use Rattle.model.proofs.Prelude.{ℕ, zero, suc, ◌+◌, ◌-◌, ◌≤◌, ◌<◌, ◌≡◌, refl, sym, ap, ◌∙◌, Bool, true, false, ◌&&◌, List, [], ◌∷◌, ◌++◌, ⊎_elim, Option, none, some, arith, zero-add, add-zero, sub-zero, eqb, length, get_or, eq-eqb, ne_eqb, le-ltb, ltb-false}
use Rattle.model.specs.Lists.{bit, all_below, sum_below, values_from, lowest_few, has, distinct, or_else}
use Rattle.model.specs.Stretches.{Stretch, ahead, stretches}
use Rattle.model.specs.Words.{Mem}
use Rattle.model.specs.Entry.{write_words}
use Rattle.model.specs.Calls.{stretch_entries, besides, lowest_run, run_or, lowest_pages, Append, data_pages, appended, fresh_pages, fresh_log, pages_needed, pages_left}
use Rattle.model.specs.Promises.{stretch_count}
use Rattle.model.proofs.Tests.{by_bool, by_eq, not_true_false, no, and_left}
use Rattle.model.proofs.Lists.{all_below_at, lowest_is, length_values, values_at, has_head, has_cons, few_holds, few_length, few_distinct}
use Rattle.model.proofs.Counting.{few_lacks, besides_count}
use Rattle.model.proofs.State.Stretches.{one_stretch, stretches_stand, ahead_alone}

-- numbers that all hold are the lowest few
run_few : (f : ℕ → Bool) (t s n : ℕ) → n ≤ t → ((i : ℕ) → i < n → f (s + i) ≡ true) → values_from (λ i. i) s n ≡ lowest_few f t s n
unfolding values_from lowest_few
run_few f zero s zero l h = refl
run_few f zero s (suc n) l h = absurd (omega arith)
run_few f (suc t) s zero l h = refl
run_few f (suc t) s (suc n) l h =
    let a : f s ≡ true = rw (add-zero s) at (h 0 (omega arith)) in
    rw (lowest_few, a) (ap (λ ps. s ∷ ps)
    (run_few f t (s + 1) n (omega arith) (λ i j. let e : s + 1 + i ≡ s + (i + 1) = omega arith in rw e (h (i + 1) (omega arith)))))

-- f says which pages may be taken, all of them below P
module _ (f : ℕ → Bool) (P : ℕ) (bound : (p : ℕ) → f p ≡ true → p < P) (n : ℕ) where
  -- the first page of the run, and page 0 where there is none
  abbrev pub search_start : ℕ
  search_start = or_else (lowest_run f P n) 0

  run_from : (o : Option ℕ) → lowest_run f P n ≡ o → run_or n o (lowest_few f P 0 n) ≡ lowest_few f (P - or_else o 0) (or_else o 0) n
  unfolding lowest_run
  run_from none e = rw sub-zero
  run_from (some p) e =
      let h = (lowest_is (λ q. all_below n (λ i. f (q + i))) P 0 p e).holds in
      let l : n ≤ P - p = by_eq n 0 (λ z. omega arith)
      (λ z. let b = bound (p + (n - 1)) (all_below_at n (n - 1) (λ i. f (p + i)) h (omega arith)) in omega arith) in
      run_few f (P - p) p n l (λ i j. all_below_at n i (λ i. f (p + i)) h j)

  pub pages_from : lowest_pages f P n ≡ lowest_few f (P - search_start) search_start n
  unfolding lowest_pages
  pages_from = run_from (lowest_run f P n) refl

  pub pages_hold : (x : ℕ) → has x (lowest_pages f P n) ≡ true → (f x ≡ true) × (x < P)
  pages_hold x h = let g = (few_holds f (P - search_start) search_start n x (rw pages_from at h)).0 in (g, bound x g)

  pub pages_apart : distinct (lowest_pages f P n) ≡ true
  pages_apart = rw pages_from (few_distinct f (P - search_start) search_start n)

  pub pages_few : length (lowest_pages f P n) ≤ n
  pages_few = rw pages_from (few_length f (P - search_start) search_start n)

  -- those left
  pub pages_besides : sum_below P (λ p. bit (besides f (lowest_pages f P n) p)) + length (lowest_pages f P n) ≡ sum_below P (λ p. bit (f p))
  pages_besides = besides_count f P (lowest_pages f P n) pages_apart pages_hold

  enough_by : (o : Option ℕ) → lowest_run f P n ≡ o → n ≤ sum_below P (λ p. bit (f p)) → n ≤ length (run_or n o (lowest_few f P 0 n))
  enough_by none e h = ltb-false _ n (few_lacks f P n ∙ le-ltb (sum_below P (λ p. bit (f p))) n h)
  enough_by (some p) e h = rw (length_values (λ i. i) p n) (omega arith)

  -- there are n where so many may be taken
  pub pages_enough : n ≤ sum_below P (λ p. bit (f p)) → length (lowest_pages f P n) ≡ n
  unfolding lowest_pages
  pages_enough h = let a = enough_by (lowest_run f P n) refl h in let b = pages_few in omega arith

-- A search finds as many pages as it seeks, if there are so many.
pub few_enough : (f : ℕ → Bool) (P n : ℕ) → n ≤ sum_below P (λ p. bit (f p)) → length (lowest_few f P 0 n) ≡ n
few_enough f P n h =
    let a = ltb-false _ n (few_lacks f P n ∙ le-ltb (sum_below P (λ p. bit (f p))) n h) in let b = few_length f P 0 n in omega arith

-- Where no fewer pages may be taken than an append needs, both its searches find theirs, and it leaves the others.
module _ (u : Mem) (P : ℕ) (f : ℕ → Bool) (a : Append) (bound : (p : ℕ) → f p ≡ true → p < P)
    (room : pages_needed u P f a ≤ sum_below P (λ p. bit (f p))) where
  abbrev may : ℕ → Bool
  may = besides f (data_pages u P f a)

  pub enough_data : length (data_pages u P f a) ≡ a.count
  unfolding data_pages pages_needed
  enough_data = pages_enough f P bound a.count (omega arith)

  left_data : sum_below P (λ p. bit (may p)) + a.count ≡ sum_below P (λ p. bit (f p))
  unfolding data_pages
  left_data = let e = pages_besides f P bound a.count in let h = enough_data in omega arith

  pub enough_log : length (fresh_log u P f a) ≡ fresh_pages u P f a
  unfolding fresh_log pages_needed
  enough_log = let e = left_data in few_enough may P (fresh_pages u P f a) (omega arith)

  pub left_count : sum_below P (λ p. bit (pages_left u P f a p)) + pages_needed u P f a ≡ sum_below P (λ p. bit (f p))
  unfolding fresh_log pages_needed pages_left besides
  left_count =
      let q = fresh_pages u P f a in
      let e = besides_count may P (lowest_few may P 0 q) (few_distinct may P 0 q)
      (λ x h. let g = (few_holds may P 0 q x h).0 in (g, bound x (and_left (f x) _ g))) in
      let h = enough_log in
      let d = left_data in omega arith

-- "A write that found a run before gets the same answer as before": its data stands on the run, from page p on, in one entry.
module _ (u : Mem) (P : ℕ) (f : ℕ → Bool) (a : Append) (p : ℕ) (e : lowest_run f P a.count ≡ some p) where
  pub run_data : data_pages u P f a ≡ values_from (λ i. i) p a.count
  unfolding data_pages lowest_pages
  run_data = rw e

  pub run_appended : 1 ≤ a.count → 1 ≤ p → appended u P f a ≡ a.entries ++ (write_words a.file p a.count a.size ∷ [])
  unfolding appended stretch_entries
  run_appended some-data low =
      let one = one_stretch (λ i. get_or (values_from (λ i. i) p a.count) (i - a.file) 0) a.count a.file p some-data low
      (λ t l. let q : a.file + t - a.file ≡ t = omega arith in rw q (values_at (λ i. i) p a.count t l)) in
      rw (run_data, one)

-- The longest stretches of ascending pages, counted.

-- the numbers of a list ascend, from p on
abbrev pub Ascends : ℕ → List ℕ → Type 0
Ascends p [] = Unit {0}
Ascends p (x ∷ xs) = (p ≤ x) × Ascends (x + 1) xs

ascends_less : (p q : ℕ) (xs : List ℕ) → q ≤ p → Ascends p xs → Ascends q xs
ascends_less p q [] l h = tt
ascends_less p q (x ∷ xs) l h = (omega arith, h.1)

pub few_ascend : (f : ℕ → Bool) (t i n : ℕ) → Ascends i (lowest_few f t i n)
unfolding lowest_few
few_ascend f zero i n = tt
few_ascend f (suc t) i zero = tt
few_ascend f (suc t) i (suc n) =
    by_bool (f i) (λ e. rw (lowest_few, e) (omega arith, few_ascend f t (i + 1) n))
    (λ e. rw (lowest_few, e) (ascends_less (i + 1) i (lowest_few f t (i + 1) (suc n)) (omega arith) (few_ascend f t (i + 1) (suc n))))

ascends_has : (p x : ℕ) (xs : List ℕ) → Ascends p xs → has x xs ≡ true → p ≤ x
unfolding has
ascends_has p x [] h m = no m
ascends_has p x (y ∷ ys) h m = ⊎_elim (λ e. omega (arith, h.0)) (λ g. omega (arith, h.0, ascends_has (y + 1) x ys h.1 g)) (has_cons x y ys m)

-- a number ahead of a stretch that goes on from it makes no further one
length_longer : (i p : ℕ) (ss : List Stretch) → length (ahead i p (ahead (i + 1) (p + 1) ss)) ≡ length (ahead (i + 1) (p + 1) ss)
unfolding ahead
length_longer i p [] = rw (eq-eqb (i + 1) (i + 1) refl, eq-eqb (p + 1) (p + 1) refl)
length_longer i p (s ∷ ss) =
    by_bool (eqb s.first (i + 1 + 1) && eqb s.page (p + 1 + 1))
    (λ t. rw (t, ahead, eq-eqb (i + 1) (i + 1) refl, eq-eqb (p + 1) (p + 1) refl))
    (λ t. rw (t, ahead, eq-eqb (i + 1) (i + 1) refl, eq-eqb (p + 1) (p + 1) refl))

-- the pages ps, on which the numbers from i on stand by f
pub stretch_count_lem : (ps : List ℕ) (f : ℕ → ℕ) (i : ℕ) → Ascends 1 ps → ((t : ℕ) → t < length ps → f (i + t) ≡ get_or ps t 0)
    → length (stretches f (length ps) i) ≡ stretch_count ps
unfolding stretches stretch_count has ahead bit
stretch_count_lem [] f i h e = refl
stretch_count_lem (x ∷ []) f i h e =
    let a : f i ≡ x = rw (add-zero i) at (e 0 (omega arith)) in rw (a, ne_eqb x 0 (omega (arith, h.0)))
stretch_count_lem (x ∷ y ∷ ys) f i h e =
    let r = stretch_count_lem (y ∷ ys) f (i + 1) (ascends_less (x + 1) 1 (y ∷ ys) (omega arith) h.1)
    (λ t l. let q : i + 1 + t ≡ i + suc t = omega arith in rw q (e (suc t) (omega arith))) in
    let a : f i ≡ x = rw (add-zero i) at (e 0 (omega arith)) in
    let b : f (i + 1) ≡ y = e 1 (omega arith) in
    let rest = stretches f (length ys) (i + 1 + 1) in
    let c : stretches f (suc (length ys)) (i + 1) ≡ ahead (i + 1) y rest = rw (stretches, b, ne_eqb y 0 (omega (arith, h.1.0))) in
    by_eq y (x + 1)
    (λ z.
    let m : has (x + 1) (y ∷ ys) ≡ true = rw z (has_head (x + 1) ys) in
    rw (stretches, a, ne_eqb x 0 (omega (arith, h.0)), m, c, z) (length_longer i x rest ∙ (rw (c, z) at r) ∙ sym (zero-add _)))
    (λ z.
    let m : has (x + 1) (y ∷ ys) ≡ false = not_true_false _ (λ t.
    ⊎_elim (λ q. z (omega arith)) (λ g. let k = ascends_has (y + 1) (x + 1) ys h.1.1 g in omega (arith, h.1.0)) (has_cons (x + 1) y ys t)) in
    let alone = ahead_alone f (suc (length ys)) i (stretches f (suc (length ys)) (i + 1)) (stretches_stand f (suc (length ys)) (i + 1))
    (λ l g. z (sym b ∙ g ∙ ap (λ n. n + 1) a)) in
    rw (stretches, a, ne_eqb x 0 (omega (arith, h.0)), m) (ap length (rw a at alone) ∙ omega (arith, r)))
