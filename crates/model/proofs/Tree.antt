-- Laws of folders as a tree, said of lists of names alone: the ways up, what a change of one folder's names does to counts and parents.
use Rattle.model.proofs.Prelude.{◌≡◌, refl, sym, ◌∙◌, ap, ◌⊎◌, inl, inr, ⊎_elim, ℕ, zero, suc, ◌+◌, ◌-◌, ◌*◌, ◌≤◌, ◌<◌, Bool, true, false, cond, List, [], ◌∷◌, ◌++◌, Option, none, some, arith, length, eqb, eqb-true, eqb-false, eq-eqb, ne_eqb}
use Rattle.model.specs.Lists.{sum_below, lowest, has, count, distinct, or_else}
use Rattle.model.specs.State.{Names, inodes}
use Rattle.model.specs.Tree.{Folders, name_count, parent_of, above, is_reached, is_beneath, sum_over, name_counts, folder_total}
use Rattle.model.proofs.Tests.{by_bool, by_eq, no, clash, bit_same, cond_or, cond_neither}
use Rattle.model.proofs.Lists.{sum_below_same, sum_below_le, sum_below_add, sum_below_one, sum_below_two, lowest_is, lowest_same, has_head, has_tail, has_cons, has_append, count_append, has_count, count_has, count_once, fit}

-- Ways up.

-- a way from k up to inode 0
pub data Reaches (N : ℕ) (F : Folders) : ℕ → Type 0 where
  top : Reaches N F 0
  up : (k : ℕ) → Reaches N F (parent_of N F k) → Reaches N F k

-- the folders on it, inode 0 left out
pub data Way (N : ℕ) (F : Folders) : ℕ → List ℕ → Type 0 where
  end : Way N F 0 []
  step : (k : ℕ) (ps : List ℕ) → (k ≡ 0 → ⊥) → Way N F (parent_of N F k) ps → Way N F k (k ∷ ps)

module _ (N : ℕ) (F : Folders) where
  pub above_reaches : (n k : ℕ) → above N F n 0 k ≡ true → Reaches N F k
  unfolding above
  above_reaches zero k e = rw (eqb-true k 0 e) top
  above_reaches (suc n) k e =
      ⊎_elim (λ z. rw (eqb-true k 0 z) top) (λ r. up k (above_reaches n (parent_of N F k) r))
      (cond_or (eqb k 0) (above N F n 0 (parent_of N F k)) e)

  -- no folder but inode 0 lies in itself
  pub no_loop : {k : ℕ} → Reaches N F k → parent_of N F k ≡ k → k ≡ 0
  no_loop top e = refl
  no_loop (up k r) e = sym e ∙ no_loop r (ap (parent_of N F) e)

  reaches_way : {k : ℕ} → Reaches N F k → (ps : List ℕ) × Way N F k ps
  reaches_way top = ([], end)
  reaches_way (up k r) =
      let w = reaches_way r in by_eq k 0 (λ e. ([], rw e end)) (λ e. (k ∷ w.0, step k w.0 e w.1))

  same_length : {k : ℕ} {ps qs : List ℕ} → Way N F k ps → Way N F k qs → length ps ≡ length qs
  same_length end end = refl
  same_length end (step k qs n w) = absurd (n refl)
  same_length (step k ps n v) end = absurd (n refl)
  same_length (step k ps n v) (step j qs m w) = ap suc (same_length v w)

  way_from : (x : ℕ) {k : ℕ} {ps : List ℕ} → Way N F k ps → has x ps ≡ true → (qs : List ℕ) × Way N F x qs × (length qs ≤ length ps)
  unfolding has
  way_from x end h = no h
  way_from x (step k ps n w) h =
      ⊎_elim (λ e. (k ∷ ps, rw e (step k ps n w), omega arith))
      (λ g. let r = way_from x w g in (r.0, r.1, omega (arith, r.2)))
      (has_cons x k ps h)

  way_distinct : {k : ℕ} {ps : List ℕ} → Way N F k ps → distinct ps ≡ true
  unfolding distinct
  way_distinct end = refl
  way_distinct (step k ps n w) =
      by_bool (has k ps)
      (λ h. let r = way_from k w h in
      let e = same_length (step k ps n w) r.1 in absurd (omega (arith, e, r.2)))
      (λ h. rw (distinct, h) (way_distinct w))

  pub parent_below : 0 < N → (k : ℕ) → parent_of N F k < N
  unfolding parent_of
  parent_below g k = go (lowest (λ d. has k (inodes (F d))) N 0) refl
    where
      go : (o : Option ℕ) → lowest (λ d. has k (inodes (F d))) N 0 ≡ o → or_else o 0 < N
      go none e = g
      go (some d) e = let r = lowest_is (λ d. has k (inodes (F d))) N 0 d e in omega (arith, r.below)

  way_below : 0 < N → {k : ℕ} {ps : List ℕ} → Way N F k ps → k < N → (x : ℕ) → has x ps ≡ true → x < N
  unfolding has
  way_below g end l x h = no h
  way_below g (step k ps n w) l x h =
      ⊎_elim (λ e. rw e l) (λ r. way_below g w (parent_below g k) x r) (has_cons x k ps h)

  way_above : (n : ℕ) {k : ℕ} {ps : List ℕ} → Way N F k ps → length ps ≤ n → above N F n 0 k ≡ true
  unfolding above
  way_above zero end l = refl
  way_above (suc n) end l = refl
  way_above zero (step k ps z w) l = absurd (omega arith)
  way_above (suc n) (step k ps z w) l = rw (above, ne_eqb k 0 z) (way_above n w (omega arith))

  -- N steps are enough: a way has no folder twice
  pub reaches_above : 0 < N → (k : ℕ) → k < N → Reaches N F k → is_reached N F k ≡ true
  unfolding is_reached
  reaches_above g k l r =
      let w = reaches_way r in
      way_above N w.1 (fit N w.0 (way_below g w.1 l) (λ x. count_once x w.0 (way_distinct w.1)))

  -- Parents.

  pub lowest_found : (f : ℕ → Bool) (n i d : ℕ) → f d ≡ true → i ≤ d → d < i + n → (x : ℕ) × (lowest f n i ≡ some x)
  unfolding lowest
  lowest_found f zero i d e a b = absurd (omega arith)
  lowest_found f (suc n) i d e a b =
      by_bool (f i) (λ t. (i, rw (lowest, t)))
      (λ t. let r = lowest_found f n (i + 1) d e (by_eq i d (λ q. absurd (clash (f d) e (rw q at t))) (λ q. omega arith)) (omega arith) in
      (r.0, rw (lowest, t) r.1))

  -- an inode with one name lies in the folder that has it
  pub parent_is : (k d : ℕ) → name_count N F k ≤ 1 → d < N → has k (inodes (F d)) ≡ true → parent_of N F k ≡ d
  unfolding parent_of name_count
  parent_is k d c l h =
      let r = lowest_found (λ d. has k (inodes (F d))) N 0 d h (omega arith) (omega arith) in
      let q = lowest_is (λ d. has k (inodes (F d))) N 0 r.0 r.1 in
      rw r.1 (by_eq r.0 d (λ e. e) (λ e.
      let a = has_count k (inodes (F d)) h in
      let b = has_count k (inodes (F r.0)) q.holds in
      let s = sum_below_two N r.0 d (λ d. count k (inodes (F d))) (omega (arith, q.below)) l e in absurd (omega arith)))

  sum_some : (n : ℕ) (f : ℕ → ℕ) → 1 ≤ sum_below n f → (d : ℕ) × (d < n) × (1 ≤ f d)
  unfolding sum_below
  sum_some zero f h = absurd (omega arith)
  sum_some (suc n) f h =
      by_eq (f n) 0 (λ e. let r = sum_some n f (omega arith) in (r.0, omega (arith, r.1), r.2)) (λ e. (n, omega arith, omega arith))

  -- an inode with a name lies in a folder that has it
  pub parent_holds : (k : ℕ) → 1 ≤ name_count N F k → has k (inodes (F (parent_of N F k))) ≡ true
  unfolding parent_of name_count
  parent_holds k c =
      let s = sum_some N (λ d. count k (inodes (F d))) c in
      let r = lowest_found (λ d. has k (inodes (F d))) N 0 s.0 (count_has k (inodes (F s.0)) s.2) (omega arith)
      (omega (arith, s.1)) in
      rw r.1 (lowest_is (λ d. has k (inodes (F d))) N 0 r.0 r.1).holds

-- From folders F to folders F'.

module _ (N : ℕ) (F F' : Folders) where
  -- an inode that stands in the same folders has the same parent
  pub parent_same : (k : ℕ) → ((d : ℕ) → d < N → has k (inodes (F' d)) ≡ has k (inodes (F d))) → parent_of N F' k ≡ parent_of N F k
  unfolding parent_of
  parent_same k h = ap (λ o. or_else o 0) (lowest_same _ _ N 0 (λ d a b. h d (omega arith)))

  -- Where each folder but inode 0 (`D`) keeps its parent or is known to reach inode 0, all reach it.
  module _ (D : ℕ → Type 0) (closed : (k : ℕ) → D k → (k ≡ 0 → ⊥) → D (parent_of N F k)) where
    pub reaches_kept : ((k : ℕ) → D k → (k ≡ 0 → ⊥) → (parent_of N F' k ≡ parent_of N F k) ⊎ Reaches N F' k)
        → {k : ℕ} → Reaches N F k → D k → Reaches N F' k
    reaches_kept h top d = top
    reaches_kept h (up k r) d =
        by_eq k 0 (λ e. rw e top)
        (λ e. ⊎_elim (λ q. up k (rw q (reaches_kept h r (closed k d e)))) (λ q. q) (h k d e))

    -- a way that does not meet folder i is as it was, where i alone moves
    pub reaches_beside : (i : ℕ) → ((k : ℕ) → D k → (k ≡ 0 → ⊥) → (k ≡ i → ⊥) → parent_of N F' k ≡ parent_of N F k)
        → (n e : ℕ) → D e → above N F n i e ≡ false → above N F n 0 e ≡ true → Reaches N F' e
    unfolding above
    reaches_beside i h zero e d a b = rw (eqb-true e 0 b) top
    reaches_beside i h (suc n) e d a b =
        let c = cond_neither (eqb e i) (above N F n i (parent_of N F e)) a in
        by_eq e 0 (λ z. rw z top)
        (λ z.
        let t : above N F n 0 (parent_of N F e) ≡ true = rw (above, ne_eqb e 0 z) at b in
        up e (rw (h e d z (eqb-false e i c.0)) (reaches_beside i h n (parent_of N F e) (closed e d z) c.1 t)))

    -- The move of folder i into folder e that is not i and does not lie beneath it.
    pub reaches_moved : (i e : ℕ) → D e → ((k : ℕ) → D k → (k ≡ 0 → ⊥) → (k ≡ i → ⊥) → parent_of N F' k ≡ parent_of N F k)
        → parent_of N F' i ≡ e → is_beneath N F i e ≡ false → is_reached N F e ≡ true → {k : ℕ} → Reaches N F k → D k → Reaches N F' k
    unfolding is_beneath is_reached
    reaches_moved i e d h p a b =
        let t : Reaches N F' i = up i (rw p (reaches_beside i h N e d a b)) in
        reaches_kept (λ k g z. by_eq k i (λ q. inr (rw q t)) (λ q. inl (h k g z q)))

-- a sum of which one summand changes
pub sum_below_change : (n d : ℕ) (f g : ℕ → ℕ) → d < n → ((i : ℕ) → (i ≡ d → ⊥) → g i ≡ f i) → sum_below n g + f d ≡ sum_below n f + g d
unfolding sum_below
sum_below_change zero d f g l h = absurd (omega arith)
sum_below_change (suc n) d f g l h =
    by_eq n d (λ e. let r = sum_below_same n g f (λ i k. h i (omega arith)) in rw (← e) (omega arith))
    (λ e. let r = sum_below_change n d f g (omega arith) h in let q = h n e in omega arith)

-- F with the names ns in folder d
unfoldable pub with_folder : ℕ → Names → Folders → Folders
with_folder d ns F i = cond (eqb i d) ns (F i)

module _ (N : ℕ) (F : Folders) (d : ℕ) (ns : Names) where
  pub with_here : with_folder d ns F d ≡ ns
  unfolding with_folder
  with_here = rw (eq-eqb d d refl)

  pub with_other : (i : ℕ) → (i ≡ d → ⊥) → with_folder d ns F i ≡ F i
  unfolding with_folder
  with_other i n = rw (ne_eqb i d n)

  -- the names of one folder change
  pub count_changed : d < N → (k : ℕ) → name_count N (with_folder d ns F) k + count k (inodes (F d)) ≡ name_count N F k + count k (inodes ns)
  unfolding name_count
  count_changed l k =
      let r = sum_below_change N d (λ i. count k (inodes (F i))) (λ i. count k (inodes (with_folder d ns F i))) l
      (λ i n. rw (with_other i n)) in
      rw with_here at r

-- Totals: the count of unvisited inodes is never spent.

pub sum_over_same : (f g : ℕ → ℕ) (xs : List ℕ) → ((x : ℕ) → has x xs ≡ true → f x ≡ g x) → sum_over f xs ≡ sum_over g xs
unfolding sum_over has
sum_over_same f g [] h = refl
sum_over_same f g (x ∷ xs) h = rw (sum_over, h x (has_head x xs), sum_over_same f g xs (λ y e. h y (has_tail y x xs e)))

module _ (N : ℕ) (F : Folders) (is_folder : ℕ → Bool) (size : ℕ → ℕ) where
  -- no way down from folder d has more than n folders
  pub data Low : ℕ → ℕ → Type 0 where
    low : (n d : ℕ) → ((x : ℕ) → has x (inodes (F d)) ≡ true → is_folder x ≡ true → Low n x) → Low (suc n) d

  abbrev total : ℕ → ℕ → ℕ
  total = folder_total F is_folder size

  low_total : {n d : ℕ} → Low n d → (m : ℕ) → n ≤ m → total m d ≡ total n d
  unfolding folder_total name_counts
  low_total (low n d h) zero l = absurd (omega arith)
  low_total (low n d h) (suc m) l =
      sum_over_same (name_counts F is_folder size (total m)) (name_counts F is_folder size (total n)) (inodes (F d))
      (λ x e. by_bool (is_folder x) (λ f. rw f (low_total (h x e f) m (omega arith))) (λ f. rw f))

  no_top : {k : ℕ} {ps : List ℕ} → Way N F k ps → has 0 ps ≡ false
  unfolding has
  no_top end = refl
  no_top (step k ps n w) = rw (has, ne_eqb 0 k (λ e. n (sym e))) (no_top w)

  way_short : 0 < N → {k : ℕ} {ps : List ℕ} → Way N F k ps → k < N → length ps < N
  unfolding distinct has
  way_short g {k} {ps} w l =
      let r = fit N (0 ∷ ps) (λ x h. ⊎_elim (λ e. rw e g) (λ t. way_below N F g w l x t) (has_cons x 0 ps h))
      (λ x. count_once x (0 ∷ ps) (rw (distinct, no_top w) (way_distinct N F w))) in omega arith

  module _ (some : 0 < N) (leads : (d x : ℕ) → has x (inodes (F d)) ≡ true → (x ≡ 0 → ⊥) × (x < N))
      (once : (x : ℕ) → is_folder x ≡ true → (x ≡ 0 → ⊥) → name_count N F x ≤ 1) where
    low_from : (n : ℕ) {d : ℕ} {ps : List ℕ} → Way N F d ps → d < N → n + length ps ≡ N → Low n d
    low_from zero w l e = let s = way_short some w l in absurd (omega arith)
    low_from (suc n) {d} {ps} w l e =
        low n d (λ x h f.
        let t = leads d x h in
        low_from n (step x ps t.0 (rw (parent_is N F x d (once x f t.0) l h) w)) t.1 (omega arith))

    -- order 6's sentence as an equation
    pub total_is_sum : (d : ℕ) → d < N → Reaches N F d → total N d ≡ sum_over (name_counts F is_folder size (total N)) (inodes (F d))
    unfolding folder_total
    total_is_sum d l r =
        let w = reaches_way N F r in
        let s = way_short some w.1 l in
        let b = low_from (N - length w.0) w.1 l (omega arith) in
        low_total b N (omega arith) ∙ sym (low_total b (suc N) (omega arith))

-- a folder without names has nothing beneath it
pub total_empty : (F : Folders) (is_folder : ℕ → Bool) (size : ℕ → ℕ) (n d : ℕ) → F d ≡ [] → folder_total F is_folder size n d ≡ 0
unfolding folder_total sum_over
total_empty F is_folder size zero d e = refl
total_empty F is_folder size (suc n) d e = rw e

-- totals ask only what the names lead to
pub total_same : (F : Folders) (f g : ℕ → Bool) (s t : ℕ → ℕ)
    → ((d x : ℕ) → has x (inodes (F d)) ≡ true → (g x ≡ f x) × (f x ≡ false → t x ≡ s x))
    → (n d : ℕ) → folder_total F g t n d ≡ folder_total F f s n d
unfolding folder_total name_counts
total_same F f g s t h zero d = refl
total_same F f g s t h (suc n) d =
    sum_over_same (name_counts F g t (folder_total F g t n)) (name_counts F f s (folder_total F f s n)) (inodes (F d))
    (λ x e. let c = h d x e in rw c.0 (by_bool (f x) (λ q. rw q (total_same F f g s t h n x)) (λ q. rw q (c.1 q))))

-- A total is small: all folders' totals together grow by at most one folder's bytes for each folder and each step, since each folder has
-- one name.

count_tail : (y x : ℕ) (xs : List ℕ) → count y xs ≤ count y (x ∷ xs)
unfolding count
count_tail y x xs = omega arith

count_here : (x : ℕ) (xs : List ℕ) → count x (x ∷ xs) ≡ 1 + count x xs
unfolding count
count_here x xs = let b = bit_same x x refl in omega arith

sum_most : (n : ℕ) → sum_below n (λ i. 14680064) ≡ n * 14680064
unfolding sum_below
sum_most zero = refl
sum_most (suc n) = let r = sum_most n in omega arith

sum_none : (n : ℕ) (f : ℕ → ℕ) → ((i : ℕ) → f i ≡ 0) → sum_below n f ≡ 0
unfolding sum_below
sum_none zero f h = refl
sum_none (suc n) f h = let r = sum_none n f h in let a = h n in omega arith

-- numbers of which each counts once, if it counts at all
sum_over_within : (N : ℕ) (f : ℕ → ℕ) (xs : List ℕ) → ((x : ℕ) → has x xs ≡ true → x < N) → ((x : ℕ) → (f x ≡ 0) ⊎ (count x xs ≤ 1))
    → sum_over f xs ≤ sum_below N f
unfolding sum_over
sum_over_within N f [] b o = omega arith
sum_over_within N f (x ∷ xs) b o =
    by_eq (f x) 0
    (λ z. let r = sum_over_within N f xs (λ y h. b y (has_tail y x xs h)) (λ y. fewer y) in omega arith)
    (λ z.
    let g : ℕ → ℕ = λ y. cond (eqb y x) 0 (f y) in
    let c = sum_below_change N x f g (b x (has_head x xs)) (λ y n. rw (ne_eqb y x n)) in
    let e : g x ≡ 0 = rw (eq-eqb x x refl) in
    let s = sum_over_same f g xs (λ y h. rw (ne_eqb y x (λ q. absent z (rw q at h)))) in
    let r = sum_over_within N g xs (λ y h. b y (has_tail y x xs h))
    (λ y. by_eq y x (λ q. inl (rw (eq-eqb y x q))) (λ q. rw (ne_eqb y x q) (fewer y))) in
    omega arith)
  where
    fewer : (y : ℕ) → (f y ≡ 0) ⊎ (count y xs ≤ 1)
    fewer y = ⊎_elim (λ z. inl z) (λ c. inr (let r = count_tail y x xs in omega arith)) (o y)

    absent : (f x ≡ 0 → ⊥) → has x xs ≡ true → ⊥
    absent z h = ⊎_elim z (λ c. let a = has_count x xs h in let r = count_here x xs in omega arith) (o x)

-- the inodes that the names of the first n folders lead to
unfoldable flat : ℕ → Folders → List ℕ
flat zero F = []
flat (suc n) F = inodes (F n) ++ flat n F

sum_over_append : (f : ℕ → ℕ) (xs ys : List ℕ) → sum_over f (xs ++ ys) ≡ sum_over f xs + sum_over f ys
unfolding sum_over
sum_over_append f [] ys = omega arith
sum_over_append f (x ∷ xs) ys = let r = sum_over_append f xs ys in rw (sum_over, r) (omega arith)

flat_sum : (n : ℕ) (F : Folders) (f : ℕ → ℕ) → sum_below n (λ d. sum_over f (inodes (F d))) ≡ sum_over f (flat n F)
unfolding flat sum_below sum_over
flat_sum zero F f = refl
flat_sum (suc n) F f = let r = flat_sum n F f in rw (sum_over_append f (inodes (F n)) (flat n F)) (omega arith)

flat_count : (n : ℕ) (F : Folders) (k : ℕ) → count k (flat n F) ≡ sum_below n (λ d. count k (inodes (F d)))
unfolding flat sum_below count
flat_count zero F k = refl
flat_count (suc n) F k = let r = flat_count n F k in rw (count_append k (inodes (F n)) (flat n F)) (omega arith)

flat_in : (n : ℕ) (F : Folders) (N k : ℕ) → ((d x : ℕ) → has x (inodes (F d)) ≡ true → x < N) → has k (flat n F) ≡ true → k < N
unfolding flat has
flat_in zero F N k b h = no h
flat_in (suc n) F N k b h = ⊎_elim (λ e. b n k e) (λ e. flat_in n F N k b e) (has_append k (inodes (F n)) (flat n F) h)

sum_over_add : (f g h : ℕ → ℕ) (xs : List ℕ) → ((x : ℕ) → h x ≡ f x + g x) → sum_over h xs ≡ sum_over f xs + sum_over g xs
unfolding sum_over
sum_over_add f g h [] e = refl
sum_over_add f g h (x ∷ xs) e = let r = sum_over_add f g h xs e in let q = e x in omega arith

sum_over_most : (f : ℕ → ℕ) (xs : List ℕ) → ((x : ℕ) → f x ≤ 65536) → sum_over f xs ≤ 65536 * length xs
unfolding sum_over
sum_over_most f [] h = omega arith
sum_over_most f (x ∷ xs) h = let r = sum_over_most f xs h in let a = h x in omega arith

module _ (N : ℕ) (F : Folders) (is_folder : ℕ → Bool) (size : ℕ → ℕ) (few : N ≤ 256)
    (short : (d : ℕ) → length (inodes (F d)) ≤ 224) (leads : (d x : ℕ) → has x (inodes (F d)) ≡ true → x < N)
    (once : (x : ℕ) → is_folder x ≡ true → name_count N F x ≤ 1) (sizes : (x : ℕ) → size x ≤ 65536) where
  abbrev all_of : ℕ → ℕ
  all_of n = sum_below N (folder_total F is_folder size n)

  grows : (n : ℕ) → all_of (suc n) ≤ all_of n + 3758096384
  unfolding folder_total name_counts name_count
  grows n =
      let T = folder_total F is_folder size n in
      let f : ℕ → ℕ = λ k. cond (is_folder k) (T k) 0 in
      let g : ℕ → ℕ = λ k. cond (is_folder k) 0 (size k) in
      let split : (d : ℕ) → sum_over (name_counts F is_folder size T) (inodes (F d)) ≡ sum_over f (inodes (F d)) + sum_over g (inodes (F d)) =
      λ d. sum_over_add f g (name_counts F is_folder size T) (inodes (F d))
      (λ k. by_bool (is_folder k) (λ t. rw t (omega arith)) (λ t. rw t (omega arith))) in
      let files : (d : ℕ) → sum_over g (inodes (F d)) ≤ 14680064 =
      λ d. let a = sum_over_most g (inodes (F d)) (λ x. by_bool (is_folder x) (λ t. rw t (omega arith)) (λ t. rw t (sizes x))) in
      let b = short d in omega arith in
      let folders : sum_below N (λ d. sum_over f (inodes (F d))) ≤ sum_below N f =
      rw (flat_sum N F f) (sum_over_within N f (flat N F) (λ x h. flat_in N F N x leads h)
      (λ x. by_bool (is_folder x) (λ t. inr (rw (flat_count N F x) (once x t))) (λ t. inl (rw t)))) in
      let part : sum_below N f ≤ all_of n = sum_below_le N f T
      (λ k l. by_bool (is_folder k) (λ t. rw t (omega arith)) (λ t. rw t (omega arith))) in
      let both : all_of (suc n) ≤ sum_below N (λ d. sum_over f (inodes (F d))) + sum_below N (λ d. 14680064) =
      sum_below_add N _ _ _ (λ d l. let s = split d in let h = files d in omega arith) in
      let flatly = sum_most N in omega arith

  pub total_small : (n d : ℕ) → d < N → n ≤ 256 → folder_total F is_folder size n d ≤ 962072674304
  unfolding folder_total
  total_small n d l m = let r = go n in let s = sum_below_one N d (folder_total F is_folder size n) l in omega arith
    where
      go : (n : ℕ) → all_of n ≤ n * 3758096384
      go zero = let z = sum_none N (folder_total F is_folder size 0) (λ i. refl) in omega arith
      go (suc n) = let r = go n in let s = grows n in omega arith
