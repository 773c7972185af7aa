-- Pages that can be marked one after the other are pages that serve once: a mark counts as one use, and each page
-- marked moves one use from the list into the marks.
use Rattle.model.proofs.Prelude.{ℕ, zero, suc, ◌+◌, ◌≤◌, ◌<◌, ◌≡◌, refl, sym, ◌∙◌, true, false, ◌&&◌, List, [], ◌∷◌, ◌++◌, arith, add-zero, zero-add, length, get_or, set, replicate, length-set, get_or-replicate, length-replicate, get_or-eq_default, get_or-set_same, get_or-set_other, eqb, eq-eqb, ne_eqb, eqb-true, le-leb, lt-leb}
use Rattle.model.specs.Lists.{bit, all, has, count, sum_below, all_below}
use Rattle.model.specs.Words.{Mem}
use Rattle.model.specs.Layout.{in_pages, is_directory, file_pages}
use Rattle.model.specs.State.{File, file_of}
use Rattle.model.specs.Accept.{is_valid, mapped_to, uses_by, uses, free, serves_once}
use Rattle.model.proofs.Tests.{by_bool, by_eq, by_lt, no, clash, not_true_false, cond_and, bit_same, bit_other}
use Rattle.model.proofs.Lists.{all_below_at, all_below_by, has_head, has_tail, count_append, all_cons, all_has}
use Rattle.model.proofs.Frame.Placed.{in_bounds}
use Rattle.marks.specs.Marks.{fresh, marked, unmarked, mapped_by, used_by, used_below}

-- Lists one after the other.

pub fresh_append : (u xs ys : List ℕ) → fresh u (xs ++ ys) ≡ fresh u xs && fresh (marked u xs) ys
unfolding fresh marked
fresh_append u [] ys = refl
fresh_append u (x ∷ xs) ys = by_bool (eqb (get_or u x 0) 0) (λ e. rw (fresh, e) (fresh_append (set u x 1) xs ys)) (λ e. rw (fresh, e))

pub marked_append : (u xs ys : List ℕ) → marked u (xs ++ ys) ≡ marked (marked u xs) ys
unfolding marked
marked_append u [] ys = refl
marked_append u (x ∷ xs) ys = marked_append (set u x 1) xs ys

-- Marks and counts: where the pages can be marked, the marks afterwards are the marks before and the counts, and of
-- pages that cannot be marked one is counted twice.

module _ (P N : ℕ) (low : P ≤ 4096) where
  mark_at : (ps u : List ℕ) → length u ≡ 4096 → all (in_pages P N) ps ≡ true → fresh u ps ≡ true → (p : ℕ)
      → (get_or (marked u ps) p 0 ≡ get_or u p 0 + count p ps) × (get_or u p 0 ≤ 1 → get_or (marked u ps) p 0 ≤ 1)
  unfolding fresh marked count
  mark_at [] u l a f p = (omega arith, λ b. b)
  mark_at (q ∷ ps) u l a f p =
      let c = all_cons (in_pages P N) q ps a in
      let d = cond_and (eqb (get_or u q 0) 0) (fresh (set u q 1) ps) f in
      let z = eqb-true (get_or u q 0) 0 d.0 in
      let i = in_bounds P N q c.0 in
      let r = mark_at ps (set u q 1) (length-set u q 1 ∙ l) c.1 d.1 p in
      by_eq p q
      (λ e.
      let s : get_or (set u q 1) p 0 ≡ 1 = rw e (get_or-set_same u q 1 0 (omega arith)) in
      let g : get_or u p 0 ≡ 0 = rw e z in
      let h = bit_same p q e in
      (omega (arith, r.0), λ b. r.1 (omega arith)))
      (λ e.
      let s : get_or (set u q 1) p 0 ≡ get_or u p 0 = get_or-set_other u q p 1 0 e in
      let h = bit_other p q e in
      (omega (arith, r.0), λ b. r.1 (omega arith)))

  record Twice (u ps : List ℕ) : Type 0 where
    pub page : ℕ
    pub among : has page ps ≡ true
    pub two : 2 ≤ get_or u page 0 + count page ps

  twice : (ps u : List ℕ) → length u ≡ 4096 → all (in_pages P N) ps ≡ true → fresh u ps ≡ false → Twice u ps
  unfolding fresh count
  twice [] u l a f = no (sym f)
  twice (q ∷ ps) u l a f =
      let c = all_cons (in_pages P N) q ps a in
      let i = in_bounds P N q c.0 in
      by_eq (get_or u q 0) 0
      (λ z.
      let t = twice ps (set u q 1) (length-set u q 1 ∙ l) c.1 (rw (fresh, eq-eqb (get_or u q 0) 0 z) at f) in
      by_eq t.page q
      (λ e.
      let s : get_or (set u q 1) q 0 ≡ 1 = get_or-set_same u q 1 0 (omega arith) in
      let r = rw e at t.two in
      record { page = q; among = has_head q ps; two = rw (count, bit_same q q refl) (omega arith) })
      (λ e.
      let s : get_or (set u q 1) t.page 0 ≡ get_or u t.page 0 = get_or-set_other u q t.page 1 0 e in
      let r = t.two in
      record { page = t.page; among = has_tail t.page q ps t.among; two = rw (count, bit_other t.page q e) (omega arith) }))
      (λ z. record { page = q; among = has_head q ps; two = rw (count, bit_same q q refl) (omega arith) })

-- The counts of the lists of pages are the model's uses.

bit_turn : (a b : ℕ) → bit (eqb a b) ≡ bit (eqb b a)
bit_turn a b = by_eq a b (λ e. rw e) (λ e. bit_other a b e ∙ sym (bit_other b a (λ z. e (sym z))))

module _ (f : ℕ → ℕ) (p : ℕ) (l : 0 < p) where
  sum_next : (i : ℕ) → sum_below (i + 1) (λ j. bit (eqb (f j) p)) ≡ bit (eqb (f i) p) + sum_below i (λ j. bit (eqb (f j) p))
  unfolding sum_below
  sum_next i = let s : i + 1 ≡ suc i = omega arith in rw s

  count_from_lem : (n i : ℕ) → count p (mapped_by f i n) + sum_below i (λ j. bit (eqb (f j) p)) ≡ sum_below (i + n) (λ j. bit (eqb (f j) p))
  unfolding mapped_by count
  count_from_lem zero i = rw (add-zero i, zero-add)
  count_from_lem (suc n) i =
      let s : i + suc n ≡ i + 1 + n = omega arith in
      let h = count_from_lem n (i + 1) in
      let g = sum_next i in
      by_eq (f i) 0
      (λ z. let b : bit (eqb (f i) p) ≡ 0 = bit_other (f i) p (omega arith) in rw (s, mapped_by, eq-eqb (f i) 0 z) (omega arith))
      (λ z. let b = bit_turn p (f i) in rw (s, mapped_by, ne_eqb (f i) 0 z, count) (omega arith))

count_mapped : (f : File) (p : ℕ) → 0 < p → count p (mapped_by f.page 0 file_pages) ≡ mapped_to f p
unfolding mapped_to sum_below
count_mapped f p l = sym (add-zero _) ∙ count_from_lem f.page p l 128 0

module _ (u : Mem) (P N : ℕ) where
  count_by : (p k : ℕ) → 0 < p → count p (used_by u P N k) ≡ uses_by u P N p k
  unfolding used_by uses_by count
  count_by p k l =
      by_bool (is_valid u k)
      (λ v. by_bool (is_directory u k) (λ z. rw (used_by, uses_by, v, z, count_append))
      (λ z. rw (used_by, uses_by, v, z, count_append, count_mapped (file_of u P N k) p l)))
      (λ v. rw (used_by, uses_by, v))

  count_below : (p k : ℕ) → 0 < p → count p (used_below u P N k) ≡ sum_below k (uses_by u P N p)
  unfolding used_below sum_below count
  count_below p zero l = refl
  count_below p (suc k) l = rw (used_below, count_append, count_below p k l, count_by p k l) (omega arith)

-- All pages that serve, marked on marks of which none is set.

no_mark : (p : ℕ) → ◌≡◌ {A = ℕ} (get_or (replicate 4096 0) p 0) 0
no_mark p = by_lt p 4096 (get_or-replicate 4096 p 0 0) (λ l. get_or-eq_default (replicate 4096 0) 0 {n = p} (rw length-replicate l))

module _ (u : Mem) (P N : ℕ) (low : P ≤ 4096) (ins : all (in_pages P N) (used_below u P N N) ≡ true) where
  module _ (f : fresh (replicate 4096 0) (used_below u P N N) ≡ true) where
    -- the mark of a page is the count of its uses, 0 or 1
    mark_uses : (p : ℕ) → 0 < p → (get_or (marked (replicate 4096 0) (used_below u P N N)) p 0 ≡ uses u P N p) × (uses u P N p ≤ 1)
    unfolding uses
    mark_uses p l =
        let r = mark_at P N low (used_below u P N N) (replicate 4096 0) (length-replicate {A = ℕ} 4096 0) ins f p in
        let b = no_mark p in
        let c = count_below u P N p N l in
        let d = r.1 (omega arith) in
        (omega (arith, r.0), omega (arith, r.0))

    served : (p : ℕ) → p < P → serves_once u P N p ≡ true
    unfolding serves_once
    served p l = by_eq p 0 (λ z. rw (eq-eqb p 0 z)) (λ z. rw (ne_eqb p 0 z) (le-leb (uses u P N p) 1 (mark_uses p (omega arith)).1))

    -- a log or data page without a mark is free
    pub unmarked_free : (p : ℕ) → unmarked (marked (replicate 4096 0) (used_below u P N N)) P N p ≡ free u P N p
    unfolding unmarked free
    unmarked_free p =
        by_bool (in_pages P N p) (λ i. let b = in_bounds P N p i in rw (i, (mark_uses p (omega arith)).0)) (λ i. rw i)

  served_twice : fresh (replicate 4096 0) (used_below u P N N) ≡ false → all_below P (serves_once u P N) ≡ false
  unfolding uses serves_once
  served_twice f =
      let t = twice P N low (used_below u P N N) (replicate 4096 0) (length-replicate {A = ℕ} 4096 0) ins f in
      let x = t.page in
      let i = in_bounds P N x (all_has (in_pages P N) x (used_below u P N N) ins t.among) in
      let b = no_mark x in
      let d = count_below u P N x N (omega arith) in
      let two : 2 ≤ get_or (replicate 4096 0) x 0 + count x (used_below u P N N) = t.two in
      let g = lt-leb (sum_below N (uses_by u P N x)) 1 (omega arith) in
      let h : serves_once u P N x ≡ false = rw (ne_eqb x 0 (omega arith), g) in
      not_true_false _ (λ a. clash _ (all_below_at P x (serves_once u P N) a i.1) h)

  pub fresh_uses : fresh (replicate 4096 0) (used_below u P N N) ≡ all_below P (serves_once u P N)
  fresh_uses =
      by_bool (fresh (replicate 4096 0) (used_below u P N N)) (λ f. f ∙ sym (all_below_by P (serves_once u P N) (served f)))
      (λ f. f ∙ sym (served_twice f))
