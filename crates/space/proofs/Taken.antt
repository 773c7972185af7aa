-- Pages for data: found one after the other, and marked, which leaves them out of those without a mark.
use Rattle.model.proofs.Prelude.{ℕ, ◌+◌, ◌-◌, ◌≤◌, ◌<◌, ◌≡◌, refl, sym, ap, ◌∙◌, fun_ext, Bool, true, false, not, List, [], ◌∷◌, ◌++◌, none, some, take-length, append-nil, append_assoc, arith, add-one, length, get_or, take, drop, set, length-append, length-set, length-take-le, take-suc-set, take-append_seam, drop-cons, drop_of_length-le, get_or-set_same, get_or-set_other, eq-eqb, ne_eqb, ltb, lt-ltb, le-ltb, not-true, not-false}
use Rattle.std.proofs.lemmas.List.{take-append-drop}
use Rattle.model.specs.Lists.{lowest, lowest_few, has, or_else}
use Rattle.model.specs.Layout.{in_pages}
use Rattle.model.specs.Calls.{besides, lowest_run, lowest_pages}
use Rattle.model.proofs.Tests.{by_bool, by_eq, no, and_left}
use Rattle.model.proofs.Lists.{has_get_or, few_none, few_holds}
use Rattle.model.proofs.Calls.DataPages.{pages_from}
use Rattle.model.proofs.Frame.Placed.{in_bounds}
use Rattle.words.proofs.Cond.{and_falseʳ}
use Rattle.marks.specs.Marks.{marked, unmarked}
use Rattle.space.specs.Space.{Found, ArePages, PagesTaken}
use Rattle.space.proofs.Few.{few_next, few_nowhere}

-- a page just marked
now_marked : (b : List ℕ) (P N p : ℕ) → P ≤ length b → unmarked (set b p 1) P N p ≡ false
unfolding unmarked
now_marked b P N p l =
    by_bool (in_pages P N p) (λ e. let h = in_bounds P N p e in rw (e, get_or-set_same b p 1 0 (omega arith))) (λ e. rw e)

marked_besides : (ps b : List ℕ) (P N q : ℕ) → P ≤ length b → unmarked (marked b ps) P N q ≡ besides (unmarked b P N) ps q
unfolding marked besides has unmarked
marked_besides [] b P N q l = by_bool (unmarked b P N q) (λ e. rw e) (λ e. rw e)
marked_besides (p ∷ ps) b P N q l =
    marked_besides ps (set b p 1) P N q (rw length-set l)
    ∙ by_eq q p (λ e. rw (e, now_marked b P N p l, eq-eqb p p refl) (sym (and_falseʳ (unmarked b P N p) false refl)))
    (λ e. rw (ne_eqb q p e, unmarked, get_or-set_other b p q 1 0 e))

pub length_marked : (ps b : List ℕ) → length (marked b ps) ≡ length b
unfolding marked
length_marked [] b = refl
length_marked (p ∷ ps) b = length_marked ps (set b p 1) ∙ length-set b p 1

-- The loop of `find_pages`: the first i elements of the array ps, which was os, are pages found, and the others are sought from s on.

pub record Finding (f : ℕ → Bool) (P from : ℕ) (os ps : List ℕ) (s i : ℕ) : Type 0 where
  pub long : length ps ≡ length os
  pub rest : take i ps ++ lowest_few f (P - s) s (length os - i) ≡ lowest_few f (P - from) from (length os)

module _ (f : ℕ → Bool) (P from : ℕ) (os : List ℕ) where
  abbrev n : ℕ
  n = length os

  module _ (ps : List ℕ) (s i : ℕ) (y : Finding f P from os ps s i) where
    module _ (l : i < n) where
      -- p is the next page found
      pub finding_next : (p : ℕ) → some p ≡ lowest f (P - s) s → Finding f P from os (set ps i p) (p + 1) (i + 1)
      finding_next p e =
          let c : n - i ≡ n - (i + 1) + 1 = omega arith in
          let next = (few_next f P s (n - (i + 1)) p (sym e)).0 in
          let t : take (i + 1) (set ps i p) ≡ take i ps ++ (p ∷ []) = rw (add-one i) (take-suc-set ps i p (omega (arith, y.long))) in
          record { long = rw length-set y.long; rest = rw (t, append_assoc) (rw (c, next) at y.rest) }

      pub find_lacks : none ≡ lowest f (P - s) s → Found f P from os false ps
      find_lacks e =
          let d = length-take-le i ps (omega (arith, y.long)) in
          let few : length (lowest_few f (P - from) from n) ≡ length (take i ps) + 0
          = ap length (sym y.rest) ∙ length-append (take i ps) (lowest_few f (P - s) s (n - i)) ∙ rw (few_nowhere f P s (n - i) (sym e)) in
          record { answer = rw (lt-ltb (length (lowest_few f (P - from) from n)) n (omega arith)); pages = λ q. no q; long = y.long }

    pub find_all : i ≤ n → n ≤ i → Found f P from os true ps
    find_all l h =
        let z : n - i ≡ 0 = omega arith in
        let e : i ≡ n = omega arith in
        let all : ps ≡ lowest_few f (P - from) from n
        = rw (e, ← y.long) (sym (take-length ps)) ∙ sym (append-nil (take i ps)) ∙ (rw (z, few_none) at y.rest) in
        let m : length (lowest_few f (P - from) from n) ≡ n = ap length (sym all) ∙ y.long in
        record { answer = rw (le-ltb (length (lowest_few f (P - from) from n)) n (omega arith)); pages = λ q. all; long = y.long }

-- The loop of `mark_pages`: the pages from the i-th on are still to be marked.

module _ (z c ps : List ℕ) (i : ℕ) (y : marked c (drop i ps) ≡ z) where
  pub mark_turn : (d : List ℕ) (p : ℕ) → i < length ps → p ≡ get_or ps i 0 → d ≡ set c p 1 → marked d (drop (i + 1) ps) ≡ z
  unfolding marked
  mark_turn d p l e g =
      let t : drop i ps ≡ p ∷ drop (i + 1) ps = drop-cons ps i 0 l ∙ rw (← e, add-one i) in
      rw g (rw t at y)

  pub mark_end : length ps ≤ i → c ≡ z
  unfolding marked
  mark_end l = rw (drop_of_length-le ps {i = i} l) at y

-- `take_pages`: `from` is what `search_start` answered, and r and ps are what `find_pages` answered and left of the first n elements of os.
module _ (b : List ℕ) (P N n from : ℕ) (os ps : List ℕ) (r : Bool) (low : P ≤ 4096) (e : from ≡ or_else (lowest_run (unmarked b P N) P n) 0)
    (room : n ≤ length os) (y : Found (unmarked b P N) P from (take n os) r ps) where
  abbrev f : ℕ → Bool
  f = unmarked b P N

  bound : (p : ℕ) → f p ≡ true → p < P
  unfolding unmarked
  bound p h = (in_bounds P N p (and_left _ _ h)).1

  sought : length (take n os) ≡ n
  sought = length-take-le n os room

  same : lowest_pages f P n ≡ lowest_few f (P - from) from n
  same = rw e (pages_from f P bound n)

  -- the elements of os then
  abbrev now : List ℕ
  now = ps ++ drop n os

  first : take n now ≡ ps
  first = ap (λ m. take m now) (sym (y.long ∙ sought)) ∙ take-append_seam ps (drop n os)

  now_long : length now ≡ length os
  now_long = length-append ps (drop n os) ∙ rw y.long (sym (length-append (take n os) (drop n os))) ∙ ap length (take-append-drop n os)

  answer : r ≡ not (ltb (length (lowest_pages f P n)) n)
  answer = rw (same, ← sought) y.answer

  module _ (h : not r ≡ false) where
    found : ps ≡ lowest_pages f P n
    found = y.pages (not-false r h) ∙ rw (same, sought)

    pub found_pages : ArePages (take n (ps ++ drop n os))
    found_pages j l =
        let k : j < length ps = rw first at l in
        let m = rw (ap (has (get_or ps j 0)) (found ∙ same)) at (has_get_or ps j k) in
        rw first (omega (arith, bound (get_or ps j 0) (few_holds f (P - from) from n (get_or ps j 0) m).0))

    pub take_all : (c : List ℕ) → length b ≡ 4096 → c ≡ marked b (take n (ps ++ drop n os)) → PagesTaken b P N n os true (ps ++ drop n os) c
    take_all c long g =
        record {
          answer = sym (not-false r h) ∙ answer;
          pages = λ q. first ∙ found;
          left = λ q. rw (g, first) (fun_ext (λ p. marked_besides ps b P N p (omega arith)) ∙ ap (besides f) found);
          long = now_long;
        }

  pub take_lacks : not r ≡ true → PagesTaken b P N n os false (ps ++ drop n os) b
  take_lacks h = record { answer = sym (not-true r h) ∙ answer; pages = λ q. no q; left = λ q. no q; long = now_long }
