-- The cases of the count of pages without a mark.
use Rattle.model.proofs.Prelude.{ℕ, suc, ◌+◌, ◌/◌, ◌≤◌, ◌<◌, ◌≡◌, refl, Bool, true, false, List, arith, eqb, get_or, lt-ltb, le-ltb}
use Rattle.std.specs.Int.{from_bool}
use Rattle.model.specs.Lists.{bit, sum_below}
use Rattle.model.specs.Layout.{in_pages}
use Rattle.marks.specs.Marks.{unmarked}
use Rattle.inodes.specs.Judged.{unmarked_count}

-- Page p.
module _ (b : List ℕ) (P N p : ℕ) (l : p < P) where
  pub table_page : p ≤ N / 8 → false ≡ unmarked b P N p
  unfolding unmarked in_pages
  table_page h = rw (le-ltb (N / 8) p h)

  pub other_page : N / 8 < p → eqb (get_or b p 0) 0 ≡ unmarked b P N p
  unfolding unmarked in_pages
  other_page h = rw (lt-ltb (N / 8) p h, lt-ltb p P l)

-- The loop: the pages below p are counted.
abbrev pub counted_below : List ℕ → ℕ → ℕ → ℕ → ℕ
counted_below b P N p = sum_below p (λ q. bit (unmarked b P N q))

module _ (b : List ℕ) (P N : ℕ) where
  pub count_start : 0 ≡ counted_below b P N 0
  unfolding sum_below
  count_start = refl

  pub count_next : (p n : ℕ) (x : Bool) → n ≡ counted_below b P N p → x ≡ unmarked b P N p → n + from_bool x ≡ counted_below b P N (p + 1)
  unfolding sum_below bit
  count_next p n true e h = let s : p + 1 ≡ suc p = omega arith in rw (s, sum_below, ← h) (omega arith)
  count_next p n false e h = let s : p + 1 ≡ suc p = omega arith in rw (s, sum_below, ← h) (omega arith)

  pub count_end : (p n : ℕ) → n ≡ counted_below b P N p → p ≡ P → n ≡ unmarked_count b P N
  unfolding unmarked_count
  count_end p n e s = rw s at e
