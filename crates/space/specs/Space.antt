-- What a search for free pages finds, and what it leaves of the marks where it takes them.
use Rattle.std.specs.Prelude.{ℕ, ◌-◌, ◌<◌, ◌≡◌, Bool, true, not, List, ltb, length, get_or, take}
use Rattle.model.specs.Lists.{lowest_few}
use Rattle.model.specs.Calls.{besides, lowest_pages}
use Rattle.marks.specs.Marks.{unmarked}

-- The lowest pages from page `from` on of which f holds were sought, of P, as many as the array os has elements: r is whether there are so
-- many, and then they are the array's elements ps.
pub record Found (f : ℕ → Bool) (P from : ℕ) (os : List ℕ) (r : Bool) (ps : List ℕ) : Type 0 where
  pub answer : r ≡ not (ltb (length (lowest_few f (P - from) from (length os))) (length os))
  pub pages : r ≡ true → ps ≡ lowest_few f (P - from) from (length os)
  pub long : length ps ≡ length os

-- the elements of an array are pages of a volume
abbrev pub ArePages : List ℕ → Type 0
ArePages ps = (j : ℕ) → j < length ps → get_or ps j 0 < 4096

-- n pages for data, of P, were sought in the marks b: f says which are not marked, r is whether there are so many, and then they are the
-- first n elements of the array ps, which was os, and are marked in the marks c
module _ (b : List ℕ) (P N n : ℕ) (os : List ℕ) where
  abbrev f : ℕ → Bool
  f = unmarked b P N

  pub record PagesTaken (r : Bool) (ps c : List ℕ) : Type 0 where
    pub answer : r ≡ not (ltb (length (lowest_pages f P n)) n)
    pub pages : r ≡ true → take n ps ≡ lowest_pages f P n
    pub left : r ≡ true → unmarked c P N ≡ besides f (lowest_pages f P n)
    pub long : length ps ≡ length os
