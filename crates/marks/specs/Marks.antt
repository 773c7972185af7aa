-- Marks of pages, one byte each: 0 where a page is not marked. A judge marks the pages that serve, one after the other,
-- and stops at a page that was marked before. proofs/Counts.antt ties these lists to the model's counts of uses.
use Rattle.std.specs.Prelude.{ℕ, zero, suc, ◌+◌, ◌≡◌, Bool, true, false, cond, ◌&&◌, List, [], ◌∷◌, ◌++◌, eqb, ltb, set, get_or}
use Rattle.std.proofs.Math.Option.{Option}
use Rattle.model.specs.Lists.{all, is_some, or_else}
use Rattle.model.specs.Words.{Mem}
use Rattle.model.specs.Layout.{in_pages, is_directory, file_pages}
use Rattle.model.specs.Log.{pages}
use Rattle.model.specs.State.{file_of}
use Rattle.model.specs.Accept.{is_valid}

-- whether the pages can be marked one after the other, with none marked before its turn; u are the marks at first
unfoldable pub fresh : List ℕ → List ℕ → Bool
fresh u [] = true
fresh u (p ∷ ps) = let r = fresh (set u p 1) ps in cond (eqb (get_or u p 0) 0) r false

-- the marks u with the pages marked too
unfoldable pub marked : List ℕ → List ℕ → List ℕ
marked u [] = u
marked u (p ∷ ps) = marked (set u p 1) ps

-- whether page p is a log or data page and not marked in u; P is the page count and N the inode count
unfoldable pub unmarked : List ℕ → ℕ → ℕ → ℕ → Bool
unmarked u P N p = in_pages P N p && eqb (get_or u p 0) 0

-- What a judgement answers, r, of which `ok` says whether it is good, and that marks the pages ps; v are the marks that it leaves of the
-- marks u. Where the answer is no, nothing is said of the marks.
pub record Judged (ok : Bool) (u ps : List ℕ) (r : Bool) (v : List ℕ) : Type 0 where
  pub answer : r ≡ ok && fresh u ps
  pub list : r ≡ true → v ≡ marked u ps

-- The same where there is nothing to judge but the marks.
abbrev pub Marked : List ℕ → List ℕ → Bool → List ℕ → Type 0
Marked u ps r v = Judged true u ps r v

-- The same of a walk through the pages o of a log: none where it does not end.
abbrev pub Walked : Option (List ℕ) → List ℕ → Bool → List ℕ → Type 0
Walked o u r v = Judged (is_some o) u (or_else o []) r v

-- the data pages that n file pages from i on are mapped to; f gives the data page of a file page, 0 where it is unmapped
unfoldable pub mapped_by : (ℕ → ℕ) → ℕ → ℕ → List ℕ
mapped_by f i zero = []
mapped_by f i (suc n) = let r = mapped_by f (i + 1) n in cond (eqb (f i) 0) r (f i ∷ r)

-- the same of a table, which has the data page of file page i at index i
unfoldable pub mapped : List ℕ → ℕ → ℕ → List ℕ
mapped t i n = mapped_by (λ j. get_or t j 0) i n

-- whether each of the pages has a mark, of 4,096 marks
unfoldable pub have_marks : List ℕ → Bool
have_marks = all (λ p. ltb p 4096)

-- the pages that serve inode k: the list whose counts are `uses_by`
unfoldable pub used_by : Mem → ℕ → ℕ → ℕ → List ℕ
used_by u P N k =
    cond (is_valid u k)
    (pages u P N k ++ cond (is_directory u k) [] (mapped_by (file_of u P N k).page 0 file_pages)) []

-- the pages that serve the inodes below k
unfoldable pub used_below : Mem → ℕ → ℕ → ℕ → List ℕ
used_below u P N zero = []
used_below u P N (suc k) = used_below u P N k ++ used_by u P N k
