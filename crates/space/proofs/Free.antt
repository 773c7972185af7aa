-- Where a volume was judged, its pages without a mark are the free ones, so that a search in the marks is a search for free pages.
use Rattle.model.proofs.Prelude.{ℕ, ◌≤◌, ◌≡◌, refl, fun_ext, true, List}
use Rattle.model.specs.Words.{Mem}
use Rattle.model.specs.Accept.{free}
use Rattle.marks.specs.Marks.{unmarked}
use Rattle.inodes.specs.Judged.{Served}
use Rattle.inodes.proofs.Once.{free_page}

-- u is the view, P and N are the sizes and b the marks that the judge left.
pub unmarked_pages : (u : Mem) (P N : ℕ) (b : List ℕ) → P ≤ 4096 → Served u P N true b → unmarked b P N ≡ free u P N
unmarked_pages u P N b low s = fun_ext (free_page u P N true b low s refl)
