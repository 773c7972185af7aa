-- What a function that adds stores to a group in a lent list leaves in it.
use Rattle.std.specs.Prelude.{ℕ, zero, suc, ◌+◌, ◌*◌, ◌<◌, ◌≡◌, cond, List, ltb, length, get_or}
use Rattle.model.specs.Lists.{values_from}
use Rattle.model.specs.Stores.{Stores, run, both, listed}
use Rattle.model.proofs.Crash.Stores.{Only}
use Rattle.stores.specs.Emitted.{Emitted}

-- the group s of a volume of W words stands in the list: l was put from `from` on into a list l₀, and ends at `end`
abbrev pub Group : List ℕ → ℕ → Stores → ℕ → ℕ → List ℕ → Type 0
Group l₀ from s W end l = Emitted l₀ from (listed s W 0) end l

-- The stores t were added to the group that stands in the list l from index `from` to `end`, whatever the group: what it stores
-- already counts before t. r is the index behind the group afterwards, and m the list.
pub record Added (l : List ℕ) (from end : ℕ) (t : Stores) (r : ℕ) (m : List ℕ) : Type 0 where
  pub long : length m ≡ length l
  pub grown : (l₀ : List ℕ) (s : Stores) (W : ℕ) → Group l₀ from s W end l → Only (λ w. w < W) t → Group l₀ from (both s t) W r m

-- The stores t were to be added to the group of the list l, which ended at `end`. By now the list is m, its group ends at e, and u is left
-- to add.
pub record Adding (l : List ℕ) (from end : ℕ) (t : Stores) (m : List ℕ) (e : ℕ) (u : Stores) : Type 0 where
  pub long : length m ≡ length l
  pub rest : {r : ℕ} {p : List ℕ} → Added m from e u r p → Added l from end t r p

-- element j of a list, and element a + j
unfoldable pub element : List ℕ → ℕ → ℕ
element l j = get_or l j 0

unfoldable pub element_from : List ℕ → ℕ → ℕ → ℕ
element_from l a j = get_or l (a + j) 0

-- n words of the list from index k on
abbrev pub part : List ℕ → ℕ → ℕ → List ℕ
part l k n = values_from (λ j. get_or l j 0) k n

-- the pairs of n words from w on, the j-th being f j
abbrev pub run_text : ℕ → ℕ → (ℕ → ℕ) → List ℕ
run_text w n f = listed (run w n f) n w

-- how many of n pairs from index `from` on stand before the first from behind whose index is less than i
unfoldable pub place_of : List ℕ → ℕ → ℕ → ℕ → ℕ
place_of l from zero i = 0
place_of l from (suc k) i = let r = place_of l from k i in cond (ltb (get_or l (from + 2 * k) 0) i) (k + 1) r
