-- What commits a first group that stands in a lent list, as the code puts it behind the group.
use Rattle.std.specs.Prelude.{ℕ, zero, suc, ◌+◌, ◌*◌, ◌/◌, ◌≤◌, ◌<◌, List, [], ◌∷◌, length, get_or}
use Rattle.model.specs.Words.{Mem, word}
use Rattle.model.specs.Journal.{enqueue_word, target_word, old_word}
use Rattle.model.specs.Stores.{Stores, one_word, both, store_list}
use Rattle.model.specs.Calls.{Change, commit}
use Rattle.stores.specs.Emitted.{Emitted}
use Rattle.stores.specs.Added.{Group}

-- n changes, from the j-th pair of a list of pairs of word index and value on
unfoldable pub changes_from : List ℕ → ℕ → ℕ → List Change
changes_from l j zero = []
changes_from l j (suc n) = let r = changes_from l (j + 1) n in (get_or l (2 * j) 0, get_or l (2 * j + 1) 0) ∷ r

-- all changes of such a list
abbrev pub changes_of : List ℕ → List Change
changes_of l = changes_from l 0 (length l / 2)

-- what position i logs of word t: its index, and its value as it stands
unfoldable pub logged : Mem → ℕ → ℕ → Stores
logged u i t = both (one_word (target_word i) t) (one_word (old_word i) (u t))

-- the volume v has a journal, and the words that the pairs of l name
pub record Pairs (v l : List ℕ) : Type 0 where
  pub page : 512 ≤ length v
  pub enqueue : word v enqueue_word < 16
  pub inside : (j : ℕ) → j < length l / 2 → 8 * get_or l (2 * j) 0 + 8 ≤ length v

-- The group that stands in the list l up to index `end` is committed with the changes cs, whatever the group: r is the index behind the
-- whole list, and m the list.
pub record Committed (v l : List ℕ) (end : ℕ) (cs : List Change) (r : ℕ) (m : List ℕ) : Type 0 where
  pub list : (l₀ : List ℕ) (s : Stores) → Group l₀ 0 s (length v / 8) end l
      → Emitted l₀ 0 (store_list (length v / 8) (commit (word v) s cs)) r m
