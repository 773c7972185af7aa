-- The rollback journal of document 01, "Volume", and the view: memory with the journal's open entries put back.
use Rattle.std.specs.Prelude.{ℕ, zero, suc, ◌+◌, ◌-◌, ◌*◌, ◌%◌, Bool, cond, ◌&&◌, List, [], ◌∷◌, map, leb, ltb, eqb}
use Rattle.model.specs.Lists.{all, distinct}
use Rattle.model.specs.Words.{Mem}

-- "Word 8 is the journal's dequeue position, word 9 its enqueue position."
abbrev pub dequeue_word : ℕ
dequeue_word = 8

abbrev pub enqueue_word : ℕ
enqueue_word = 9

-- "A position is below 16 and the one after 15 is 0."
abbrev pub position_count : ℕ
position_count = 16

abbrev pub next_position : ℕ → ℕ
next_position i = (i + 1) % position_count

-- how many steps lead from position d to position e
abbrev pub distance : ℕ → ℕ → ℕ
distance d e = (e + position_count - d) % position_count

-- "Position i holds a target word's index in word 16+2i and its old value in word 17+2i."
abbrev pub target_word : ℕ → ℕ
target_word i = 16 + 2 * i

abbrev pub old_word : ℕ → ℕ
old_word i = 17 + 2 * i

-- n positions from i on
unfoldable pub positions : ℕ → ℕ → List ℕ
positions zero i = []
positions (suc n) i = i ∷ positions n (next_position i)

-- "open entries (from dequeue up to enqueue)": their count, their positions, their targets
unfoldable pub open_count : Mem → ℕ
open_count m = distance (m dequeue_word) (m enqueue_word)

unfoldable pub open_positions : Mem → List ℕ
open_positions m = positions (open_count m) (m dequeue_word)

unfoldable pub open_targets : Mem → List ℕ
open_targets m = map (λ (i : ℕ). m (target_word i)) (open_positions m)

-- the journal is open if an entry of it is
unfoldable pub is_open : Mem → Bool
is_open m = ltb 0 (open_count m)

-- the old values of the positions put back; of two with one target the first counts
unfoldable pub put_back : List ℕ → Mem → Mem
put_back [] m w = m w
put_back (i ∷ is) m w = let r = put_back is m w in cond (eqb w (m (target_word i))) (m (old_word i)) r

-- "Everything is read with the journal's open entries [..] put back first."
unfoldable pub view : Mem → Mem
view m = put_back (open_positions m) m

-- "valid, head or tail words of inodes"
unfoldable pub target_ok : ℕ → ℕ → Bool
target_ok N t = leb 64 t && ltb t (64 + 8 * N) && ltb (t % 8) 3

-- "Positions [..] are as said above"
-- "At most four entries are open; their targets differ and are valid, head or tail words of inodes."
unfoldable pub journal_ok : Mem → ℕ → Bool
journal_ok m N =
    ltb (m dequeue_word) position_count && ltb (m enqueue_word) position_count && leb (open_count m) 4
    && all (target_ok N) (open_targets m) && distinct (open_targets m)
