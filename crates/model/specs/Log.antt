-- An inode's log, document 01, "Volume": its walk, its pages, its entries.
use Rattle.std.specs.Prelude.{ℕ, zero, suc, ◌+◌, ◌*◌, ◌/◌, ◌%◌, Bool, cond, List, [], ◌∷◌, ◌++◌, map, eqb}
use Rattle.std.proofs.Math.Option.{Option, none, some}
use Rattle.model.specs.Lists.{has, or_else}
use Rattle.model.specs.Words.{Mem}
use Rattle.model.specs.Layout.{head_word, tail_word, footer, in_pages, page_entries}
use Rattle.model.specs.Entry.{Entry, entry_at}

abbrev pub onto : ℕ → Option (List ℕ) → Option (List ℕ)
onto p none = none
onto p (some r) = some (p ∷ r)

-- "the log runs from the head through the footers to just before the tail. The footer of the tail's page is not read."
-- The pages from p to the tail's page q; none where the walk leaves the log and data pages or has more than n pages.
-- A walk of P pages that has not ended never will: it stands on a page for the second time.
unfoldable pub walk : Mem → ℕ → ℕ → ℕ → ℕ → ℕ → Option (List ℕ)
walk m P N zero p q = none
walk m P N (suc n) p q =
    let r = onto p (walk m P N n (m (footer p)) q) in
    cond (in_pages P N p) (cond (eqb p q) (some (p ∷ [])) r) none

-- "the tail modulo 512 is one of 64, 128, .. 448"
unfoldable pub tail_ok : ℕ → Bool
tail_ok t = has (t % 512) (64 ∷ 128 ∷ 192 ∷ 256 ∷ 320 ∷ 384 ∷ 448 ∷ [])

-- The pages of a log with head h and tail t. "Tail 0 means an empty log, and the head is then not read."
unfoldable pub pages_of : Mem → ℕ → ℕ → ℕ → ℕ → Option (List ℕ)
pages_of m P N h t = cond (eqb t 0) (some []) (cond (tail_ok t) (walk m P N P h (t / 512)) none)

-- the pages of inode k's log, if its tail is right and its walk ends
unfoldable pub log_pages : Mem → ℕ → ℕ → ℕ → Option (List ℕ)
log_pages m P N k = pages_of m P N (m (head_word k)) (m (tail_word k))

unfoldable pub pages : Mem → ℕ → ℕ → ℕ → List ℕ
pages m P N k = or_else (log_pages m P N k) []

-- how many entries the tail's page holds
abbrev pub tail_slots : Mem → ℕ → ℕ
tail_slots m k = m (tail_word k) % 512 / 64

-- the first words of n entries, the first of them at word w
unfoldable pub slots : ℕ → ℕ → List ℕ
slots zero w = []
slots (suc n) w = w ∷ slots n (w + 8)

-- the first words of a log's entries: seven on each page, c on the last
unfoldable pub entry_words : List ℕ → ℕ → List ℕ
entry_words [] c = []
entry_words (p ∷ []) c = slots c (64 * p)
entry_words (p ∷ q ∷ ps) c = slots page_entries (64 * p) ++ entry_words (q ∷ ps) c

-- the entries of inode k's log, in log order
unfoldable pub entries : Mem → ℕ → ℕ → ℕ → List Entry
entries m P N k = map (entry_at m) (entry_words (pages m P N k) (tail_slots m k))
