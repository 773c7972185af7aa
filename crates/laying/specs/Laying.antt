-- A log as it is laid into a lent list, entry by entry: how far it is, and what is left to lay.
use Rattle.std.specs.Prelude.{ℕ, ◌+◌, ◌*◌, ◌-◌, ◌/◌, ◌%◌, ◌≤◌, ◌<◌, ◌≡◌, Bool, true, cond, List, [], ◌∷◌, ◌++◌, eqb, length, get_or, drop}
use Rattle.model.specs.Lists.{lowest_few}
use Rattle.model.specs.Stores.{Stores}
use Rattle.model.specs.Calls.{lay_entries, tail_after, pages_for}
use Rattle.marks.specs.Marks.{unmarked}
use Rattle.layout.specs.declared.Sizes.{Sizes}
use Rattle.stores.specs.Added.{Added, Adding}
use Rattle.entries.specs.Table.{entries_of}
use Rattle.laying.specs.declared.Laid.{Laid}

-- the page of tail t, if it has one; how many entries that page holds
unfoldable pub page_of : ℕ → List ℕ
page_of t = cond (eqb t 0) [] (t / 512 ∷ [])

abbrev pub slots_at : ℕ → ℕ
slots_at t = t % 512 / 64

-- how many fresh pages n further entries take behind tail t
unfoldable pub needed_at : ℕ → ℕ → ℕ
needed_at t n = pages_for (slots_at t + n) - length (page_of t)

-- nothing is laid, behind tail t: the group ends at e, and fresh pages are sought from page p on
abbrev pub start_at : ℕ → ℕ → ℕ → Laid
start_at e t p = record { end = e; head = 0; tail = t; from = p }

-- b are the marks, and s the sizes
module _ (b : List ℕ) (s : Sizes) where
  abbrev pub may_take : ℕ → Bool
  may_take = unmarked b s.pages s.inodes

  -- the n fresh pages that are found next
  abbrev pub fresh_from : Laid → ℕ → List ℕ
  fresh_from g n = lowest_few may_take (s.pages - g.from) g.from n

  -- the pages that n further entries are laid on: the tail's page and fresh ones
  unfoldable pub pages_behind : Laid → ℕ → List ℕ
  pages_behind g n = page_of g.tail ++ fresh_from g (needed_at g.tail n)

  -- what the entries es store there
  unfoldable pub to_lay : Laid → List (List ℕ) → Stores
  to_lay g es = lay_entries (pages_behind g (length es)) (slots_at g.tail) es

  -- the tail behind n further entries
  unfoldable pub tail_behind : Laid → ℕ → ℕ
  tail_behind g n = cond (eqb n 0) g.tail (tail_after (pages_behind g n) (slots_at g.tail) n)

  -- the head then: the first fresh page, where the log had no page
  unfoldable pub head_behind : Laid → ℕ → ℕ
  head_behind g n = cond (eqb n 0) g.head (cond (eqb g.tail 0) (get_or (fresh_from g (needed_at g.tail n)) 0 0) g.head)

  -- the k fresh pages that are found after theirs
  unfoldable pub left_behind : Laid → ℕ → ℕ → List ℕ
  left_behind g n k = drop (needed_at g.tail n) (fresh_from g (needed_at g.tail n + k))

  -- n further entries can be laid: the tail is one of a volume, there are pages enough, and the tail's page is none of them
  pub record Layable (g : Laid) (n : ℕ) : Type 0 where
    pub slot : g.tail % 512 ≤ 448
    pub whole : g.tail % 64 ≡ 0
    pub low : g.tail < 2097152
    pub enough : length (fresh_from g (needed_at g.tail n)) ≡ needed_at g.tail n
    pub apart : (p : ℕ) → g.from ≤ p → may_take p ≡ true → g.tail / 512 ≡ p → ⊥

  -- The entries es were to be laid at g, in the list l. By now the list is m, and the entries fs are left to be laid at h.
  pub record Laying (l : List ℕ) (g : Laid) (es : List (List ℕ)) (m : List ℕ) (h : Laid) (fs : List (List ℕ)) : Type 0 where
    pub layable : Layable h (length fs)
    pub stores : Adding l 0 g.end (to_lay g es) m h.end (to_lay h fs)
    pub tail : tail_behind g (length es) ≡ tail_behind h (length fs)
    pub head : head_behind g (length es) ≡ head_behind h (length fs)
    pub left : (k : ℕ) → left_behind g (length es) k ≡ left_behind h (length fs) k

  -- `turn_page`: at r the next entry has room on the tail's page
  pub record Turned (l : List ℕ) (g r : Laid) (m : List ℕ) : Type 0 where
    pub there : r.tail ≡ 0 → ⊥
    pub slot : r.tail % 512 ≤ 384
    pub low : r.tail < 2097152
    pub end : r.end ≤ g.end + 2
    pub laying : (e : List ℕ) (es : List (List ℕ)) → Layable g (length (e ∷ es)) → Laying l g (e ∷ es) m r (e ∷ es)

  -- `lay_entries`: the entries of ws, eight words each, are laid; whatever further entries es are to follow
  pub record Lays (l : List ℕ) (g : Laid) (ws : List ℕ) (r : Laid) (m : List ℕ) : Type 0 where
    pub end : r.end ≤ g.end + 18 * (length ws / 8)
    pub laying : (es : List (List ℕ)) → Layable g (length ws / 8 + length es) → Laying l g (entries_of ws 0 (length ws / 8) ++ es) m r es

  -- `lay_log`: the entries of ws and then those of xs are laid at g
  pub record LogLaid (l : List ℕ) (g : Laid) (ws xs : List ℕ) (r : Laid) (m : List ℕ) : Type 0 where
    pub end : r.end ≤ g.end + 18 * (length ws / 8 + length xs / 8)
    pub stores : Added l 0 g.end (to_lay g (entries_of ws 0 (length ws / 8) ++ entries_of xs 0 (length xs / 8))) r.end m
    pub tail : r.tail ≡ tail_behind g (length ws / 8 + length xs / 8)
    pub head : r.head ≡ head_behind g (length ws / 8 + length xs / 8)
    pub left : (k : ℕ) → fresh_from r k ≡ left_behind g (length ws / 8 + length xs / 8) k
