-- An inode's log in memory: a log with a tail is a chain, a chain is such a log, and a log reads the same where its live words do.
use Rattle.model.proofs.Prelude.{◌≡◌, refl, sym, ◌∙◌, subst, ℕ, zero, suc, ◌+◌, ◌*◌, ◌/◌, ◌%◌, ◌≤◌, ◌<◌, true, List, [], ◌∷◌, map, append-nil, some, ⊎_elim, arith, length, get_or, ne_eqb}
use Rattle.model.specs.Words.{Mem}
use Rattle.model.specs.Lists.{has}
use Rattle.model.specs.Layout.{head_word, tail_word, footer}
use Rattle.model.specs.Entry.{Entry, entry_at}
use Rattle.model.specs.Log.{tail_ok, pages_of, log_pages, pages, tail_slots, slots, entry_words, entries}
use Rattle.model.proofs.Tests.{by_eq, no, cond_some}
use Rattle.model.proofs.Lists.{has_head, has_tail, has_cons, has_append}
use Rattle.model.proofs.Log.Chain.{Chain, chain_to, chain_walk, walk_chain, chain_then, chain_last}
use Rattle.model.proofs.Log.Decode.{entry_same}

-- the log of inode k has the pages ps and the entries xs
abbrev pub Reads : Mem → ℕ → ℕ → ℕ → List ℕ → List Entry → Type 0
Reads m P N k ps xs = (log_pages m P N k ≡ some ps) × (entries m P N k ≡ xs)

-- a log with a tail
pub log_chain : (m : Mem) (P N k : ℕ) (ps : List ℕ) → log_pages m P N k ≡ some ps → (m (tail_word k) ≡ 0 → ⊥)
    → Chain m P N (m (tail_word k) / 512) ps × (get_or ps 0 0 ≡ m (head_word k)) × (length ps ≤ P) × (tail_ok (m (tail_word k)) ≡ true)
unfolding log_pages pages_of
log_chain m P N k ps e z =
    let t = m (tail_word k) in
    let c = cond_some (tail_ok t) _ ps (rw (log_pages, pages_of, ne_eqb t 0 z) at e) in
    let w = walk_chain m P N (t / 512) P (m (head_word k)) ps c.1 in
    (w.0, w.1, w.2, c.0)

-- a log without a tail
pub log_empty : (m : Mem) (P N k : ℕ) (ps : List ℕ) → log_pages m P N k ≡ some ps → m (tail_word k) ≡ 0 → [] ≡ ps
unfolding log_pages pages_of
log_empty m P N k ps e z = let w : some [] ≡ some ps = rw (log_pages, pages_of, z) at e in cc

pub chain_log : (m : Mem) (P N k p : ℕ) (ps : List ℕ) → Chain m P N (m (tail_word k) / 512) (p ∷ ps) → tail_ok (m (tail_word k)) ≡ true
    → length (p ∷ ps) ≤ P → m (head_word k) ≡ p → Reads m P N k (p ∷ ps) (map (entry_at m) (entry_words (p ∷ ps) (tail_slots m k)))
unfolding log_pages pages_of tail_ok has entries pages
chain_log m P N k p ps c ok l h =
    let t = m (tail_word k) in
    let z : t ≡ 0 → ⊥ = λ e. no (rw (tail_ok, e) at ok) in
    let w : log_pages m P N k ≡ some (p ∷ ps) = rw (log_pages, pages_of, ne_eqb t 0 z, ok, h) (chain_walk m P N (t / 512) P p ps c l) in
    (w, rw (entries, pages, w))

-- the entries at ws depend on their words
pub entries_same : (m m' : Mem) (ws : List ℕ) → ((w : ℕ) → has w ws ≡ true → (o : ℕ) → o < 8 → m' (w + o) ≡ m (w + o))
    → map (entry_at m') ws ≡ map (entry_at m) ws
entries_same m m' [] h = refl
entries_same m m' (w ∷ ws) h = rw (entry_same m m' w w (h w (has_head w ws)), entries_same m m' ws (λ v k. h v (has_tail v w ws k)))

-- Live words: m and m' agree on the pages ps of a log, of the last page q only on the first i slots.
abbrev pub SameLive : Mem → Mem → List ℕ → ℕ → ℕ → Type 0
SameLive m m' ps q i = (w : ℕ) → has (w / 64) ps ≡ true → (w / 64 ≡ q → w % 64 < 8 * i) → m' w ≡ m w

pub slots_range : (n v w : ℕ) → has w (slots n v) ≡ true → (v ≤ w) × (w + 8 ≤ v + 8 * n)
unfolding slots has
slots_range zero v w h = no h
slots_range (suc n) v w h =
    ⊎_elim {C = (v ≤ w) × (w + 8 ≤ v + 8 * suc n)} (λ e. (omega arith, omega arith))
    (λ k. let r = slots_range n (v + 8) w k in (omega arith, omega arith)) (has_cons w v (slots n (v + 8)) h)

-- where the entries of a chain stand
word_place : (m : Mem) (P N q c w : ℕ) (ps : List ℕ) → Chain m P N q ps → c ≤ 7 → has w (entry_words ps c) ≡ true
    → (has (w / 64) ps ≡ true) × (w % 64 + 8 ≤ 56) × (w / 64 ≡ q → w % 64 + 8 ≤ 8 * c)
unfolding entry_words
word_place m P N q c w [] h l k = absurd h
word_place m P N q c w (p ∷ []) h l k =
    let r = slots_range c (64 * p) w k in
    let e : w / 64 ≡ p = omega arith in
    (rw e (has_head p []), omega arith, λ f. omega arith)
word_place m P N q c w (p ∷ o ∷ ps) h l k =
    ⊎_elim {C = (has (w / 64) (p ∷ o ∷ ps) ≡ true) × (w % 64 + 8 ≤ 56) × (w / 64 ≡ q → w % 64 + 8 ≤ 8 * c)}
    (λ g.
    let r = slots_range 7 (64 * p) w g in
    let e : w / 64 ≡ p = omega arith in
    (rw e (has_head p (o ∷ ps)), omega arith, λ f. absurd (h.1 (sym e ∙ f))))
    (λ g. let r = word_place m P N q c w (o ∷ ps) h.3 l g in (has_tail (w / 64) p (o ∷ ps) r.0, r.1, r.2))
    (has_append w (slots 7 (64 * p)) (entry_words (o ∷ ps) c) k)

module _ (m m' : Mem) (P N q i : ℕ) (ps : List ℕ) (c : Chain m P N q ps) (s : SameLive m m' ps q i) where
  pub live_footers : (x : ℕ) → has x ps ≡ true → (x ≡ q → ⊥) → m' (footer x) ≡ m (footer x)
  live_footers x h n =
      let e : (64 * x + 56) / 64 ≡ x = omega arith in
      s (footer x) (rw e h) (λ f. absurd (n (sym e ∙ f)))

  pub live_words : i ≤ 7 → (w : ℕ) → has w (entry_words ps i) ≡ true → (o : ℕ) → o < 8 → m' (w + o) ≡ m (w + o)
  live_words l w h o k =
      let r = word_place m P N q i w ps c l h in
      let e : (w + o) / 64 ≡ w / 64 = omega arith in
      s (w + o) (rw e r.0) (λ f. let g = r.2 (sym e ∙ f) in omega arith)

-- a log whose live words, tail and (with a tail) head are as they were reads as it did
module _ (m m' : Mem) (P N k : ℕ) (t : m' (tail_word k) ≡ m (tail_word k)) where
  same_chain : (ps : List ℕ) → log_pages m P N k ≡ some ps → SameLive m m' ps (m (tail_word k) / 512) (tail_slots m k)
      → (m (tail_word k) ≡ 0 → ⊥) → m' (head_word k) ≡ m (head_word k) → Reads m' P N k ps (entries m P N k)
  unfolding entries pages
  same_chain [] e s z h = absurd (log_chain m P N k [] e z).0
  same_chain (p ∷ ps) e s z h =
      let q = m (tail_word k) / 512 in
      let i = tail_slots m k in
      let c = log_chain m P N k (p ∷ ps) e z in
      let d = chain_last m P N q (p ∷ ps) c.0 in
      let l = chain_then m m' P N q q (p ∷ ps) [] c.0 (λ x g n. (live_footers m m' P N q i (p ∷ ps) c.0 s x g n, n)) (d.1, refl) in
      let to_end = chain_to m' P N q (m' (tail_word k) / 512) (p ∷ ps) (rw t) (subst (Chain m' P N q) (append-nil (p ∷ ps)) l) in
      let r = chain_log m' P N k p ps to_end (rw t c.3) c.2 (h ∙ sym c.1) in
      (r.0, r.1 ∙ rw (t, entries_same m m' (entry_words (p ∷ ps) i) (live_words m m' P N q i (p ∷ ps) c.0 s (omega arith)), entries, pages, e))

  pub log_same : (ps : List ℕ) → log_pages m P N k ≡ some ps → ((m (tail_word k) ≡ 0 → ⊥) → m' (head_word k) ≡ m (head_word k))
      → SameLive m m' ps (m (tail_word k) / 512) (tail_slots m k) → Reads m' P N k ps (entries m P N k)
  unfolding log_pages pages_of entries pages entry_words
  log_same ps e h s =
      by_eq (m (tail_word k)) 0
      (λ z.
      let w : log_pages m' P N k ≡ some [] = rw (log_pages, pages_of, t, z) in
      rw (← (log_empty m P N k ps e z)) (w, rw (entries, pages, w, e, ← (log_empty m P N k ps e z))))
      (λ z. same_chain ps e s z (h z))
