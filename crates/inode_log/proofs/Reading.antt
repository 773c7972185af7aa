-- A log whose walk ends, read by a cursor: page by page the cursor meets the words of the model, and it stays inside.
use mathlib.Core.Bool.{cond}
use Rattle.model.proofs.Prelude.{eqb, ℕ, zero, suc, ◌+◌, ◌*◌, ◌-◌, ◌/◌, ◌%◌, ◌≤◌, ◌<◌, ◌≡◌, refl, sym, true, List, [], ◌∷◌, ◌++◌, append-nil, Option, none, some, arith, zero-add, add-zero, length, eq-eqb, ne_eqb, lt-ltb}
use Rattle.model.specs.Lists.{is_some, or_else}
use Rattle.model.specs.Words.{Mem}
use Rattle.model.specs.Layout.{footer}
use Rattle.model.specs.Log.{walk, slots, entry_words, tail_ok, pages_of}
use Rattle.model.proofs.Tests.{by_bool, by_eq, by_lt, no}
use Rattle.model.proofs.Log.Chain.{Chain, walk_chain}
use Rattle.model.proofs.Log.Extend.{tail_slots_lem}
use Rattle.model.proofs.Frame.Placed.{in_bounds}
use Rattle.inode_log.specs.Steps.{landing, words_from, within}

-- the cursor at which the log with head h and tail t starts; it ends at place t / 64
unfoldable pub start_of : ℕ → ℕ → ℕ
start_of h t = cond (eqb t 0) 0 (8 * h)

-- the first words of the entries of the log with head h and tail t
unfoldable pub words_of : Mem → ℕ → ℕ → ℕ → ℕ → List ℕ
words_of m P N h t = entry_words (or_else (pages_of m P N h t) []) (t % 512 / 64)

module _ (m : Mem) (P end : ℕ) where
  land_here : (from : ℕ) → from % 8 + 1 ≤ 7 → landing m from ≡ from
  unfolding landing
  land_here from h = rw (ne_eqb (from % 8) 7 (omega arith))

  -- entries of one page, none of them at the end
  page_words : (k from n : ℕ) → from % 8 + k ≤ 7 → ((x : ℕ) → from ≤ x → x < from + k → x ≡ end → ⊥)
      → words_from (k + n) m from end ≡ slots k (8 * from) ++ words_from n m (from + k) end
  unfolding words_from slots
  page_words zero from n h miss = rw (zero-add n, add-zero from)
  page_words (suc k) from n h miss =
      let s : suc k + n ≡ suc (k + n) = omega arith in
      let t : from + 1 + k ≡ from + suc k = omega arith in
      let w : 8 * (from + 1) ≡ 8 * from + 8 = omega arith in
      rw (
        s,
        words_from,
        ne_eqb from end (miss from (omega arith) (omega arith)),
        land_here from (omega arith),
        page_words k (from + 1) n (omega arith) (λ x l g. miss x (omega arith) (omega arith)),
        t,
        w,
      )

  page_within : (k from n : ℕ) → from % 8 + k ≤ 7 → from + k ≤ 8 * P → ((x : ℕ) → from ≤ x → x < from + k → x ≡ end → ⊥)
      → within (k + n) m P from end ≡ within n m P (from + k) end
  unfolding within
  page_within zero from n h b miss = rw (zero-add n, add-zero from)
  page_within (suc k) from n h b miss =
      let s : suc k + n ≡ suc (k + n) = omega arith in
      let t : from + 1 + k ≡ from + suc k = omega arith in
      rw (
        s,
        within,
        ne_eqb from end (miss from (omega arith) (omega arith)),
        land_here from (omega arith),
        lt-ltb from (8 * P) (omega arith),
        page_within k (from + 1) n (omega arith) (omega arith) (λ x l g. miss x (omega arith) (omega arith)),
        t,
      )

  -- from the footer of page p to the next page
  land_next : (p : ℕ) → landing m (8 * p + 7) ≡ 8 * m (footer p)
  unfolding landing
  land_next p = let w : 8 * (8 * p + 7) ≡ 64 * p + 56 = omega arith in rw (eq-eqb ((8 * p + 7) % 8) 7 (omega arith), w)

  land_first : (p : ℕ) → landing m (8 * p) ≡ 8 * p
  land_first p = land_here (8 * p) (omega arith)

  hop_words : (p n : ℕ) → 0 < n → (8 * p + 7 ≡ end → ⊥) → (8 * m (footer p) ≡ end → ⊥)
      → words_from n m (8 * p + 7) end ≡ words_from n m (8 * m (footer p)) end
  unfolding words_from
  hop_words p zero l h g = absurd (omega arith)
  hop_words p (suc n) l h g = rw (words_from, ne_eqb _ _ h, ne_eqb _ _ g, land_next p, land_first (m (footer p)))

  hop_within : (p n : ℕ) → 0 < n → p < P → m (footer p) < P → (8 * p + 7 ≡ end → ⊥) → (8 * m (footer p) ≡ end → ⊥)
      → within n m P (8 * p + 7) end ≡ within n m P (8 * m (footer p)) end
  unfolding within
  hop_within p zero l b d h g = absurd (omega arith)
  hop_within p (suc n) l b d h g =
      rw (
        within,
        ne_eqb _ _ h,
        ne_eqb _ _ g,
        land_next p,
        land_first (m (footer p)),
        lt-ltb (8 * p + 7) (8 * P) (omega arith),
        lt-ltb (8 * m (footer p)) (8 * P) (omega arith),
      )

  at_end_lem : (n : ℕ) → words_from n m end end ≡ []
  unfolding words_from
  at_end_lem zero = refl
  at_end_lem (suc n) = rw (words_from, eq-eqb end end refl)

  within_end : (n : ℕ) → within n m P end end ≡ true
  unfolding within
  within_end zero = eq-eqb end end refl
  within_end (suc n) = rw (within, eq-eqb end end refl)

first_in : (m : Mem) (P N q r : ℕ) (ps : List ℕ) → Chain m P N q (r ∷ ps) → r < P
first_in m P N q r [] h = (in_bounds P N r h.0).1
first_in m P N q r (x ∷ ps) h = (in_bounds P N r h.0).1

last_in : (m : Mem) (P N q r : ℕ) (ps : List ℕ) → Chain m P N q (r ∷ ps) → q < P
last_in m P N q r [] h = rw (← h.1) (in_bounds P N r h.0).1
last_in m P N q r (x ∷ ps) h = last_in m P N q x ps h.3

-- a chain that ends in page q, of whose entries c are the log's
module _ (m : Mem) (P N q c : ℕ) (low : 1 ≤ c) (high : c ≤ 7) where
  off : (y : ℕ) → 8 * y ≡ 8 * q + c → ⊥
  off y e = by_lt q y (λ l. omega arith) (λ l. omega arith)

  -- the cursor behind the log's last entry
  abbrev end : ℕ
  end = 8 * q + c

  first_word : (p : ℕ) → 8 * (8 * p) ≡ 64 * p
  first_word p = omega arith

  last_words : (n : ℕ) → words_from (7 + n) m (8 * q) end ≡ slots c (64 * q)
  last_words n =
      let s : 7 + n ≡ c + (7 - c + n) = omega arith in
      rw (s, page_words m P end c (8 * q) (7 - c + n) (omega arith) (λ x l g e. omega arith), at_end_lem m P end, first_word) (append-nil _)

  last_within : (n : ℕ) → q < P → within (7 + n) m P (8 * q) end ≡ true
  last_within n b =
      let s : 7 + n ≡ c + (7 - c + n) = omega arith in
      rw (s, page_within m P end c (8 * q) (7 - c + n) (omega arith) (omega arith) (λ x l g e. omega arith)) (within_end m P end (7 - c + n))

  chain_words : (p : ℕ) (ps : List ℕ) (n : ℕ) → Chain m P N q (p ∷ ps)
      → words_from (7 * length (p ∷ ps) + n) m (8 * p) end ≡ entry_words (p ∷ ps) c
  unfolding entry_words
  chain_words p [] n h = let s : 7 * 1 + n ≡ 7 + n = omega arith in rw (s, h.1) (last_words n)
  chain_words p (r ∷ ps) n h =
      let s : 7 * length (p ∷ r ∷ ps) + n ≡ 7 + (7 * length (r ∷ ps) + n) = omega arith in
      let d : (x : ℕ) → 8 * p ≤ x → x < 8 * p + 8 → x ≡ end → ⊥ = λ x l g e. h.1 (omega arith) in
      rw (
        s,
        page_words m P end 7 (8 * p) (7 * length (r ∷ ps) + n) (omega arith) (λ x l g. d x l (omega arith)),
        hop_words m P end p (7 * length (r ∷ ps) + n) (omega arith) (d (8 * p + 7) (omega arith) (omega arith)) (off (m (footer p))),
        first_word,
        h.2,
        chain_words r ps n h.3,
      )

  chain_within : (p : ℕ) (ps : List ℕ) (n : ℕ) → Chain m P N q (p ∷ ps) → within (7 * length (p ∷ ps) + n) m P (8 * p) end ≡ true
  chain_within p [] n h =
      let s : 7 * 1 + n ≡ 7 + n = omega arith in
      let b = in_bounds P N p h.0 in
      rw (s, h.1) (last_within n (rw h.1 at b.1))
  chain_within p (r ∷ ps) n h =
      let s : 7 * length (p ∷ r ∷ ps) + n ≡ 7 + (7 * length (r ∷ ps) + n) = omega arith in
      let d : (x : ℕ) → 8 * p ≤ x → x < 8 * p + 8 → x ≡ end → ⊥ = λ x l g e. h.1 (omega arith) in
      let b = in_bounds P N p h.0 in
      let a : m (footer p) < P = rw h.2 (first_in m P N q r ps h.3) in
      rw (
        s,
        page_within m P end 7 (8 * p) (7 * length (r ∷ ps) + n) (omega arith) (omega arith) (λ x l g. d x l (omega arith)),
        hop_within m P end p (7 * length (r ∷ ps) + n) (omega arith) b.1 a (d (8 * p + 7) (omega arith) (omega arith)) (off (m (footer p))),
        h.2,
      ) (chain_within r ps n h.3)

-- what a cursor reads of a log whose walk ends
pub record Read (m : Mem) (P N h t : ℕ) : Type 0 where
  pub words : words_from (7 * P) m (start_of h t) (t / 64) ≡ words_of m P N h t
  pub inside : within (7 * P) m P (start_of h t) (t / 64) ≡ true
  pub start : start_of h t ≤ 8 * P
  pub end : t / 64 ≤ 8 * P

module _ (m : Mem) (P N h t : ℕ) where
  read_chain : (t ≡ 0 → ⊥) → tail_ok t ≡ true → (p : ℕ) (ps : List ℕ) → walk m P N P h (t / 512) ≡ some (p ∷ ps) → Read m P N h t
  unfolding pages_of start_of words_of
  read_chain z k p ps e =
      let a = tail_slots_lem t k in
      let w = walk_chain m P N (t / 512) P h (p ∷ ps) e in
      let l : length (p ∷ ps) ≤ P = w.2 in
      let f : 7 * P ≡ 7 * length (p ∷ ps) + (7 * P - 7 * length (p ∷ ps)) = omega arith in
      let q : t / 64 ≡ 8 * (t / 512) + t % 512 / 64 = omega arith in
      let x = 7 * P - 7 * length (p ∷ ps) in
      let s : h ≡ p = sym w.1 in
      record {
        words = rw (ne_eqb t 0 z, k, e, f, q, s) (chain_words m P N (t / 512) (t % 512 / 64) a.1 a.2 p ps x w.0);
        inside = rw (ne_eqb t 0 z, f, q, s) (chain_within m P N (t / 512) (t % 512 / 64) a.1 a.2 p ps x w.0);
        start = let b = first_in m P N (t / 512) p ps w.0 in rw (ne_eqb t 0 z, s) (omega arith);
        end = let b = last_in m P N (t / 512) p ps w.0 in omega arith;
      }

  read_walk : (t ≡ 0 → ⊥) → tail_ok t ≡ true → (o : Option (List ℕ)) → walk m P N P h (t / 512) ≡ o → is_some o ≡ true → Read m P N h t
  read_walk z k none e y = no y
  read_walk z k (some []) e y = absurd (walk_chain m P N (t / 512) P h [] e).0
  read_walk z k (some (p ∷ ps)) e y = read_chain z k p ps e

  read_empty : t ≡ 0 → Read m P N h t
  unfolding start_of words_of pages_of entry_words
  read_empty z =
      record {
        words = rw z (at_end_lem m P 0 (7 * P));
        inside = rw z (within_end m P 0 (7 * P));
        start = rw z (omega arith);
        end = omega arith;
      }

  pub read : is_some (pages_of m P N h t) ≡ true → Read m P N h t
  unfolding pages_of
  read y =
      by_eq t 0 read_empty
      (λ z. by_bool (tail_ok t) (λ k. read_walk z k (walk m P N P h (t / 512)) refl (rw (ne_eqb t 0 z, k) at y)) (λ k. no (rw (ne_eqb t 0 z, k) at y)))
