-- The free pages that a call takes: each once, and serving nobody. That is what the searches find where refusal 12 does not hold.
use Rattle.model.proofs.Prelude.{◌≡◌, refl, sym, ◌∙◌, ◌⊎◌, inl, inr, ℕ, ◌+◌, ◌*◌, ◌/◌, ◌%◌, ◌≤◌, ◌<◌, Bool, true, false, List, [], none, some, arith, length, get_or, ltb, eqb-true, not-true, le-ltb, lt-ltb}
use Rattle.model.specs.Lists.{bit, sum_below, has, count, index_of, distinct}
use Rattle.model.specs.Words.{Mem}
use Rattle.model.specs.Layout.{in_pages}
use Rattle.model.specs.Accept.{uses, free, free_count}
use Rattle.model.specs.Calls.{Append, lay_pages, besides, data_pages, fresh_pages, fresh_log, pages_needed, pages_left}
use Rattle.model.proofs.Tests.{by_bool, no, not_some, ands, cond_some}
use Rattle.model.proofs.Lists.{few_holds, few_distinct, has_get_or, index_none, index_get_or, count_none, count_once}
use Rattle.model.proofs.Frame.Placed.{in_bounds, zero_outside}
use Rattle.model.proofs.Calls.DataPages.{pages_hold, pages_apart, enough_data, enough_log}

-- no fewer pages are free than an append needs
abbrev pub HasRoom : Mem → ℕ → ℕ → Append → Type 0
HasRoom u P N a = pages_needed u P (free u P N) a ≤ free_count u P N

-- n free pages, each once
pub record Fresh (u : Mem) (P N : ℕ) (ls : List ℕ) (n : ℕ) : Type 0 where
  pub number : length ls ≡ n
  pub apart : distinct ls ≡ true
  pub unused : (x : ℕ) → has x ls ≡ true → free u P N x ≡ true

-- c fresh data pages, and n fresh log pages beside them
pub record Room (u : Mem) (P N : ℕ) (ds : List ℕ) (c : ℕ) (ls : List ℕ) (n : ℕ) : Type 0 where
  pub for_data : Fresh u P N ds c
  pub for_log : Fresh u P N ls n
  pub beside : (x : ℕ) → has x ls ≡ true → has x ds ≡ false

module _ (u : Mem) (P N : ℕ) where
  pub free_in_lem : (p : ℕ) → free u P N p ≡ true → (in_pages P N p ≡ true) × (uses u P N p ≡ 0)
  unfolding free
  free_in_lem p e = (search ands, eqb-true (uses u P N p) 0 (search ands))

  pub free_bounds : (p : ℕ) → free u P N p ≡ true → (N / 8 < p) × (p < P)
  free_bounds p e = in_bounds P N p (free_in_lem p e).0

  pub free_zero : free u P N 0 ≡ false
  unfolding free
  free_zero = rw (zero_outside P N)

  -- no page
  pub fresh_none : Fresh u P N [] 0
  unfolding distinct has
  fresh_none = record { number = refl; apart = refl; unused = λ x h. no h }

  -- the i-th of fresh pages
  pub fresh_at : (ls : List ℕ) (n : ℕ) → Fresh u P N ls n → (i : ℕ) → i < n → free u P N (get_or ls i 0) ≡ true
  fresh_at ls n f i l = f.unused (get_or ls i 0) (has_get_or ls i (omega (arith, f.number)))

  -- the pages of an append that has room, where f says which free pages may be taken
  pub room_in : (f : ℕ → Bool) → ((p : ℕ) → f p ≡ true → free u P N p ≡ true) → (a : Append)
      → pages_needed u P f a ≤ sum_below P (λ p. bit (f p))
      → Room u P N (data_pages u P f a) a.count (fresh_log u P f a) (fresh_pages u P f a)
  unfolding fresh_log data_pages besides
  room_in f may a e =
      let b : (p : ℕ) → f p ≡ true → p < P = λ p h. (free_bounds p (may p h)).1 in
      let ds = data_pages u P f a in
      let q = fresh_pages u P f a in
      let c = a.count in
      record {
        for_data =
            record { number = enough_data u P f a b e; apart = pages_apart f P b c; unused = λ x h. may x (pages_hold f P b c x h).0 };
        for_log = record {
          number = enough_log u P f a b e;
          apart = few_distinct (besides f ds) P 0 q;
          unused = λ x h. let g = (few_holds (besides f ds) P 0 q x h).0 in may x (search ands);
        };
        beside = λ x h. let g = (few_holds (besides f ds) P 0 q x h).0 in not-true (has x ds) (search ands);
      }

  -- the pages of the one append of a call that is not refused with 12
  pub room_found : (a : Append) → HasRoom u P N a
      → Room u P N (data_pages u P (free u P N) a) a.count (fresh_log u P (free u P N) a) (fresh_pages u P (free u P N) a)
  unfolding free_count
  room_found a e = room_in (free u P N) (λ p h. h) a e

  -- the pages left by an append may be taken where they could before, and are none of its own
  pub left_may : (f : ℕ → Bool) (a : Append) (p : ℕ) → pages_left u P f a p ≡ true → (f p ≡ true) × (has p (fresh_log u P f a) ≡ false)
  unfolding pages_left besides
  left_may f a p e = (search ands, not-true (has p (fresh_log u P f a)) (search ands))

  -- fresh log pages are ones that may be taken
  pub fresh_may : (f : ℕ → Bool) (a : Append) (p : ℕ) → has p (fresh_log u P f a) ≡ true → f p ≡ true
  unfolding fresh_log besides
  fresh_may f a p h = let g = (few_holds (besides f (data_pages u P f a)) P 0 (fresh_pages u P f a) p h).0 in search ands

-- Pages that a call takes: e p is how often it takes page p, once at most, and only where p is free.
abbrev pub Lone : Mem → ℕ → ℕ → (ℕ → ℕ) → Type 0
Lone u P N e = (p : ℕ) → (e p ≡ 0) ⊎ ((free u P N p ≡ true) × (e p ≤ 1))

-- fresh log pages and the data pages beside them are such pages
pub room_lone : (u : Mem) (P N : ℕ) (ds : List ℕ) (c : ℕ) (ls : List ℕ) (n : ℕ) → Room u P N ds c ls n
    → Lone u P N (λ p. count p ls + count p ds)
room_lone u P N ds c ls n r p =
    by_bool (has p ls)
    (λ h.
    let a = count_once p ls r.for_log.apart in
    let b = count_none p ds (r.beside p h) in
    inr (r.for_log.unused p h, omega arith))
    (λ h.
    let a = count_none p ls h in
    by_bool (has p ds) (λ g. let b = count_once p ds r.for_data.apart in inr (r.for_data.unused p g, omega arith))
    (λ g. let b = count_none p ds g in inl (omega arith)))

-- no data: pages for a log alone
pub log_room : (u : Mem) (P N : ℕ) (ls : List ℕ) (n : ℕ) → Fresh u P N ls n → Room u P N [] 0 ls n
unfolding has
log_room u P N ls n f = record { for_data = fresh_none u P N; for_log = f; beside = λ x h. refl }

-- Data laid into pages.

module _ (ps : List ℕ) (f : ℕ → ℕ) where
  -- it stands on them
  pub pages_off : (w : ℕ) → has (w / 64) ps ≡ false → lay_pages ps f w ≡ none
  unfolding lay_pages
  pages_off w h = rw (index_none (w / 64) ps h, le-ltb (length ps) (length ps) (omega arith))

  pub pages_in : (w x : ℕ) → lay_pages ps f w ≡ some x → has (w / 64) ps ≡ true
  pages_in w x e = by_bool (has (w / 64) ps) (λ h. h) (λ h. not_some x (sym (pages_off w h) ∙ e))

  -- the j-th word
  pub pages_at : distinct ps ≡ true → (j : ℕ) → j < 64 * length ps → lay_pages ps f (64 * get_or ps (j / 64) 0 + j % 64) ≡ some (f j)
  unfolding lay_pages
  pages_at d j l =
      let p = get_or ps (j / 64) 0 in
      let a : (64 * p + j % 64) / 64 ≡ p = omega arith in
      let b : (64 * p + j % 64) % 64 ≡ j % 64 = omega arith in
      let i : index_of p ps ≡ j / 64 = index_get_or ps (j / 64) d (omega arith) in
      let q : 64 * (j / 64) + j % 64 ≡ j = omega arith in
      rw (a, b, i, lt-ltb (j / 64) (length ps) (omega arith), q)

  -- every word of it is one of f's
  pub pages_value : (w x : ℕ) → lay_pages ps f w ≡ some x → (j : ℕ) × (x ≡ f j)
  unfolding lay_pages
  pages_value w x e =
      let c = cond_some (ltb (index_of (w / 64) ps) (length ps)) (some (f (64 * index_of (w / 64) ps + w % 64))) x e in
      (64 * index_of (w / 64) ps + w % 64, cc)
