-- Entries laid one by one: one more on a page that has room for it, or a link from a full page to the next one.
use Rattle.model.proofs.Prelude.{ℕ, suc, ◌+◌, ◌*◌, ◌-◌, ◌/◌, ◌%◌, ◌≤◌, ◌<◌, ◌≡◌, sym, ◌∙◌, fun_ext, false, cond, ◌&&◌, List, [], ◌∷◌, Option, none, some, arith, add-one, leb, ltb, eqb, length, get_or, eq-eqb, ne_eqb, lt-ltb, le-ltb, le-leb, lt-leb}
use Rattle.model.specs.Lists.{has, index_of}
use Rattle.model.specs.Stores.{one_word, run, both}
use Rattle.model.specs.Calls.{lay_entries, tail_after}
use Rattle.model.proofs.Tests.{by_eq, by_lt, by_range}
use Rattle.model.proofs.Lists.{index_first}
use Rattle.model.proofs.Crash.Stores.{one_here, one_other, first_none}
use Rattle.model.proofs.Log.Live.{lay_page}

-- what is laid at word o of the j-th of n pages, of which the next is q
abbrev cell : ℕ → ℕ → ℕ → ℕ → List (List ℕ) → ℕ → Option ℕ
cell n j q i es o =
    cond (ltb j n)
    (cond (eqb o 56) (cond (ltb (j + 1) n) (some q) none)
    (cond (ltb o 56 && leb i (7 * j + o / 8) && ltb (7 * j + o / 8) (i + length es)) (some (get_or (get_or es (7 * j + o / 8 - i) []) (o % 8) 0)) none))
    none

-- words behind the entries
cell_past : (n j q i o : ℕ) (es : List (List ℕ)) → 57 ≤ o → cell n j q i es o ≡ none
cell_past n j q i o es h =
    by_lt j n (λ l. rw (lt-ltb j n l, ne_eqb o 56 (omega arith), le-ltb o 56 (omega arith))) (λ l. rw (le-ltb j n l))

-- slots but the i-th
cell_rest : (n j q i o : ℕ) (e : List ℕ) (es : List (List ℕ)) → (7 * j + o / 8 ≡ i → o < 56 → ⊥) → cell n j q i (e ∷ es) o ≡ cell n j q (i + 1) es o
cell_rest n j q i o e es h =
    by_eq o 56 (λ a. rw (eq-eqb o 56 a))
    (λ a. by_lt o 56
    (λ b. by_lt (7 * j + o / 8) i
    (λ c. rw (lt-ltb o 56 b, lt-leb i (7 * j + o / 8) c, lt-leb (i + 1) (7 * j + o / 8) (omega arith)))
    (λ c.
    let s = 7 * j + o / 8 in
    let d : s ≡ i → ⊥ = λ f. h f b in
    let k : s - i ≡ suc (s - (i + 1)) = omega arith in
    let g : i + length (e ∷ es) ≡ i + 1 + length es = omega arith in
    rw (lt-ltb o 56 b, le-leb i s c, le-leb (i + 1) s (omega arith), g, k)))
    (λ b. cell_past n j q i o (e ∷ es) (omega arith) ∙ sym (cell_past n j q (i + 1) o es (omega arith))))

index_zero : (x p : ℕ) (ps : List ℕ) → index_of x (p ∷ ps) ≡ 0 → x ≡ p
unfolding index_of
index_zero x p ps e = by_eq x p (λ h. h) (λ h. absurd (let g = rw (ne_eqb x p h) at e in omega arith))

index_other : (x p : ℕ) (ps : List ℕ) → (x ≡ p → ⊥) → index_of x (p ∷ ps) ≡ index_of x ps + 1
unfolding index_of
index_other x p ps h = rw (ne_eqb x p h)

module _ (p : ℕ) (qs : List ℕ) (i : ℕ) (e : List ℕ) (es : List (List ℕ)) (h : i < 7) where
  -- an entry has room on the page
  pub lay_slot : lay_entries (p ∷ qs) i (e ∷ es) ≡ both (run (64 * p + 8 * i) 8 (λ j. get_or e j 0)) (lay_entries (p ∷ qs) (i + 1) es)
  unfolding lay_entries both run
  lay_slot =
      fun_ext (λ w.
      let a = 64 * p + 8 * i in
      by_range a (a + 8) w
      (λ t f g.
      let d : w / 64 ≡ p = omega arith in
      let o : w % 64 / 8 ≡ i = omega arith in
      let s : 7 * 0 + i ≡ i = omega arith in
      let z : i - i ≡ 0 = omega arith in
      let c : w % 64 % 8 ≡ w - a = omega arith in
      rw (
        t,
        d,
        index_first p qs,
        lt-ltb 0 (length (p ∷ qs)) (omega arith),
        ne_eqb (w % 64) 56 (omega arith),
        lt-ltb (w % 64) 56 (omega arith),
        o,
        s,
        le-leb i i (omega arith),
        lt-ltb i (i + length (e ∷ es)) (omega arith),
        z,
        c,
      ))
      (λ t f.
      let j = index_of (w / 64) (p ∷ qs) in
      rw t
      (cell_rest (length (p ∷ qs)) j (get_or (p ∷ qs) (j + 1) 0) i (w % 64) e es
      (λ g k. let z : j ≡ 0 = omega arith in let y = index_zero (w / 64) p qs z in f (omega arith) (omega arith)))))

-- the cell one page further on
ltb_more : (k a b : ℕ) → ltb (a + k) (b + k) ≡ ltb a b
ltb_more k a b = by_lt a b (λ h. rw (lt-ltb a b h, lt-ltb (a + k) (b + k) (omega arith))) (λ h. rw (le-ltb a b h, le-ltb (a + k) (b + k) (omega arith)))

cell_next : (n j q o : ℕ) (es : List (List ℕ)) → cell (n + 1) (j + 1) q 7 es o ≡ cell n j q 0 es o
cell_next n j q o es =
    let x = 7 * j + o / 8 in
    let a : 7 * (j + 1) + o / 8 ≡ x + 7 = omega arith in
    let b : 7 + length es ≡ length es + 7 = omega arith in
    let c : 0 + length es ≡ length es = omega arith in
    let k : x + 7 - 7 ≡ x = omega arith in
    let z : x - 0 ≡ x = omega arith in
    rw (a, b, c, k, z, ltb_more 1 j n, ltb_more 1 (j + 1) n, ltb_more 7 x (length es), le-leb 7 (x + 7) (omega arith), le-leb 0 x (omega arith))

module _ (p q : ℕ) (qs : List ℕ) (es : List (List ℕ)) (h : has p (q ∷ qs) ≡ false) where
  link_here : (w : ℕ) → w / 64 ≡ p → lay_entries (p ∷ q ∷ qs) 7 es w ≡ one_word (64 * p + 56) q w
  unfolding lay_entries
  link_here w e =
      rw (e, index_first p (q ∷ qs), lt-ltb 0 (length (p ∷ q ∷ qs)) (omega arith))
      (by_eq (w % 64) 56
      (λ o. let f : w ≡ 64 * p + 56 = omega arith in
      rw (eq-eqb (w % 64) 56 o, lt-ltb (0 + 1) (length (p ∷ q ∷ qs)) (omega arith), f, one_here (64 * p + 56) q))
      (λ o. rw (ne_eqb (w % 64) 56 o, one_other (64 * p + 56) q w (λ f. o (omega arith)))
      (by_lt (w % 64) 56 (λ l. rw (lt-ltb (w % 64) 56 l, lt-leb 7 (7 * 0 + w % 64 / 8) (omega arith))) (λ l. rw (le-ltb (w % 64) 56 l)))))

  link_on : (w : ℕ) → (w / 64 ≡ p → ⊥) → lay_entries (p ∷ q ∷ qs) 7 es w ≡ lay_entries (q ∷ qs) 0 es w
  unfolding lay_entries
  link_on w e =
      let j = index_of (w / 64) (q ∷ qs) in
      let n = length (q ∷ qs) in
      let l : length (p ∷ q ∷ qs) ≡ n + 1 = omega arith in
      let g : get_or (p ∷ q ∷ qs) (j + 1 + 1) 0 ≡ get_or (q ∷ qs) (j + 1) 0 = rw (add-one (j + 1)) in
      rw (index_other (w / 64) p (q ∷ qs) e, l, g) (cell_next n j (get_or (q ∷ qs) (j + 1) 0) (w % 64) es)

  -- the page is full
  pub lay_link : lay_entries (p ∷ q ∷ qs) 7 es ≡ both (one_word (64 * p + 56) q) (lay_entries (q ∷ qs) 0 es)
  unfolding both
  lay_link =
      fun_ext (λ w.
      by_eq (w / 64) p
      (λ e. rw (link_here w e, lay_page (q ∷ qs) 0 es w (rw e h)) (sym (first_none (one_word (64 * p + 56) q w))))
      (λ e. rw (one_other (64 * p + 56) q w (λ f. e (omega arith))) (link_on w e)))

-- The tail behind them.

pub tail_slot : (ps : List ℕ) (i n : ℕ) → 0 < n → tail_after ps i (n + 1) ≡ tail_after ps (i + 1) n
unfolding tail_after
tail_slot ps i n h = let e : i + (n + 1) - 1 ≡ i + 1 + n - 1 = omega arith in rw (ne_eqb (n + 1) 0 (omega arith), ne_eqb n 0 (omega arith), e)

pub tail_one : (p : ℕ) (qs : List ℕ) (i : ℕ) → i < 7 → tail_after (p ∷ qs) i 1 ≡ 512 * p + 64 * (i + 1)
unfolding tail_after
tail_one p qs i h =
    let e : (i + 1 - 1) / 7 ≡ 0 = omega arith in
    let f : (i + 1 - 1) % 7 ≡ i = omega arith in
    rw (e, f)

pub tail_link : (p q : ℕ) (qs : List ℕ) (n : ℕ) → 0 < n → tail_after (p ∷ q ∷ qs) 7 n ≡ tail_after (q ∷ qs) 0 n
unfolding tail_after
tail_link p q qs n h =
    let e : (7 + n - 1) / 7 ≡ (0 + n - 1) / 7 + 1 = omega arith in
    let f : (7 + n - 1) % 7 ≡ (0 + n - 1) % 7 = omega arith in
    rw (ne_eqb n 0 (omega arith), e, f, add-one ((0 + n - 1) / 7))
