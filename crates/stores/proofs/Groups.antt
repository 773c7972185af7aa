-- Stores added to a group: the pairs of words that it does not have stand between those of lower and those of higher words, and a word that
-- it has already changes nothing. Then laws for callers: stores that are added one after the other.
use Rattle.model.proofs.Prelude.{ℕ, suc, ◌+◌, ◌*◌, ◌-◌, ◌/◌, ◌≤◌, ◌<◌, ◌≡◌, refl, sym, ap, ◌∙◌, fun_ext, Bool, true, false, ◌&&◌, List, [], ◌∷◌, ◌++◌, Option, none, some, arith, zero-add, sub-zero, ltb, eqb, length, get_or, take, drop, length-append, length-drop, length-take-le, get_or-take, get_or-drop, get_or-append, sets, get_or-append-add, lt-ltb, ltb-true, eq-eqb, eqb-true}
use Rattle.model.specs.Stores.{Stores, one_word, run, first_of, both, only_if, listed}
use Rattle.model.proofs.Crash.Stores.{one_here, one_other, first_none, Only}
use Rattle.model.proofs.Tests.{by_eq, by_range, and_left, and_right, clash}
use Rattle.stores.specs.Emitted.{Emitted}
use Rattle.stores.proofs.Emitting.{same_length, sets_append}
use Rattle.stores.proofs.Listed.{listed_both, listed_same, listed_none}
use Rattle.stores.specs.Added.{Group, Added, Adding, element, element_from, part, place_of}
use Rattle.stores.proofs.Texts.{sets_over, get_or_sets, part_is, pairs, length_listed, index_in, place_is}

-- The text in two parts, below i and from i on.

abbrev pub lower : Stores → ℕ → List ℕ
lower s i = listed s i 0

abbrev pub upper : Stores → ℕ → ℕ → List ℕ
upper s i W = listed s (W - i) i

upper_two : (s : Stores) (i n W : ℕ) → i + n ≤ W → upper s i W ≡ listed s n i ++ upper s (i + n) W
upper_two s i n W h =
    let e : n + (W - (i + n)) ≡ W - i = omega arith in
    ap (λ k. listed s k i) (sym e) ∙ listed_both s n (W - (i + n)) i

in_two : (s : Stores) (i W : ℕ) → i ≤ W → listed s W 0 ≡ lower s i ++ upper s i W
in_two s i W h = rw (sub-zero, zero-add) at (upper_two s 0 i W (omega arith))

-- none of n words from i on is stored
module _ (s : Stores) (i n W : ℕ) (h : i + n ≤ W) (e : (j : ℕ) → i ≤ j → j < i + n → s j ≡ none) where
  upper_none : upper s i W ≡ upper s (i + n) W
  upper_none = upper_two s i n W h ∙ rw (listed_none s n i e)

  -- t stores none but them
  text_new : (t : Stores) → ((j : ℕ) → (i ≤ j → j < i + n → ⊥) → t j ≡ none)
      → listed (both s t) W 0 ≡ lower s i ++ (listed t n i ++ upper s i W)
  unfolding both
  text_new t f =
      let u = both s t in
      let a : lower u i ≡ lower s i = listed_same u s i 0 (λ j p q. rw (f j (λ c d. omega arith)) (first_none (s j))) in
      let b : listed u n i ≡ listed t n i = listed_same u t n i (λ j p q. rw (e j p q)) in
      let c : upper u (i + n) W ≡ upper s (i + n) W
      = listed_same u s (W - (i + n)) (i + n) (λ j p q. rw (f j (λ c d. omega arith)) (first_none (s j))) in
      in_two u i W (omega arith) ∙ rw (upper_two u i n W h, a, b, c, upper_none)

-- word i is not stored
only_here : (s : Stores) (i : ℕ) → s i ≡ none → (j : ℕ) → i ≤ j → j < i + 1 → s j ≡ none
only_here s i e j p q = let f : j ≡ i = omega arith in rw f e

-- the text of word i
text_one : (i x : ℕ) → listed (one_word i x) 1 i ≡ i ∷ x ∷ []
unfolding listed
text_one i x = rw (one_here i x)

-- word i is stored
module _ (s : Stores) (i x W : ℕ) (h : i < W) (y : ℕ) (e : s i ≡ some y) where
  upper_some : upper s i W ≡ i ∷ y ∷ listed s (W - (i + 1)) (i + 1)
  unfolding listed
  upper_some = let k : W - i ≡ suc (W - (i + 1)) = omega arith in rw (k, e)

  both_old : both s (one_word i x) ≡ s
  unfolding both
  both_old = fun_ext (λ w. by_eq w i (λ f. rw (f, e)) (λ f. rw (one_other i x w f) (first_none (s w))))

-- The count of pairs in two parts.
pub pairs_both : (s : Stores) (a b w : ℕ) → pairs s (a + b) w ≡ pairs s a w + pairs s b (w + a)
pairs_both s a b w =
    let e : length (listed s (a + b) w) ≡ length (listed s a w ++ listed s b (w + a)) = ap length (listed_both s a b w) in
    let f = length-append (listed s a w) (listed s b (w + a)) in
    omega (arith, length_listed s (a + b) w, length_listed s a w, length_listed s b (w + a))

-- The group s in the list.

module _ (l l₀ : List ℕ) (from end i W : ℕ) (s : Stores) (g : Group l₀ from s W end l) (h : i ≤ W) (room : end ≤ length l) where
  abbrev c : ℕ
  c = pairs s i 0

  abbrev d : ℕ
  d = pairs s (W - i) i

  pub ends : end ≡ from + 2 * (c + d)
  ends =
      let a = in_two s i W h in
      let b = length-append (lower s i) (upper s i W) in
      let e : length (listed s W 0) ≡ length (lower s i ++ upper s i W) = ap length a in
      omega (arith, g.end, length_listed s i 0, length_listed s (W - i) i)

  read : (j : ℕ) → j < 2 * (c + d) → get_or l (from + j) 0 ≡ get_or (lower s i ++ upper s i W) j 0
  read j q =
      let a = in_two s i W h in
      let n = length_listed s W 0 in
      rw (g.list, ← a) (get_or_sets (listed s W 0) l₀ from j (omega (arith, g.end, same_length g, ends)) (omega (arith, g.end, ends)))

  read_low : (k : ℕ) → k < c → get_or l (from + 2 * k) 0 < i
  read_low k q =
      let e = index_in s i 0 k q in
      rw (read (2 * k) (omega arith), get_or-append (lower s i) (upper s i W) 0 (2 * k) (omega (arith, length_listed s i 0))) (omega arith)

  pub read_up : (j : ℕ) → j < 2 * d → get_or l (from + 2 * c + j) 0 ≡ get_or (upper s i W) j 0
  read_up j q =
      let a = length_listed s i 0 in
      let e : from + 2 * c + j ≡ from + (length (lower s i) + j) = omega arith in
      rw (e, read (length (lower s i) + j) (omega arith)) (get_or-append-add (lower s i) (upper s i W) j 0)

  -- the place among n pairs, those of all lower words with them
  pub place_at : (n : ℕ) → c ≤ n → n ≤ c + d → place_of l from n i ≡ c
  place_at n p o =
      place_is l from i n c p read_low
      (λ k a b.
      let e : from + 2 * k ≡ from + 2 * c + 2 * (k - c) = omega arith in
      let f = index_in s (W - i) i (k - c) (omega arith) in
      rw (e, read_up (2 * (k - c)) (omega arith)) f.0)

  pub part_upper : part l (from + 2 * c) (2 * d) ≡ upper s i W
  part_upper =
      let a = length_listed s (W - i) i in
      rw (← a) (part_is (upper s i W) l (from + 2 * c) (λ j q. read_up j (omega arith)))

  -- t stores words from i to i + n alone, of which the group has none: its pairs are put behind those of lower words
  pub grown_by : (t : Stores) (n : ℕ) → i + n ≤ W → ((j : ℕ) → i ≤ j → j < i + n → s j ≡ none) → ((j : ℕ) → (i ≤ j → j < i + n → ⊥) → t j ≡ none)
      → (r : ℕ) (m : List ℕ) → Emitted l (from + 2 * c) (listed t n i ++ part l (from + 2 * c) (2 * d)) r m → Group l₀ from (both s t) W r m
  grown_by t n o e f r m p =
      let p₁ = rw part_upper at p in
      let a = text_new s i n W o e t f in
      let new = listed t n i ++ upper s i W in
      let b = length-append (lower s i) new in
      let b₁ = length-append (listed t n i) (upper s i W) in
      let o₁ = length_listed s i 0 in
      let k : from + 2 * c ≡ from + length (lower s i) = omega arith in
      record {
        end = rw a (omega (arith, p₁.end));
        list = p₁.list
            ∙ rw (k, a, g.list, in_two s i W h, sets_append (lower s i) (upper s i W) l₀ from, sets_append (lower s i) new l₀ from)
            (sets_over (upper s i W) new (sets l₀ from (lower s i)) (from + length (lower s i)) (omega arith));
      }

  -- n, k and `at` are those of `put`
  module _ (n k : ℕ) (en : n ≡ (end - from) / 2) (ek : k ≡ place_of l from n i) (less : i < W) where
    n_is : n ≡ c + d
    n_is = omega (arith, ends)

    k_is : k ≡ c
    k_is = ek ∙ place_at n (omega (arith, n_is)) (omega (arith, n_is))

    there_not_none : ltb (from + 2 * k) (from + 2 * n) && eqb (get_or l (from + 2 * k) 0) i ≡ true → s i ≡ none → ⊥
    there_not_none t e =
        let a : from + 2 * k < from + 2 * n = ltb-true _ _ (and_left (ltb (from + 2 * k) (from + 2 * n)) (eqb (get_or l (from + 2 * k) 0) i) t) in
        let b : get_or l (from + 2 * k) 0 ≡ i = eqb-true _ _ (and_right (ltb (from + 2 * k) (from + 2 * n)) (eqb (get_or l (from + 2 * k) 0) i) t) in
        let none_here = upper_none s i 1 W (omega arith) (only_here s i e) in
        let f = index_in s (W - (i + 1)) (i + 1) 0 in
        let u : from + 2 * k ≡ from + 2 * c + 0 = omega (arith, k_is) in
        let v : 0 < d = omega (arith, n_is, k_is) in
        let r = read_up 0 (omega arith) in
        let b₁ : get_or (upper s i W) 0 0 ≡ i = sym r ∙ (rw (← u) b) in
        let p₁ = length_listed s (W - i) i in
        let p₂ = length_listed s (W - (i + 1)) (i + 1) in
        let p₃ : length (upper s i W) ≡ length (upper s (i + 1) W) = ap length none_here in
        let b₂ : get_or (upper s (i + 1) W) 0 0 ≡ i = rw none_here at b₁ in
        let z = f (omega arith) in
        omega arith

    not_there_lem : (y : ℕ) → s i ≡ some y → ltb (from + 2 * k) (from + 2 * n) && eqb (get_or l (from + 2 * k) 0) i ≡ true
    not_there_lem y e =
        let p₁ = length_listed s (W - i) i in
        let p₂ = ap length (upper_some s i 0 W less y e) in
        let v : 0 < d = omega arith in
        let u : from + 2 * k ≡ from + 2 * c + 0 = omega (arith, k_is) in
        let r : get_or l (from + 2 * k) 0 ≡ i = rw (u, read_up 0 (omega arith), upper_some s i 0 W less y e) in
        rw (lt-ltb (from + 2 * k) (from + 2 * n) (omega (arith, k_is, n_is)), eq-eqb (get_or l (from + 2 * k) 0) i r)

    module _ (x : ℕ) where
      -- nothing is put
      kept : (o : Option ℕ) → s i ≡ o → ltb (from + 2 * k) (from + 2 * n) && eqb (get_or l (from + 2 * k) 0) i ≡ true
          → Group l₀ from (both s (one_word i x)) W end l
      kept none e t = absurd (there_not_none t e)
      kept (some y) e t = rw (both_old s i x W less y e) g

      inserted : (o : Option ℕ) → s i ≡ o → ltb (from + 2 * k) (from + 2 * n) && eqb (get_or l (from + 2 * k) 0) i ≡ false
          → (r : ℕ) (m : List ℕ) → Emitted l (from + 2 * k) (i ∷ x ∷ part l (from + 2 * k) (2 * (n - k))) r m
          → Group l₀ from (both s (one_word i x)) W r m
      inserted (some y) e t r m p = clash _ (not_there_lem y e) t
      inserted none e t r m p =
          let u : n - k ≡ d = omega (arith, n_is, k_is) in
          let one = text_one i x in
          grown_by (one_word i x) 1 (omega arith) (only_here s i e) (λ j f. one_other i x j (λ q. f (omega arith) (omega arith))) r m
          (rw one (rw (u, k_is) at p))

-- `put`.

module _ (l : List ℕ) (from end i x n k : ℕ) (t : Bool) (below : from ≤ end) (room : end + 2 ≤ length l) (en : n ≡ (end - from) / 2) (ek : k ≡ place_of l from n i)
    (et : t ≡ ltb (from + 2 * k) (from + 2 * n) && eqb (get_or l (from + 2 * k) 0) i) where
  pub put_there : t ≡ true → Added l from end (one_word i x) end l
  put_there f =
      record {
        long = refl;
        grown = λ l₀ s W g o. let a = o i x (one_here i x) in kept l l₀ from end i W s g (omega arith) (omega arith) n k en ek a x (s i) refl (sym et ∙ f);
      }

  pub put_new : (r : ℕ) (m : List ℕ) → Emitted l (from + 2 * k) (i ∷ x ∷ part l (from + 2 * k) (2 * (n - k))) r m → t ≡ false
      → Added l from end (one_word i x) r m
  put_new r m p f =
      record {
        long = same_length p;
        grown = λ l₀ s W g o. let a = o i x (one_here i x) in inserted l l₀ from end i W s g (omega arith) (omega arith) n k en ek a x (s i) refl (sym et ∙ f) r m p;
      }

-- For callers.

pub group_none : (l : List ℕ) (from W : ℕ) → Group l from (λ w. none) W from l
group_none l from W =
    let e = listed_none (λ w. none) W 0 (λ i g k. refl) in
    record { end = rw e (omega arith); list = rw e }

only_left : (W : ℕ) (t u : Stores) → Only (λ w. w < W) (both t u) → Only (λ w. w < W) t
unfolding both
only_left W t u o w x e = o w x (rw e)

only_right : (W : ℕ) (t u : Stores) → Only (λ w. w < W) (both t u) → Only (λ w. w < W) u
unfolding both
only_right W t u o w x e = go (t w) refl
  where
    go : (a : Option ℕ) → t w ≡ a → w < W
    go none f = o w x (rw f e)
    go (some y) f = o w y (rw f)

pub first_assoc : (a b c : Option ℕ) → first_of (first_of a b) c ≡ first_of a (first_of b c)
first_assoc none b c = refl
first_assoc (some x) b c = refl

pub both_assoc : (a b c : Stores) → both (both a b) c ≡ both a (both b c)
unfolding both
both_assoc a b c = fun_ext (λ w. first_assoc (a w) (b w) (c w))

-- stores, and further stores behind them
pub added_both : {l : List ℕ} {from end : ℕ} {t : Stores} {r : ℕ} {m : List ℕ} {u : Stores} {q : ℕ} {p : List ℕ} → Added l from end t r m → Added m from r u q p
    → Added l from end (both t u) q p
added_both {t = t} {u = u} a b =
    record {
      long = b.long ∙ a.long;
      grown = λ l₀ s W g o. rw both_assoc at (b.grown l₀ (both s t) W (a.grown l₀ s W g (only_left W t u o)) (only_right W t u o));
    }

both_none : (s : Stores) → both s (λ w. none) ≡ s
unfolding both
both_none s = fun_ext (λ w. first_none (s w))

-- nothing is added
pub added_none : (l : List ℕ) (from end : ℕ) → Added l from end (λ w. none) end l
added_none l from end = record { long = refl; grown = λ l₀ s W g o. rw (both_none s) g }

-- stores that are added on a condition
module _ (l : List ℕ) (from end : ℕ) (b : Bool) (t : Stores) where
  pub added_if : (r : ℕ) (m : List ℕ) → b ≡ true → Added l from end t r m → Added l from end (only_if b t) r m
  unfolding only_if
  added_if r m e a = rw e a

  pub added_not : b ≡ false → Added l from end (only_if b t) end l
  unfolding only_if
  added_not e = rw e (added_none l from end)

-- a group that is begun and added to
pub group_of : {l : List ℕ} {from : ℕ} {t : Stores} {r : ℕ} {m : List ℕ} (W : ℕ) → Added l from from t r m → Only (λ w. w < W) t → Emitted l from (listed t W 0) r m
unfolding both
group_of {l} {from} W a o = a.grown l (λ w. none) W (group_none l from W) o

-- `Adding`: what is left to add.

pub adding_all : (l : List ℕ) (from end : ℕ) (t : Stores) → Adding l from end t l end t
adding_all l from end t = record { long = refl; rest = λ a. a }

pub adding_next : {l : List ℕ} {from end : ℕ} {t : Stores} {m : List ℕ} {e : ℕ} {u v : Stores} {r : ℕ} {p : List ℕ} → Adding l from end t m e (both u v)
    → Added m from e u r p → Adding l from end t p r v
adding_next q a = record { long = a.long ∙ q.long; rest = λ b. q.rest (added_both a b) }

pub adding_step : {l : List ℕ} {from end : ℕ} {t u v : Stores} {r : ℕ} {m : List ℕ} → t ≡ both u v → Added l from end u r m → Adding l from end t m r v
adding_step q a = record { long = a.long; rest = λ b. rw q (added_both a b) }

pub adding_then : {l : List ℕ} {from end : ℕ} {t : Stores} {m : List ℕ} {e : ℕ} {u : Stores} {p : List ℕ} {r : ℕ} {v : Stores} → Adding l from end t m e u
    → Adding m from e u p r v → Adding l from end t p r v
adding_then q a = record { long = a.long ∙ q.long; rest = λ b. q.rest (a.rest b) }

pub run_same : (w n : ℕ) (f g : ℕ → ℕ) → ((j : ℕ) → j < n → f j ≡ g j) → run w n f ≡ run w n g
unfolding run
run_same w n f g h = fun_ext (λ i. by_range w (w + n) i (λ e p q. rw (e, h (i - w) (omega arith))) (λ e p. rw e))

-- n words of src from element a on, as the code takes them
pub slice_run : (src : List ℕ) (a n w : ℕ) → a + n ≤ length src
    → run w (length (take n (drop a src))) (element (take n (drop a src))) ≡ run w n (element_from src a)
unfolding element element_from
slice_run src a n w room =
    rw (length-take-le n (drop a src) (rw length-drop (omega arith)))
    (run_same w n (λ j. get_or (take n (drop a src)) j 0) (λ j. get_or src (a + j) 0) (λ j h. get_or-take n (drop a src) j 0 h ∙ get_or-drop a src j 0))
