-- Words from w on that are added to a group: one by one, or, where the group stores none of them, in one go.
use Rattle.model.proofs.Prelude.{ℕ, ◌+◌, ◌*◌, ◌-◌, ◌/◌, ◌≤◌, ◌<◌, ◌≡◌, ◌∙◌, fun_ext, List, [], ◌∷◌, ◌++◌, none, arith, zero-add, add-zero, sub-zero, le_refl, length, get_or}
use Rattle.model.specs.Stores.{Stores, one_word, run, both, listed}
use Rattle.model.proofs.Crash.Stores.{one_here, one_other}
use Rattle.model.proofs.Tests.{by_eq, by_range, inside, outside}
use Rattle.stores.specs.Emitted.{Emitted}
use Rattle.stores.specs.Added.{Group, Added, Adding, element, element_from, part, run_text, place_of}
use Rattle.stores.proofs.Emitting.{same_length, Rest, rest_all, rest_next, rest_none}
use Rattle.stores.proofs.Listed.{listed_first}
use Rattle.stores.proofs.Texts.{pairs, none_listed}
use Rattle.stores.proofs.Groups.{pairs_both, ends, place_at, grown_by, added_none, adding_all, adding_next}

run_none : (i n : ℕ) (f : ℕ → ℕ) → n ≤ 0 → run i n f ≡ (λ w. none)
unfolding run
run_none i n f h = fun_ext (λ w. by_range i (i + n) w (λ e p q. absurd (omega arith)) (λ e p. rw e))

run_more : (i n : ℕ) (f g : ℕ → ℕ) → 0 < n → ((j : ℕ) → f (j + 1) ≡ g j) → run i n f ≡ both (one_word i (f 0)) (run (i + 1) (n - 1) g)
unfolding run both
run_more i n f g h e =
    fun_ext (λ w.
    by_eq w i
    (λ q. let z : w - i ≡ 0 = omega arith in rw (inside i (i + n) w (omega arith) (omega arith), z, q, one_here i (f 0)))
    (λ q. rw (one_other i (f 0) w q)
    (by_range (i + 1) (i + 1 + (n - 1)) w
    (λ r a b. let z : w - i ≡ w - (i + 1) + 1 = omega arith in rw (r, inside i (i + n) w (omega arith) (omega arith), z, e))
    (λ r a. rw (r, outside i (i + n) w (λ c d. a (omega arith) (omega arith)))))))

text_more : (i n : ℕ) (f g : ℕ → ℕ) → 0 < n → ((j : ℕ) → f (j + 1) ≡ g j) → run_text i n f ≡ i ∷ f 0 ∷ run_text (i + 1) (n - 1) g
unfolding both
text_more i n f g h e =
    let z : i + n - (i + 1) ≡ n - 1 = omega arith in
    let t = run (i + 1) (n - 1) g in
    rw (run_more i n f g h e)
    (rw z at (listed_first (both (one_word i (f 0)) t) t i (f 0) n i (le_refl i) (omega arith)
    (λ j p q. absurd (omega arith)) (rw (one_here i (f 0))) (λ j p. rw (one_other i (f 0) j (λ q. omega arith)))))

-- The words of src, n words from w on.
module _ (w : ℕ) (src : List ℕ) where
  abbrev n : ℕ
  n = length src

  abbrev words : Stores
  words = run w n (element src)

  abbrev text : List ℕ
  text = run_text w n (element src)

  -- those from word i of src on, and their text
  abbrev words_from : ℕ → Stores
  words_from i = run (w + i) (n - i) (element_from src i)

  abbrev text_from : ℕ → List ℕ
  text_from i = run_text (w + i) (n - i) (element_from src i)

  from_first : element_from src 0 ≡ element src
  unfolding element element_from
  from_first = fun_ext (λ j. rw (zero-add j))

  from_here : (i : ℕ) → element_from src i 0 ≡ get_or src i 0
  unfolding element_from
  from_here i = rw add-zero

  from_next : (i j : ℕ) → element_from src i (j + 1) ≡ element_from src (i + 1) j
  unfolding element_from
  from_next i j = let z : i + (j + 1) ≡ i + 1 + j = omega arith in rw z

  module _ (i : ℕ) (h : i < n) where
    next_word : w + i + 1 ≡ w + (i + 1)
    next_word = omega arith

    left_then : n - i - 1 ≡ n - (i + 1)
    left_then = omega arith

    words_more : words_from i ≡ both (one_word (w + i) (get_or src i 0)) (words_from (i + 1))
    words_more =
        rw (next_word, left_then, from_here i)
        at (run_more (w + i) (n - i) (element_from src i) (element_from src (i + 1)) (omega arith) (from_next i))

    text_first : text_from i ≡ (w + i) ∷ get_or src i 0 ∷ text_from (i + 1)
    text_first =
        rw (next_word, left_then, from_here i)
        at (text_more (w + i) (n - i) (element_from src i) (element_from src (i + 1)) (omega arith) (from_next i))

  -- `put_each`
  module _ (l : List ℕ) (end : ℕ) where
    pub words_start : Adding l 0 end words l end (words_from 0)
    words_start = rw (add-zero w, sub-zero n, from_first) (adding_all l 0 end words)

    module _ (m : List ℕ) (e i : ℕ) (q : Adding l 0 end words m e (words_from i)) where
      pub words_next : (r : ℕ) (p : List ℕ) → i < n → Added m 0 e (one_word (w + i) (get_or src i 0)) r p
          → Adding l 0 end words p r (words_from (i + 1))
      words_next r p h b = adding_next (rw (words_more i h) at q) b

      pub words_done : n ≤ i → Added l 0 end words e m
      words_done h = q.rest (rw (run_none (w + i) (n - i) (element_from src i) (omega arith)) (added_none m 0 e))

  -- `fill`
  module _ (l : List ℕ) (at : ℕ) where
    pub fill_start : Rest l at text l at (text_from 0)
    fill_start = rw (add-zero w, sub-zero n, from_first) (rest_all l at text)

    module _ (m : List ℕ) (a i : ℕ) (q : Rest l at text m a (text_from i)) where
      pub fill_next : (b : ℕ) (p : List ℕ) → i < n → Emitted m a ((w + i) ∷ get_or src i 0 ∷ []) b p → Rest l at text p b (text_from (i + 1))
      fill_next b p h o = rest_next ((w + i) ∷ get_or src i 0 ∷ []) (text_from (i + 1)) (rw (text_first i h) at q) o

      pub fill_done : n ≤ i → Emitted l at text a m
      unfolding listed
      fill_done h = let e : n - i ≡ 0 = omega arith in rest_none (rw e at q)

  -- `put_words`: there is nothing to add
  pub words_none : (l : List ℕ) (end : ℕ) → n ≡ 0 → Added l 0 end words end l
  words_none l end e = rw (run_none w n (element src) (omega arith)) (added_none l 0 end)

  -- `put_words`: of the group's q pairs b are of words below w + n, and all of these, k, of words below w
  module _ (l : List ℕ) (end q b k r : ℕ) (m : List ℕ) (room : end + 2 * n ≤ length l) (eq : q ≡ end / 2) (eb : b ≡ place_of l 0 q (w + n))
      (ek : k ≡ place_of l 0 b w) (free : b ≤ k) (more : n ≡ 0 → ⊥) (p : Emitted l (2 * k) (text ++ part l (2 * k) (2 * (q - k))) r m) where
    -- the group s: its pairs of words below w, from w to w + n, and from there on
    module _ (l₀ : List ℕ) (s : Stores) (W : ℕ) (g : Group l₀ 0 s W end l) (h : w + n ≤ W) where
      abbrev low : ℕ
      low = pairs s w 0

      abbrev here : ℕ
      here = pairs s n w

      abbrev high : ℕ
      high = pairs s (W - (w + n)) (w + n)

      fits : end ≤ length l
      fits = omega arith

      low_both : pairs s (w + n) 0 ≡ low + here
      low_both = pairs_both s w n 0 ∙ rw zero-add

      ends_all : end ≡ 0 + 2 * (pairs s (w + n) 0 + high)
      ends_all = ends l l₀ 0 end (w + n) W s g h fits

      high_both : pairs s (W - w) w ≡ here + high
      high_both = omega (arith, ends l l₀ 0 end w W s g (omega arith) fits, ends_all, low_both)

      b_is : b ≡ low + here
      b_is = eb ∙ place_at l l₀ 0 end (w + n) W s g h fits q (omega (arith, ends_all)) (omega (arith, ends_all)) ∙ low_both

      k_is : k ≡ low
      k_is = ek ∙ place_at l l₀ 0 end w W s g (omega arith) fits b (omega (arith, b_is)) (omega (arith, b_is, high_both))

      words_in : Group l₀ 0 (both s words) W r m
      unfolding run
      words_in =
          let u : q - k ≡ pairs s (W - w) w = omega (arith, ends_all, low_both, high_both, k_is) in
          grown_by l l₀ 0 end w W s g (omega arith) fits words n h
          (λ j c d. none_listed s n w j (omega (arith, b_is, k_is)) c d)
          (λ j c. rw (outside w (w + n) j c))
          r m (rw zero-add (rw (u, k_is) at p))

    pub words_new : Added l 0 end words r m
    unfolding run
    words_new =
        let i = w + n - 1 in
        record {
          long = same_length p;
          grown = λ l₀ s W g o.
              let last = o i (element src (i - w)) (rw (inside w (w + n) i (omega arith) (omega arith))) in
              words_in l₀ s W g (omega arith);
        }
