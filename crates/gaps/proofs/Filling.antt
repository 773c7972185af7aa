-- Lists that are filled with the gaps, one gap each turn: the elements of the gaps so far stand at the list's start.
use Rattle.model.proofs.Prelude.{ℕ, suc, ◌+◌, ◌*◌, ◌/◌, ◌≤◌, ◌<◌, ◌≡◌, refl, sym, ◌∙◌, ap, List, [], ◌∷◌, ◌++◌, map, some, arith, add-zero, zero-add, length, length-map, get_or, set, length-append, map-append, sets, sets-eq, drop, take-length}
use Rattle.std.specs.Prelude.{Result, Err, IsErrAnd}
use Rattle.std.specs.List.{enumerate_from}
use Rattle.std.specs.Iterator.{YieldsFirst}
use Rattle.std.specs.Iterator.Adapters.{enumerate_steps, take_steps}
use Rattle.std.specs.declared.iter.Enumerate.{Enumerate}
use Rattle.std.specs.declared.iter.Take.{Take}
use Rattle.std.proofs.lemmas.Iterator.{YieldsList, YieldsList-from_take}
use Rattle.std.proofs.lemmas.Iterator.Consumers.{YieldsList-from_first, YieldsList-from_enumerate}
use Rattle.std.proofs.lemmas.List.FromFn.{length-enumerate_from, get_or-enumerate_from}
use Rattle.model.specs.Answer as model
use Rattle.model.specs.Answer.{refused, done, map_answer}
use Rattle.model.specs.Public.{gaps_answer, gaps_list, flat, gaps_words}
use Rattle.answer.specs.Meaning.{meaning, numbered, number_of}
use Rattle.answer.specs.declared.Refusal.{Refusal}
use Rattle.answer.proofs.Checked.{clash, passed_on}
use Rattle.gaps.specs.Gaps.{gap_of, gaps_left, gaps_ahead, Seen, Judged}
use Rattle.gaps.proofs.Found.{few_left}
use Rattle.gaps.specs.declared.Gap.{Gap}
use Rattle.gaps.specs.declared.Gaps.{Gaps}

-- The loop goes over the gaps gs, numbered; ps are the numbered gaps so far.

-- the gaps of numbered gaps
abbrev pub without_numbers : List (ℕ × Gap) → List Gap
without_numbers ps = map (λ p. p.1) ps

-- the next one has the number of those before it
pub next_number : (gs : List Gap) (ps : List (ℕ × Gap)) (i : ℕ) (g : Gap)
    → (length ps < length (enumerate_from 0 gs)) × ((i, g) ≡ get_or (enumerate_from 0 gs) (length ps) (i, g))
    → (i ≡ length ps) × (i < length gs)
next_number gs ps i g t =
    let l : length ps < length gs = rw length-enumerate_from at t.0 in
    let e : i ≡ length ps = ap (λ p. p.0) (t.1 ∙ get_or-enumerate_from 0 gs (length ps) (i, g) l) ∙ zero-add (length ps) in
    (e, rw e l)

as_they_are : (ps : List (ℕ × Gap)) → without_numbers (map (λ p. (p.0, p.1)) ps) ≡ without_numbers ps
as_they_are [] = refl
as_they_are (p ∷ ps) = ap (λ r. p.1 ∷ r) (as_they_are ps)

numbers_off : (n : ℕ) (gs : List Gap) → without_numbers (enumerate_from n gs) ≡ gs
numbers_off n [] = refl
numbers_off n (g ∷ gs) = ap (λ r. g ∷ r) (numbers_off (n + 1) gs)

-- at the end there are no others
pub all_of_them : (gs : List Gap) (ps : List (ℕ × Gap)) → map (λ p. (p.0, p.1)) ps ≡ enumerate_from 0 gs → without_numbers ps ≡ gs
all_of_them gs ps e = sym (as_they_are ps) ∙ ap without_numbers e ∙ numbers_off 0 gs

-- those are the gaps that the marks show
pub numbered_gaps : (s : Enumerate Gaps) (gs : List Gap) → gaps_ahead s.iter.marks.now s.iter.sizes s.iter.from ≡ gs → s.count ≡ 0
    → YieldsList (enumerate_steps (YieldsFirst (λ g. gaps_ahead g.marks.now g.sizes g.from))) (λ p. (p.0, p.1)) s (enumerate_from 0 gs)
numbered_gaps s gs e z =
    YieldsList-from_enumerate {s = s} (YieldsList-from_first (λ x. x) (λ g. gaps_ahead g.marks.now g.sizes g.from) gs e) z

-- the same where no more are asked for than there are
pub numbered_taken : (s : Enumerate (Take Gaps)) (gs : List Gap) → gaps_ahead s.iter.iter.marks.now s.iter.iter.sizes s.iter.iter.from ≡ gs
    → s.iter.n ≡ length gs → s.count ≡ 0
    → YieldsList (enumerate_steps (take_steps (YieldsFirst (λ g. gaps_ahead g.marks.now g.sizes g.from)))) (λ p. (p.0, p.1)) s
    (enumerate_from 0 gs)
numbered_taken s gs e n z =
    let r = YieldsList-from_take {s = s.iter} (length gs)
    (YieldsList-from_first (λ x. x) (λ g. gaps_ahead g.marks.now g.sizes g.from) gs e) n in
    YieldsList-from_enumerate {s = s} (rw (take-length gs) at r) z

-- one element more, behind those that were set
sets_more : {A : Type 0} (xs l : List A) (i : ℕ) (x : A) → sets l i (xs ++ x ∷ []) ≡ set (sets l i xs) (i + length xs) x
sets_more [] l i x = rw add-zero
sets_more (y ∷ ys) l i x =
    sets_more ys (set l i y) (suc i) x ∙ ap (λ (k : ℕ). set (sets (set l i y) (suc i) ys) k x) (omega arith)

-- what the list becomes is the elements of the gaps, and behind them its own
filled : {A : Type 0} (l xs : List A) → length xs ≤ length l → sets l 0 xs ≡ xs ++ drop (length xs) l
filled l xs h = rw zero-add at (sets-eq xs l 0 (omega arith))

-- a refusal lists no gap
not_listed : (y : model.Answer (List (ℕ × ℕ))) (k : ℕ) → refused k ≡ numbered (map_answer length y) → y ≡ refused k
not_listed (refused n) k h = cc
not_listed (done gs) k h = clash k (some (length gs)) h

-- A list of gaps: gap i is element i.

module _ (l₀ : List Gap) where
  pub gaps_next : (ps : List (ℕ × Gap)) (l : List Gap) (i : ℕ) (g : Gap) → l ≡ sets l₀ 0 (without_numbers ps) → i ≡ length ps
      → set l i g ≡ sets l₀ 0 (without_numbers (ps ++ (i, g) ∷ []))
  gaps_next ps l i g e f =
      let k : i ≡ 0 + length (without_numbers ps) = rw (length-map, f) (sym (zero-add (length ps))) in
      rw (e, map-append) (ap (λ j. set (sets l₀ 0 (without_numbers ps)) j g) k ∙ sym (sets_more (without_numbers ps) l₀ 0 g))

  module _ (v marks : List ℕ) where
    pub gaps_room : (n i : ℕ) (l : List Gap) → Seen v (length l₀) n marks → i < length (map gap_of (gaps_left v marks 0))
        → length l ≡ length l₀ → i < length l
    gaps_room n i l s h e = let k = rw length-map at h in omega (arith, s.count, s.fits)

    -- the byte at which gap i stands in the list is a number of 64 bits
    pub gap_fits : (n i : ℕ) → Seen v (length l₀) n marks → i < length (map gap_of (gaps_left v marks 0))
        → i * 16 < 18446744073709551616
    gap_fits n i s h = let k = rw length-map at h in let f = few_left v marks 0 s.pages in omega (arith, k, f)

    pub gaps_end : (n : ℕ) (l : List Gap) (ps : List (ℕ × Gap)) → Seen v (length l₀) n marks → l ≡ sets l₀ 0 (without_numbers ps)
        → without_numbers ps ≡ map gap_of (gaps_left v marks 0) → l ≡ gaps_list gap_of v l₀
    unfolding gaps_list
    gaps_end n l ps s e f =
        rw s.gaps (e ∙ rw f (filled l₀ (map gap_of (gaps_left v marks 0)) (rw length-map (omega (arith, s.count, s.fits)))))

    pub gaps_told : (e : Refusal) (r : Result ℕ Refusal) → IsErrAnd r (λ d. d ≡ e) → Judged v (length l₀) (Err e) marks
        → (meaning r ≡ numbered (gaps_answer v (length l₀))) × (l₀ ≡ gaps_list gap_of v l₀)
    unfolding gaps_list gaps_answer
    gaps_told e r p j = rw (passed_on e r p) (j.answer, rw (not_listed _ (number_of e) j.answer))

-- A list of words: gap i is elements 2 i and 2 i + 1.

-- the words of gaps
unfoldable pub words_of : List Gap → List ℕ
words_of [] = []
words_of (g ∷ gs) = g.first ∷ g.length ∷ words_of gs

length_words : (gs : List Gap) → length (words_of gs) ≡ 2 * length gs
unfolding words_of
length_words [] = refl
length_words (g ∷ gs) = let e = length_words gs in omega arith

words_append : (gs : List Gap) (g : Gap) → words_of (gs ++ g ∷ []) ≡ (words_of gs ++ g.first ∷ []) ++ g.length ∷ []
unfolding words_of
words_append [] g = refl
words_append (h ∷ gs) g = ap (λ r. h.first ∷ h.length ∷ r) (words_append gs g)

words_flat : (gs : List (ℕ × ℕ)) → words_of (map gap_of gs) ≡ flat gs
unfolding words_of flat
words_flat [] = refl
words_flat (g ∷ gs) = ap (λ r. g.0 ∷ g.1 ∷ r) (words_flat gs)

module _ (l₀ : List ℕ) where
  -- m is what `put_pair` leaves of the list
  pub words_next : (ps : List (ℕ × Gap)) (l m : List ℕ) (i : ℕ) (g : Gap) → l ≡ sets l₀ 0 (words_of (without_numbers ps)) → i ≡ length ps
      → m ≡ set (set l (2 * i) g.first) (2 * i + 1) g.length → m ≡ sets l₀ 0 (words_of (without_numbers (ps ++ (i, g) ∷ [])))
  words_next ps l m i g e f h =
      let gs = without_numbers ps in
      let k : 2 * i ≡ 0 + length (words_of gs) = rw (length_words, length-map) (omega (arith, f)) in
      let j : 2 * i + 1 ≡ 0 + length (words_of gs ++ g.first ∷ []) = rw length-append (omega (arith, k)) in
      h ∙ rw (map-append, words_append, sets_more, sets_more, ← k, ← j, e)

  module _ (v marks : List ℕ) where
    pub words_room : (n i : ℕ) (l : List ℕ) → Seen v (length l₀ / 2) n marks → i < length (map gap_of (gaps_left v marks 0))
        → length l ≡ length l₀ → 2 * i + 1 < length l
    words_room n i l s h e = let k = rw length-map at h in omega (arith, s.count, s.fits)

    pub words_end : (n : ℕ) (l : List ℕ) (ps : List (ℕ × Gap)) → Seen v (length l₀ / 2) n marks
        → l ≡ sets l₀ 0 (words_of (without_numbers ps)) → without_numbers ps ≡ map gap_of (gaps_left v marks 0) → l ≡ gaps_words v l₀
    unfolding gaps_words
    words_end n l ps s e f =
        let w = words_flat (gaps_left v marks 0) in
        rw s.gaps
        (e ∙ rw (f, w) (filled l₀ (flat (gaps_left v marks 0)) (rw (← w, length_words, length-map) (omega (arith, s.count, s.fits)))))

    pub words_told : (e : Refusal) (r : Result ℕ Refusal) → IsErrAnd r (λ d. d ≡ e) → Judged v (length l₀ / 2) (Err e) marks
        → (meaning r ≡ numbered (gaps_answer v (length l₀ / 2))) × (l₀ ≡ gaps_words v l₀)
    unfolding gaps_words gaps_answer
    words_told e r p j = rw (passed_on e r p) (j.answer, rw (not_listed _ (number_of e) j.answer))
