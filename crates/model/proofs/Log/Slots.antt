-- The slots of a log's pages, and what lay_entries lays into them.
use Rattle.model.proofs.Prelude.{◌≡◌, refl, sym, ◌∙◌, ap, ℕ, zero, suc, ◌+◌, ◌-◌, ◌*◌, ◌/◌, ◌%◌, ◌≤◌, ◌<◌, true, List, [], ◌∷◌, ◌++◌, some, arith, add-one, add-zero, zero-add, length, get_or, ne_eqb, lt-ltb, le-leb}
use Rattle.model.specs.Lists.{distinct}
use Rattle.model.specs.Layout.{footer}
use Rattle.model.specs.Log.{slots, entry_words}
use Rattle.model.specs.Calls.{lay_entries}
use Rattle.model.proofs.Lists.{index_get_or}

-- the first word of slot s of the pages ps, seven slots a page
unfoldable pub slot_word : List ℕ → ℕ → ℕ
slot_word ps s = 64 * get_or ps (s / 7) 0 + 8 * (s % 7)

-- the words of n slots from slot i on
unfoldable pub placed : List ℕ → ℕ → ℕ → List ℕ
placed ps i zero = []
placed ps i (suc n) = slot_word ps i ∷ placed ps (i + 1) n

slot_later : (p : ℕ) (ps : List ℕ) (s : ℕ) → slot_word (p ∷ ps) (s + 7) ≡ slot_word ps s
unfolding slot_word
slot_later p ps s =
    let d : (s + 7) / 7 ≡ suc (s / 7) = omega arith in
    let r : (s + 7) % 7 ≡ s % 7 = omega arith in
    rw (d, r)

slot_first : (p : ℕ) (ps : List ℕ) (s : ℕ) → s < 7 → slot_word (p ∷ ps) s ≡ 64 * p + 8 * s
unfolding slot_word
slot_first p ps s h =
    let d : s / 7 ≡ 0 = omega arith in
    let r : s % 7 ≡ s = omega arith in
    rw (d, r)

pub placed_split : (ps : List ℕ) (i a b : ℕ) → placed ps i (a + b) ≡ placed ps i a ++ placed ps (i + a) b
unfolding placed
placed_split ps i zero b = rw (zero-add b, add-zero i)
placed_split ps i (suc a) b =
    let s : suc a + b ≡ suc (a + b) = omega arith in
    let t : i + suc a ≡ i + 1 + a = omega arith in
    rw (s, t) (ap (λ (l : List ℕ). slot_word ps i ∷ l) (placed_split ps (i + 1) a b))

placed_later : (p : ℕ) (ps : List ℕ) (i n : ℕ) → placed (p ∷ ps) (i + 7) n ≡ placed ps i n
unfolding placed
placed_later p ps i zero = refl
placed_later p ps i (suc n) =
    let s : i + 7 + 1 ≡ i + 1 + 7 = omega arith in
    rw (placed, slot_later p ps i, s, placed_later p ps (i + 1) n)

-- slots of the first page
placed_first : (p : ℕ) (ps : List ℕ) (i n : ℕ) → i + n ≤ 7 → placed (p ∷ ps) i n ≡ slots n (64 * p + 8 * i)
unfolding placed slots
placed_first p ps i zero h = refl
placed_first p ps i (suc n) h =
    let s : 64 * p + 8 * i + 8 ≡ 64 * p + 8 * (i + 1) = omega arith in
    rw (slot_first p ps i (omega arith), s, placed_first p ps (i + 1) n (omega arith))

pub first_page : (p : ℕ) (ps : List ℕ) (n : ℕ) → n ≤ 7 → placed (p ∷ ps) 0 n ≡ slots n (64 * p)
first_page p ps n h = placed_first p ps 0 n (omega arith) ∙ ap (slots n) (omega arith)

-- the words of entries are those of all slots up to the tail
pub words_placed : (p : ℕ) (ps : List ℕ) (c : ℕ) → c ≤ 7 → entry_words (p ∷ ps) c ≡ placed (p ∷ ps) 0 (7 * length ps + c)
unfolding entry_words
words_placed p [] c h = sym (first_page p [] c h) ∙ ap (placed (p ∷ []) 0) (omega arith)
words_placed p (r ∷ ps) c h =
    let s : 7 * suc (length ps) + c ≡ 7 + (7 * length ps + c) = omega arith in
    rw (s, placed_split (p ∷ r ∷ ps) 0 7 (7 * length ps + c), first_page p (r ∷ ps) 7 (omega arith)) (ap (λ (l : List ℕ). slots 7 (64 * p) ++ l) (words_placed r ps c h ∙ sym (placed_later p (r ∷ ps) 0 (7 * length ps + c))))

-- what is laid
module _ (ps : List ℕ) (i : ℕ) (es : List (List ℕ)) (d : distinct ps ≡ true) where
  pub lay_link : (j : ℕ) → suc j < length ps → lay_entries ps i es (footer (get_or ps j 0)) ≡ some (get_or ps (suc j) 0)
  unfolding lay_entries
  lay_link j h =
      let p = get_or ps j 0 in
      let a : (64 * p + 56) / 64 ≡ p = omega arith in
      let b : (64 * p + 56) % 64 ≡ 56 = omega arith in
      rw (lay_entries, a, b, index_get_or ps j d (omega arith), lt-ltb j (length ps) (omega arith), add-one j, lt-ltb (suc j) (length ps) h)

  pub lay_slot : (s o : ℕ) → s / 7 < length ps → i ≤ s → s < i + length es → o < 8
      → lay_entries ps i es (slot_word ps s + o) ≡ some (get_or (get_or es (s - i) []) o 0)
  unfolding lay_entries slot_word
  lay_slot s o g l h k =
      let p = get_or ps (s / 7) 0 in
      let a : (64 * p + 8 * (s % 7) + o) / 64 ≡ p = omega arith in
      let b : (64 * p + 8 * (s % 7) + o) % 64 ≡ 8 * (s % 7) + o = omega arith in
      let c : 7 * (s / 7) + (8 * (s % 7) + o) / 8 ≡ s = omega arith in
      let f : (8 * (s % 7) + o) % 8 ≡ o = omega arith in
      rw (lay_entries, a, b, index_get_or ps (s / 7) d g, c, f, lt-ltb (s / 7) (length ps) g, ne_eqb (8 * (s % 7) + o) 56 (omega arith), lt-ltb (8 * (s % 7) + o) 56 (omega arith), le-leb i s l, lt-ltb s (i + length es) h)
