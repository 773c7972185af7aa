-- The first words of a log's entries: none comes twice, since its pages differ, and each is eight words behind the one before or starts a page.
use Rattle.model.proofs.Prelude.{ℕ, zero, suc, ◌+◌, ◌*◌, ◌/◌, ◌%◌, ◌≤◌, ◌≡◌, refl, sym, ◌∙◌, ⊎_elim, true, false, List, [], ◌∷◌, ◌++◌, Option, none, some, arith, eq-eqb, le-leb}
use Rattle.model.specs.Lists.{all, has, distinct, or_else}
use Rattle.model.specs.Words.{Mem}
use Rattle.model.specs.Log.{slots, entry_words, log_pages, pages, tail_slots}
use Rattle.model.proofs.Tests.{by_bool, no}
use Rattle.model.proofs.Lists.{has_cons, has_append, has_head, has_tail, distinct_cons, all_by, has_front}
use Rattle.model.proofs.Log.Pages.{slots_range}
use Rattle.model.proofs.Log.Distinct.{log_distinct, log_inside, inside_at}
use Rattle.inode_log.specs.Found.{is_placed}

distinct_append : (xs ys : List ℕ) → distinct xs ≡ true → distinct ys ≡ true → ((x : ℕ) → has x xs ≡ true → has x ys ≡ false)
    → distinct (xs ++ ys) ≡ true
unfolding distinct
distinct_append [] ys a b h = b
distinct_append (x ∷ xs) ys a b h =
    let c = distinct_cons x xs a in
    by_bool (has x (xs ++ ys))
    (λ e. ⊎_elim (λ y. no (sym c.0 ∙ y)) (λ y. no (sym (h x (has_head x xs)) ∙ y)) (has_append x xs ys e))
    (λ e. rw (distinct, e) (distinct_append xs ys c.1 b (λ y k. h y (has_tail y x xs k))))

slots_eight : (n v w : ℕ) → v % 8 ≡ 0 → has w (slots n v) ≡ true → w % 8 ≡ 0
unfolding slots has
slots_eight zero v w e h = no h
slots_eight (suc n) v w e h =
    ⊎_elim (λ q. rw q e) (λ k. slots_eight n (v + 8) w (omega arith) k) (has_cons w v (slots n (v + 8)) h)

slots_apart : (n v : ℕ) → distinct (slots n v) ≡ true
unfolding slots distinct
slots_apart zero v = refl
slots_apart (suc n) v =
    by_bool (has v (slots n (v + 8))) (λ e. let r = slots_range n (v + 8) v e in absurd (omega arith)) (λ e. rw (distinct, e) (slots_apart n (v + 8)))

-- where the words of a log's entries stand
words_in : (ps : List ℕ) (c w : ℕ) → c ≤ 7 → has w (entry_words ps c) ≡ true → (has (w / 64) ps ≡ true) × (w % 8 ≡ 0)
unfolding entry_words has
words_in [] c w l h = no h
words_in (p ∷ []) c w l h =
    let r = slots_range c (64 * p) w h in
    let e : w / 64 ≡ p = omega arith in
    (has_front (w / 64) p [] e, slots_eight c (64 * p) w (omega arith) h)
words_in (p ∷ q ∷ ps) c w l h =
    ⊎_elim {C = (has (w / 64) (p ∷ q ∷ ps) ≡ true) × (w % 8 ≡ 0)}
    (λ g.
    let r = slots_range 7 (64 * p) w g in
    let e : w / 64 ≡ p = omega arith in
    (has_front (w / 64) p (q ∷ ps) e, slots_eight 7 (64 * p) w (omega arith) g))
    (λ g. let r = words_in (q ∷ ps) c w l g in (has_tail (w / 64) p (q ∷ ps) r.0, r.1))
    (has_append w (slots 7 (64 * p)) (entry_words (q ∷ ps) c) h)

words_apart : (ps : List ℕ) (c : ℕ) → c ≤ 7 → distinct ps ≡ true → distinct (entry_words ps c) ≡ true
unfolding entry_words distinct
words_apart [] c l d = refl
words_apart (p ∷ []) c l d = slots_apart c (64 * p)
words_apart (p ∷ q ∷ ps) c l d =
    let e = distinct_cons p (q ∷ ps) d in
    distinct_append (slots 7 (64 * p)) (entry_words (q ∷ ps) c) (slots_apart 7 (64 * p)) (words_apart (q ∷ ps) c l e.1)
    (λ x h.
    let r = slots_range 7 (64 * p) x h in
    let z : x / 64 ≡ p = omega arith in
    by_bool (has x (entry_words (q ∷ ps) c)) (λ y. no (sym e.0 ∙ (rw z at (words_in (q ∷ ps) c x l y).0))) (λ y. y))

-- the log of inode k
module _ (u : Mem) (P N k : ℕ) where
  few : tail_slots u k ≤ 7
  few = omega arith

  pub log_apart : distinct (entry_words (pages u P N k) (tail_slots u k)) ≡ true
  unfolding pages distinct entry_words
  log_apart = go (log_pages u P N k) refl
    where
      go : (o : Option (List ℕ)) → log_pages u P N k ≡ o → distinct (entry_words (or_else o []) (tail_slots u k)) ≡ true
      go none e = refl
      go (some ps) e = words_apart ps (tail_slots u k) few (log_distinct u P N k ps e).0

  pub log_placed : all is_placed (entry_words (pages u P N k) (tail_slots u k)) ≡ true
  unfolding pages all entry_words is_placed
  log_placed = go (log_pages u P N k) refl
    where
      go : (o : Option (List ℕ)) → log_pages u P N k ≡ o → all is_placed (entry_words (or_else o []) (tail_slots u k)) ≡ true
      go none e = refl
      go (some ps) e =
          all_by is_placed (entry_words ps (tail_slots u k))
          (λ w h.
          let r = words_in ps (tail_slots u k) w few h in
          let b = inside_at P N (w / 64) ps (log_inside u P N k ps e) r.0 in
          rw (eq-eqb (w % 8) 0 r.1, le-leb 64 w (omega arith)))
