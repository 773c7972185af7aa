-- A log read from the raw memory is the log of the view: its pages lie past the inode table, where both have the same words.
use Rattle.model.proofs.Prelude.{ℕ, zero, suc, ◌+◌, ◌*◌, ◌/◌, ◌%◌, ◌≤◌, ◌<◌, ◌≡◌, refl, sym, Bool, true, false, List, [], map, Option, none, some, arith, ne_eqb}
use Rattle.model.specs.Lists.{is_some, or_else}
use Rattle.model.specs.Words.{Mem}
use Rattle.model.specs.Layout.{head_word, tail_word, footer, in_pages}
use Rattle.model.specs.Journal.{view, journal_ok}
use Rattle.model.specs.Entry.{entry_at}
use Rattle.model.specs.Log.{walk, entry_words, tail_ok, tail_slots, pages_of, log_pages, pages, entries}
use Rattle.model.proofs.Tests.{by_bool, by_eq, no, not_true_false}
use Rattle.model.proofs.Lists.{all_has}
use Rattle.model.proofs.Log.Chain.{walk_chain, chain_inside}
use Rattle.model.proofs.Log.Extend.{tail_ok_lem, tail_slots_lem}
use Rattle.model.proofs.Log.Pages.{entries_same, live_words}
use Rattle.model.proofs.Frame.Placed.{in_bounds}
use Rattle.journal.proofs.Views.{view_raw}
use Rattle.marks.specs.Marks.{fresh, marked, Walked}
use Rattle.inode_log.specs.Ready.{Ready}
use Rattle.inode_log.specs.Steps.{words_from, entries_from}
use Rattle.inode_log.specs.Found.{LogOf}
use Rattle.inode_log.proofs.Marking.{not_walked, walk_no_end, walk_no_head}
use Rattle.inode_log.proofs.Reading.{start_of, words_of, Read, read}
use Rattle.inode_log.proofs.Places.{log_apart, log_placed}

module _ (m u : Mem) (P N : ℕ) (eight : N % 8 ≡ 0) (same : (w : ℕ) → 64 + 8 * N ≤ w → u w ≡ m w) where
  walk_raw : (n p q : ℕ) → walk m P N n p q ≡ walk u P N n p q
  unfolding walk
  walk_raw zero p q = refl
  walk_raw (suc n) p q =
      by_bool (in_pages P N p)
      (λ i. let b = in_bounds P N p i in rw (walk, i, same (footer p) (omega arith), walk_raw n (m (footer p)) q))
      (λ i. rw (walk, i))

  pages_raw : (h t : ℕ) → pages_of m P N h t ≡ pages_of u P N h t
  unfolding pages_of
  pages_raw h t = rw (walk_raw P h (t / 512))

  option_raw : (h q c : ℕ) (o : Option (List ℕ)) → c ≤ 7 → walk u P N P h q ≡ o
      → map (entry_at m) (entry_words (or_else o []) c) ≡ map (entry_at u) (entry_words (or_else o []) c)
  unfolding entry_words
  option_raw h q c none l e = refl
  option_raw h q c (some ps) l e =
      let d = (walk_chain u P N q P h ps e).0 in
      entries_same u m (entry_words ps c)
      (live_words u m P N q c ps d
      (λ w i k.
      let z = in_bounds P N (w / 64) (all_has (in_pages P N) (w / 64) ps (chain_inside u P N q ps d) i) in
      sym (same w (omega arith))) l)

  entries_raw : (h t : ℕ) → map (entry_at m) (words_of m P N h t) ≡ map (entry_at u) (entry_words (or_else (pages_of u P N h t) []) (t % 512 / 64))
  unfolding words_of pages_of entry_words
  entries_raw h t =
      by_eq t 0 (λ z. rw z)
      (λ z. by_bool (tail_ok t)
      (λ k. rw (ne_eqb t 0 z, k, walk_raw P h (t / 512)) (option_raw h (t / 512) (t % 512 / 64) (walk u P N P h (t / 512)) (omega arith) refl))
      (λ k. rw (ne_eqb t 0 z, k)))

module _ (m : Mem) (P N : ℕ) (eight : N % 8 ≡ 0) (j : journal_ok m N ≡ true) (k : ℕ) where
  inode_pages : pages_of m P N (view m (head_word k)) (view m (tail_word k)) ≡ log_pages (view m) P N k
  unfolding log_pages
  inode_pages = pages_raw m (view m) P N eight (λ w h. view_raw m N w j h) (view m (head_word k)) (view m (tail_word k))

  inode_words : words_of m P N (view m (head_word k)) (view m (tail_word k)) ≡ entry_words (pages (view m) P N k) (tail_slots (view m) k)
  unfolding words_of pages
  inode_words = rw inode_pages

  inode_entries : map (entry_at m) (words_of m P N (view m (head_word k)) (view m (tail_word k))) ≡ entries (view m) P N k
  unfolding log_pages entries pages
  inode_entries = entries_raw m (view m) P N eight (λ w h. view_raw m N w j h) (view m (head_word k)) (view m (tail_word k))

-- the words of inode k lie in the volume
pub inode_in_lem : (m : Mem) (L P N k : ℕ) → Ready m L P N → k < N → 64 * k + 576 ≤ L
inode_in_lem m L P N k r h = let a = r.bytes in let b = r.room in let c = r.eight in omega arith

-- Inode k's log: t is the tail that the code read from the view.
module _ (m : Mem) (L P N k b t : ℕ) (ready : Ready m L P N) (y : b ≡ tail_word k) (i : t ≡ view m b) where
  pages_are : pages_of m P N (view m (head_word k)) t ≡ log_pages (view m) P N k
  pages_are = rw (i, y) (inode_pages m P N ready.eight ready.journal k)

  -- The walk that marks: u are the marks before it.
  pub empty_log : (u : List ℕ) → t ≡ 0 → Walked (log_pages (view m) P N k) u true u
  unfolding pages_of fresh marked
  empty_log u z = rw (← pages_are, z) (record { answer = refl; list = λ _. refl })

  wrong_tail : (u : List ℕ) → (t ≡ 0 → ⊥) → (tail_ok t ≡ true → ⊥) → Walked (log_pages (view m) P N k) u false u
  unfolding pages_of
  wrong_tail u z w = not_walked (log_pages (view m) P N k) u u (rw (← pages_are, ne_eqb t 0 z, not_true_false (tail_ok t) w))

  pub odd_tail : (u : List ℕ) → (t ≡ 0 → ⊥) → (t % 64 ≡ 0 → ⊥) → Walked (log_pages (view m) P N k) u false u
  odd_tail u z e = wrong_tail u z (λ k. let s = tail_slots_lem t k in e (omega arith))

  pub round_tail : (u : List ℕ) → (t ≡ 0 → ⊥) → t % 512 ≡ 0 → Walked (log_pages (view m) P N k) u false u
  round_tail u z f = wrong_tail u z (λ k. let s = tail_slots_lem t k in omega arith)

  -- A tail that is right.
  module _ (z : t ≡ 0 → ⊥) (e : t % 64 ≡ 0) (f : t % 512 ≡ 0 → ⊥) where
    walk_is : walk m P N P (view m (head_word k)) (t / 512) ≡ log_pages (view m) P N k
    unfolding pages_of
    walk_is =
        let o : tail_ok t ≡ true = tail_ok_lem t (t % 512 / 64) (omega arith) (omega arith) (omega arith) in
        rw (ne_eqb t 0 z, o) at pages_are

    -- g is what `is_page` answered of the tail's page
    pub last_out : (g : Bool) (u : List ℕ) → g ≡ in_pages P N (t / 512) → g ≡ false → Walked (log_pages (view m) P N k) u false u
    last_out g u d y = rw (← walk_is) (walk_no_end m P N (view m (head_word k)) (t / 512) u g d y)

    -- h is the head that the code read
    module _ (a h : ℕ) (x : a ≡ head_word k) (d : h ≡ view m a) where
      head_is : h ≡ view m (head_word k)
      head_is = rw (d, x)

      -- g is what `is_page` answered of it
      pub head_out : (g : Bool) (u : List ℕ) → g ≡ in_pages P N h → g ≡ false → Walked (log_pages (view m) P N k) u false u
      head_out g u c y = rw (← walk_is, ← head_is) (walk_no_head m P N h (t / 512) u g c y)

      pub log_walk : (u v : List ℕ) (r : Bool) → Walked (walk m P N P h (t / 512)) u r v → Walked (log_pages (view m) P N k) u r v
      log_walk u v r w = rw (← walk_is, ← head_is) w

  -- A log whose walk is known to end.
  module _ (s : is_some (log_pages (view m) P N k) ≡ true) where
    reading : Read m P N (view m (head_word k)) t
    reading = read m P N (view m (head_word k)) t (rw pages_are s)

    pub end_low : t / 64 < 65536
    end_low = let c = reading.end in let d = ready.pages in omega arith

    -- it starts with a page, and ends behind an entry
    start_page : start_of (view m (head_word k)) t % 8 ≡ 0
    unfolding start_of
    start_page = by_eq t 0 (λ z. rw z) (λ z. rw (ne_eqb t 0 z) (omega arith))

    end_slot : (t / 64 ≡ 0 → ⊥) → t / 64 % 8 ≡ 0 → ⊥
    unfolding pages_of
    end_slot z f =
        let n = ne_eqb t 0 (λ o. z (omega arith)) in
        by_bool (tail_ok t) (λ o. slot (tail_slots_lem t o)) (λ o. no (rw (← pages_are, n, o) at s))
      where
        slot : (t % 512 ≡ 64 * (t % 512 / 64)) × (1 ≤ t % 512 / 64) × (t % 512 / 64 ≤ 7) → ⊥
        slot a = let b : t / 64 ≡ 8 * (t / 512) + t % 512 / 64 = omega (arith, a.0) in omega (arith, a.1, a.2)

    log_from : (p q : ℕ) → p ≡ start_of (view m (head_word k)) t → q ≡ t / 64 → LogOf m L P N k (record { start = p; end = q; pages = P })
    unfolding entries_from
    log_from p q c d =
        let w : words_from (7 * P) m p q ≡ words_of m P N (view m (head_word k)) t = rw (c, d) reading.words in
        let e : words_of m P N (view m (head_word k)) t ≡ entry_words (pages (view m) P N k) (tail_slots (view m) k) =
        rw (i, y) (inode_words m P N ready.eight ready.journal k) in
        let f : map (entry_at m) (words_of m P N (view m (head_word k)) t) ≡ entries (view m) P N k =
        rw (i, y) (inode_entries m P N ready.eight ready.journal k) in
        record {
          of_pages = refl;
          inside = record { steps = rw (c, d) reading.inside; bytes = ready.bytes; few = ready.pages };
          apart = rw (w, e) (log_apart (view m) P N k);
          placed = rw (w, e) (log_placed (view m) P N k);
          entries_are = rw w f;
          from_page = rw c start_page;
          to_slot = rw d end_slot;
        }

    pub log_none : t ≡ 0 → LogOf m L P N k (record { start = 0; end = 0; pages = P })
    unfolding start_of
    log_none z = log_from 0 0 (rw z) (omega arith)

    module _ (a h : ℕ) (x : a ≡ head_word k) (g : h ≡ view m a) (z : t ≡ 0 → ⊥) where
      starts : 8 * h ≡ start_of (view m (head_word k)) t
      unfolding start_of
      starts = rw (ne_eqb t 0 z, g, x)

      pub head_low : h < 65536
      head_low = let c = reading.start in let d = starts in let e = ready.pages in omega arith

      pub start_low : 8 * h < 65536
      start_low = let c = reading.start in let d = starts in let e = ready.pages in omega arith

      pub log_some : LogOf m L P N k (record { start = 8 * h; end = t / 64; pages = P })
      log_some = log_from (8 * h) (t / 64) starts refl
