-- A log that entries are laid into: written anew, or continued behind its tail, it reads as the old entries and the new ones.
-- The pages laid into are linked, so they are a chain, and the slots up to the new tail hold the entries' words.
use Rattle.model.proofs.Prelude.{◌≡◌, refl, sym, ◌∙◌, ap, ⊎_elim, ℕ, suc, ◌+◌, ◌-◌, ◌*◌, ◌/◌, ◌%◌, ◌≤◌, ◌<◌, true, false, cond, ◌&&◌, List, [], ◌∷◌, ◌++◌, map, map-append, some, arith, add-zero, zero-add, length, get_or, leb, eqb, ne_eqb, eqb-true, leb-true}
use Rattle.model.specs.Words.{Mem}
use Rattle.model.specs.Stores.{Stores}
use Rattle.model.specs.Lists.{all_below, all, has, distinct}
use Rattle.model.specs.Layout.{in_pages, head_word, tail_word}
use Rattle.model.specs.Entry.{Entry, entry_at}
use Rattle.model.specs.Log.{tail_ok, pages_of, log_pages, pages, tail_slots, slots, entry_words, entries}
use Rattle.model.specs.Calls.{lay_entries, tail_after, pages_for, tail_pages}
use Rattle.model.proofs.Tests.{by_eq, no, ands}
use Rattle.model.proofs.Lists.{all_below_at, all_has, has_get_or, has_cons, apart, no_length}
use Rattle.model.proofs.Log.Chain.{Chain, chain_to, chain_then, linked_chain, chain_last, chain_words}
use Rattle.model.proofs.Log.Slots.{slot_word, placed, placed_split, words_placed, lay_link, lay_slot, first_page}
use Rattle.model.proofs.Log.Decode.{decode, entry_decode}
use Rattle.model.proofs.Log.Distinct.{log_distinct, log_inside, few_pages}
use Rattle.model.proofs.Log.Pages.{Reads, log_chain, log_empty, chain_log, entries_same, SameLive, live_footers, live_words}

-- m holds what is stored
abbrev pub Holds : Mem → Stores → Type 0
Holds m s = (w x : ℕ) → s w ≡ some x → m w ≡ x

-- Tails.

-- a tail stands behind 1 to 7 entries of its page
pub tail_ok_lem : (t s : ℕ) → t % 512 ≡ 64 * s → 1 ≤ s → s ≤ 7 → tail_ok t ≡ true
unfolding tail_ok has all_below
tail_ok_lem t s e l h =
    let f : t % 512 ≡ 64 * (s - 1) + 64 = omega arith in
    rw f (all_below_at 7 (s - 1) (λ j. has (64 * j + 64) (64 ∷ 128 ∷ 192 ∷ 256 ∷ 320 ∷ 384 ∷ 448 ∷ [])) refl (omega arith))

pub tail_slots_lem : (t : ℕ) → tail_ok t ≡ true → (t % 512 ≡ 64 * (t % 512 / 64)) × (1 ≤ t % 512 / 64) × (t % 512 / 64 ≤ 7)
unfolding tail_ok all
tail_slots_lem t h =
    let f = all_has (λ x. eqb x (64 * (x / 64)) && leb 1 (x / 64) && leb (x / 64) 7) (t % 512) _ refl h in
    (eqb-true (t % 512) (64 * (t % 512 / 64)) (search ands), leb-true 1 (t % 512 / 64) (search ands), leb-true (t % 512 / 64) 7 (search ands))

-- tail 0: no entries
pub empty_log : (m : Mem) (P N k : ℕ) → m (tail_word k) ≡ 0 → Reads m P N k [] []
unfolding log_pages pages_of entries pages entry_words
empty_log m P N k z = let w : log_pages m P N k ≡ some [] = rw (log_pages, pages_of, z) in (w, rw (entries, pages, w))

-- Entries laid.

-- entries es laid into the pages p ∷ ps from slot i on
pub record Laid (m : Mem) (P N p : ℕ) (ps : List ℕ) (i : ℕ) (es : List (List ℕ)) : Type 0 where
  pub apart_ps : distinct (p ∷ ps) ≡ true
  pub inside : all (in_pages P N) (p ∷ ps) ≡ true
  pub needed : length (p ∷ ps) ≡ pages_for (i + length es)
  pub some_es : 0 < length es
  pub holds : Holds m (lay_entries (p ∷ ps) i es)

placed_entries : (m : Mem) (ps : List ℕ) (i : ℕ) (es : List (List ℕ))
    → ((t : ℕ) → t < length es → entry_at m (slot_word ps (i + t)) ≡ decode (get_or es t [])) → map (entry_at m) (placed ps i (length es)) ≡ map decode es
unfolding placed
placed_entries m ps i [] h = refl
placed_entries m ps i (e ∷ es) h =
    let at_slot : ℕ → Entry = λ s. entry_at m (slot_word ps s) in
    let first : entry_at m (slot_word ps i) ≡ decode e = ap at_slot (sym (add-zero i)) ∙ h 0 (omega arith) in
    rw (first, placed_entries m ps (i + 1) es (λ t k. ap at_slot (omega arith) ∙ h (suc t) (omega arith)))

module _ {m : Mem} {P N p : ℕ} {ps : List ℕ} {i : ℕ} {es : List (List ℕ)} (laid : Laid m P N p ps i es) where
  -- the new tail stands on the last page, behind the last entry
  tail_laid : (t : ℕ) → t ≡ tail_after (p ∷ ps) i (length es)
      → (tail_ok t ≡ true) × (t / 512 ≡ get_or (p ∷ ps) (length ps) 0) × (7 * length ps + t % 512 / 64 ≡ i + length es) × (t % 512 / 64 ≤ 7)
  unfolding tail_after
  tail_laid t e =
      let n = i + length es - 1 in
      let c : n / 7 ≡ length ps = omega (arith, laid.needed, laid.some_es) in
      let f : t ≡ 512 * get_or (p ∷ ps) (length ps) 0 + 64 * (n % 7 + 1) = rw (tail_after, ne_eqb (length es) 0 (omega (arith, laid.some_es)), c) at e in
      let r : t % 512 ≡ 64 * (n % 7 + 1) = omega arith in
      (tail_ok_lem t (n % 7 + 1) r (omega arith) (omega arith), omega arith, omega (arith, laid.some_es), omega arith)

  chain_laid : Chain m P N (get_or (p ∷ ps) (length ps) 0) (p ∷ ps)
  chain_laid =
      linked_chain m P N p ps laid.inside laid.apart_ps (λ j h. laid.holds _ _ (lay_link (p ∷ ps) i es laid.apart_ps j (omega arith)))

  entries_laid : map (entry_at m) (placed (p ∷ ps) i (length es)) ≡ map decode es
  entries_laid =
      placed_entries m (p ∷ ps) i es
      (λ t h.
      let s : i + t - i ≡ t = omega arith in
      let g : (i + t) / 7 < suc (length ps) = omega (arith, laid.needed) in
      entry_decode m (slot_word (p ∷ ps) (i + t)) (get_or es t [])
      (λ o k. laid.holds _ _ (lay_slot (p ∷ ps) i es laid.apart_ps (i + t) o g (omega arith) (omega arith) k) ∙ rw s))

-- A log written anew: the entries es, perhaps none, laid into the distinct pages ps.
pub record Anew (m : Mem) (P N k : ℕ) (ps : List ℕ) (es : List (List ℕ)) : Type 0 where
  pub apart_ps : distinct ps ≡ true
  pub inside : all (in_pages P N) ps ≡ true
  pub needed : length ps ≡ pages_for (length es)
  pub holds : Holds m (lay_entries ps 0 es)
  pub head : m (head_word k) ≡ get_or ps 0 0
  pub tail : m (tail_word k) ≡ tail_after ps 0 (length es)

pub fresh_log_lem : {m : Mem} {P N k : ℕ} {ps : List ℕ} {es : List (List ℕ)} → Anew m P N k ps es → Reads m P N k ps (map decode es)
unfolding tail_after all distinct has
fresh_log_lem {m} {P} {N} {k} {ps = []} {es} f =
    let e : es ≡ [] = no_length es (omega (arith, f.needed)) in
    rw e (empty_log m P N k (f.tail ∙ rw e))
fresh_log_lem {m} {P} {N} {k} {ps = p ∷ ps} {es} f =
    let laid : Laid m P N p ps 0 es = record {
      apart_ps = f.apart_ps;
      inside = f.inside;
      needed = omega (arith, f.needed);
      some_es = omega (arith, f.needed);
      holds = f.holds;
    } in
    let b = tail_laid laid (m (tail_word k)) f.tail in
    let room = few_pages P N [] (p ∷ ps) refl f.inside refl f.apart_ps (λ x h. no h) in
    let r = chain_log m P N k p ps (chain_to m P N _ _ (p ∷ ps) b.1 (chain_laid laid)) b.0 room f.head in
    (r.0, r.1 ∙ rw (words_placed p ps (tail_slots m k) b.3, b.2, zero-add (length es)) (entries_laid laid))

-- A log continued.

-- the fresh pages ls are those that es need behind the log of inode k, whose pages are old
pub record Fits (u : Mem) (P N k : ℕ) (old ls : List ℕ) (es : List (List ℕ)) : Type 0 where
  pub was : log_pages u P N k ≡ some old
  pub apart_ls : distinct ls ≡ true
  pub inside : all (in_pages P N) ls ≡ true
  pub new : (x : ℕ) → has x old ≡ true → has x ls ≡ false
  pub needed : length ls ≡ pages_for (tail_slots u k + length es) - length (tail_pages u k)
  pub some_es : 0 < length es

-- u' is u with es appended
pub record Appended (u u' : Mem) (P N k : ℕ) (old ls : List ℕ) (es : List (List ℕ)) : Type 0 where
  pub fits : Fits u P N k old ls es
  pub live : SameLive u u' old (u (tail_word k) / 512) (tail_slots u k)
  pub holds : Holds u' (lay_entries (tail_pages u k ++ ls) (tail_slots u k) es)
  pub head : u' (head_word k) ≡ cond (eqb (u (tail_word k)) 0) (get_or ls 0 0) (u (head_word k))
  pub tail : u' (tail_word k) ≡ tail_after (tail_pages u k ++ ls) (tail_slots u k) (length es)

module _ (u u' : Mem) (P N k : ℕ) (ls : List ℕ) (es : List (List ℕ)) where
  abbrev Extended : List ℕ → Type 0
  Extended old = Reads u' P N k (old ++ ls) (entries u P N k ++ map decode es)

  -- to an empty log
  on_empty : (old : List ℕ) → Appended u u' P N k old ls es → u (tail_word k) ≡ 0 → Extended old
  unfolding tail_pages
  on_empty old a z =
      let f = a.fits in
      let n : length ls ≡ pages_for (0 + length es) - 0 = rw (tail_pages, z) at f.needed in
      let anew : Anew u' P N k ls es = record {
        apart_ps = f.apart_ls;
        inside = f.inside;
        needed = omega arith;
        holds = rw (tail_pages, z) at a.holds;
        head = rw z at a.head;
        tail = rw (tail_pages, z) at a.tail;
      } in
      rw (← (log_empty u P N k old f.was z), (empty_log u P N k z).1) (fresh_log_lem anew)

  -- behind the last page of a log
  on_tail : (old : List ℕ) → Appended u u' P N k old ls es → (u (tail_word k) ≡ 0 → ⊥) → Extended old
  unfolding entries pages tail_pages distinct all
  on_tail [] a z = absurd (log_chain u P N k [] a.fits.was z).0
  on_tail (p ∷ os) a z =
      let f = a.fits in
      let t = u (tail_word k) in
      let q = t / 512 in
      let i = tail_slots u k in
      let q' = get_or (q ∷ ls) (length ls) 0 in
      let c = log_chain u P N k (p ∷ os) f.was z in
      let d = chain_last u P N q (p ∷ os) c.0 in
      let s = tail_slots_lem t c.3 in
      let n : length ls ≡ pages_for (i + length es) - 1 = rw (tail_pages, ne_eqb t 0 z) at f.needed in
      let laid : Laid u' P N q ls i es = record {
        apart_ps = rw (distinct, f.new q d.0) f.apart_ls;
        inside = rw (all, d.1) f.inside;
        needed = omega (arith, f.some_es);
        some_es = f.some_es;
        holds = rw (tail_pages, ne_eqb t 0 z) at a.holds;
      } in
      let b = tail_laid laid (u' (tail_word k)) (rw (tail_pages, ne_eqb t 0 z) at a.tail) in
      let far : (x : ℕ) → has x (p ∷ os) ≡ true → (x ≡ q → ⊥) → x ≡ q' → ⊥ =
      λ x h g y. ⊎_elim (λ v. g (y ∙ v)) (λ v. apart q' x ls (f.new x h) v (sym y)) (has_cons q' q ls (has_get_or (q ∷ ls) (length ls) (omega arith))) in
      let footers = live_footers u u' P N q i (p ∷ os) c.0 a.live in
      let chain = chain_then u u' P N q q' (p ∷ os) ls c.0 (λ x h g. (footers x h g, far x h g)) (chain_laid laid) in
      let once = (log_distinct u P N k (p ∷ os) f.was).0 in
      let room = few_pages P N (p ∷ os) ls (log_inside u P N k (p ∷ os) f.was) f.inside once f.apart_ls f.new in
      let to_end = chain_to u' P N _ _ (p ∷ (os ++ ls)) b.1 chain in
      let r = chain_log u' P N k p (os ++ ls) to_end b.0 room ((rw (ne_eqb t 0 z) at a.head) ∙ sym c.1) in
      let v : entry_words (q ∷ ls) (tail_slots u' k) ≡ slots i (64 * q) ++ placed (q ∷ ls) i (length es) =
      words_placed q ls (tail_slots u' k) b.3 ∙ rw (b.2, placed_split (q ∷ ls) 0 i (length es), first_page q ls i s.2, zero-add i) in (
        r.0,
        r.1 ∙ rw (
          chain_words u P N q i (tail_slots u' k) (p ∷ os) ls _ c.0 v,
          map-append,
          entries_same u u' (entry_words (p ∷ os) i) (live_words u u' P N q i (p ∷ os) c.0 a.live s.2),
          entries_laid laid,
          entries,
          pages,
          f.was,
        ),
      )

pub append_log : {u u' : Mem} {P N k : ℕ} {old ls : List ℕ} {es : List (List ℕ)} → Appended u u' P N k old ls es
    → Reads u' P N k (old ++ ls) (entries u P N k ++ map decode es)
append_log {u} {u'} {P} {N} {k} {old} {ls} {es} a =
    by_eq (u (tail_word k)) 0 (on_empty u u' P N k ls es old a) (on_tail u u' P N k ls es old a)
