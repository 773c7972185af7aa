-- A log laid step by step: a page is turned where the tail's page is full, and an entry takes the next slot; each step leaves less to lay.
use Rattle.model.proofs.Prelude.{ℕ, zero, suc, ◌+◌, ◌*◌, ◌-◌, ◌/◌, ◌%◌, ◌≤◌, ◌<◌, ◌≡◌, refl, sym, ap, ◌∙◌, fun_ext, some, Bool, true, false, ◌&&◌, List, [], ◌∷◌, ◌++◌, append-nil, arith, add-one, zero-add, and-false, leb, ltb, length, get_or, take, drop, length-append, eq-eqb, ne_eqb, lt-ltb, le-ltb, lt-leb}
use Rattle.std.specs.Prelude.{Option, Some, None, IsSome}
use Rattle.model.specs.Lists.{lowest, lowest_few, has, index_of}
use Rattle.model.specs.Layout.{footer}
use Rattle.model.specs.Stores.{one_word, no_words, run, both}
use Rattle.model.specs.Calls.{lay_entries, tail_after}
use Rattle.model.proofs.Tests.{by_bool, by_eq, by_lt, and_left, not_true_false}
use Rattle.model.proofs.Lists.{few_holds, few_length, has_head, values_at}
use Rattle.model.proofs.Frame.Placed.{in_bounds}
use Rattle.marks.specs.Marks.{unmarked}
use Rattle.layout.specs.declared.Sizes.{Sizes}
use Rattle.stores.specs.Added.{Added, element, element_from}
use Rattle.stores.proofs.Groups.{adding_all, adding_step, adding_then, added_none, run_same, slice_run}
use Rattle.layout.specs.Options.{to_model}
use Rattle.space.proofs.Few.{few_next, few_nowhere}
use Rattle.entries.specs.Table.{part, entries_of}
use Rattle.entries.proofs.Entries.{length_entries}
use Rattle.laying.specs.declared.Laid.{Laid}
use Rattle.laying.specs.Laying.{page_of, slots_at, needed_at, may_take, fresh_from, pages_behind, to_lay, tail_behind, head_behind, left_behind, Layable, Laying, Turned, Lays, LogLaid}
use Rattle.laying.proofs.Slots.{lay_slot, lay_link, tail_slot, tail_one, tail_link}

-- How many pages are needed.

page_none : (t : ℕ) → t ≡ 0 → page_of t ≡ []
unfolding page_of
page_none t e = rw (eq-eqb t 0 e)

page_one : (t : ℕ) → (t ≡ 0 → ⊥) → page_of t ≡ t / 512 ∷ []
unfolding page_of
page_one t e = rw (ne_eqb t 0 e)

needed_none : (t n : ℕ) → t ≡ 0 → needed_at t n ≡ (n + 6) / 7
unfolding needed_at
needed_none t n e = rw (page_none t e) (omega arith)

needed_one : (t n : ℕ) → (t ≡ 0 → ⊥) → needed_at t n ≡ (t % 512 / 64 + n + 6) / 7 - 1
unfolding needed_at
needed_one t n e = rw (page_one t e)

-- `pages_needed`
module _ (t n p : ℕ) (e : p ≡ (t % 512 / 64 + n + 6) / 7) where
  pub needed_first : t ≡ 0 → p ≡ needed_at t n
  needed_first z = sym (needed_none t n z ∙ (omega arith))

  pub needed_more : (t ≡ 0 → ⊥) → p - 1 ≡ needed_at t n
  needed_more z = sym (needed_one t n z ∙ (omega arith))

  pub needed_zero : (t ≡ 0 → ⊥) → p ≡ 0 → 0 ≡ needed_at t n
  needed_zero z q = sym (needed_one t n z ∙ (omega arith))

-- the lowest few, where there are more
few_less : (f : ℕ → Bool) (t s a b : ℕ) → length (lowest_few f t s a) ≡ a → b ≤ a → length (lowest_few f t s b) ≡ b
unfolding lowest_few
few_less f zero s a b h l = omega arith
few_less f (suc t) s a zero h l = refl
few_less f (suc t) s zero (suc b) h l = absurd (omega arith)
few_less f (suc t) s (suc a) (suc b) h l =
    by_bool (f s)
    (λ e. let g = rw (lowest_few, e) at h in let r = few_less f t (s + 1) a b (omega arith) (omega arith) in rw (lowest_few, e) (omega arith))
    (λ e. rw (lowest_few, e) (few_less f t (s + 1) (suc a) (suc b) (rw (lowest_few, e) at h) l))

module _ (b : List ℕ) (s : Sizes) where
  abbrev f : ℕ → Bool
  f = may_take b s

  abbrev P : ℕ
  P = s.pages

  abbrev few : Laid → ℕ → List ℕ
  few = fresh_from b s

  may_bounds : (p : ℕ) → f p ≡ true → (0 < p) × (p < P)
  unfolding unmarked
  may_bounds p e = let h = in_bounds P s.inodes p (and_left _ _ e) in (omega arith, h.1)

  pub layable_less : (g : Laid) (n k : ℕ) → Layable b s g n → k ≤ n → Layable b s g k
  layable_less g n k y l =
      let z : needed_at g.tail k ≤ needed_at g.tail n
      = by_eq g.tail 0 (λ e. rw (needed_none g.tail k e, needed_none g.tail n e) (omega arith))
      (λ e. rw (needed_one g.tail k e, needed_one g.tail n e) (omega arith)) in
      record {
        slot = y.slot;
        whole = y.whole;
        low = y.low;
        enough = few_less f (P - g.from) g.from (needed_at g.tail n) (needed_at g.tail k) y.enough z;
        apart = y.apart;
      }

  behind_some : (g : Laid) (n : ℕ) → (g.tail ≡ 0 → ⊥) → pages_behind b s g n ≡ g.tail / 512 ∷ few g (needed_at g.tail n)
  unfolding pages_behind
  behind_some g n h = rw (page_one g.tail h)

  tail_some : (g : Laid) (n : ℕ) → 0 < n → tail_behind b s g n ≡ tail_after (pages_behind b s g n) (slots_at g.tail) n
  unfolding tail_behind
  tail_some g n h = rw (ne_eqb n 0 (omega arith))

  -- Nothing is laid yet.
  laying_all : (l : List ℕ) (g : Laid) (es : List (List ℕ)) → Layable b s g (length es) → Laying b s l g es l g es
  laying_all l g es y = record { layable = y; stores = adding_all l 0 g.end (to_lay b s g es); tail = refl; head = refl; left = λ k. refl }

  laying_then : {l m o : List ℕ} {g h k : Laid} {es fs ds : List (List ℕ)} → Laying b s l g es m h fs → Laying b s m h fs o k ds → Laying b s l g es o k ds
  laying_then x y =
      record {
        layable = y.layable;
        stores = adding_then x.stores y.stores;
        tail = x.tail ∙ y.tail;
        head = x.head ∙ y.head;
        left = λ k. x.left k ∙ y.left k;
      }

  -- the head behind some entries
  head_none : (g : Laid) (n : ℕ) → g.tail ≡ 0 → 0 < n → head_behind b s g n ≡ get_or (few g (needed_at g.tail n)) 0 0
  unfolding head_behind
  head_none g n e h = rw (ne_eqb n 0 (omega arith), eq-eqb g.tail 0 e)

  head_some : (g : Laid) (n : ℕ) → (g.tail ≡ 0 → ⊥) → head_behind b s g n ≡ g.head
  unfolding head_behind
  head_some g n e = by_eq n 0 (λ z. rw (eq-eqb n 0 z)) (λ z. rw (ne_eqb n 0 z, ne_eqb g.tail 0 e))

  -- A page is turned: p is the page that is taken, and x the head then.
  module _ (g : Laid) (p : ℕ) (e : lowest f (P - g.from) g.from ≡ some p) (x : ℕ) where
    abbrev next : ℕ → Laid
    next z = record { end = z; head = x; tail = 512 * p; from = p + 1 }

    taken : (n : ℕ) → length (few g (n + 1)) ≡ n + 1 → (few g (n + 1) ≡ p ∷ lowest_few f (P - (p + 1)) (p + 1) n) × (g.from ≤ p) × (p < P) × (f p ≡ true) × (0 < p)
    taken n h =
        let a = few_next f P g.from n p e in
        let y = (few_holds f (P - g.from) g.from (n + 1) p (rw a.0 (has_head p (lowest_few f (P - (p + 1)) (p + 1) n)))).0 in
        (a.0, a.1, (may_bounds p y).1, y, (may_bounds p y).0)

    module _ (most : P ≤ 4096) (pos : 0 < p) (n z : ℕ) (need : needed_at g.tail n ≡ needed_at (512 * p) n + 1) (y : Layable b s g n) where
      abbrev rest : List ℕ
      rest = lowest_few f (P - (p + 1)) (p + 1) (needed_at (512 * p) n)

      pages_next : (few g (needed_at g.tail n) ≡ p ∷ rest) × (g.from ≤ p) × (p < P) × (f p ≡ true) × (0 < p)
      pages_next = rw need (taken (needed_at (512 * p) n) (rw need at y.enough))

      next_layable : Layable b s (next z) n
      next_layable =
          let t = pages_next in
          let c = ap length t.0 in
          let d = y.enough in
          let q = t.2 in
          record {
            slot = omega arith;
            whole = omega arith;
            low = omega arith;
            enough = omega arith;
            apart = λ k h o j. omega arith;
          }

      behind_next : pages_behind b s (next z) n ≡ p ∷ rest
      unfolding pages_behind
      behind_next = let c : 512 * p / 512 ≡ p = omega arith in rw (page_one (512 * p) (omega arith), c)

      left_next : (k : ℕ) → left_behind b s g n k ≡ left_behind b s (next z) n k
      unfolding left_behind
      left_next k =
          let d = needed_at (512 * p) n in
          let c : d + 1 + k ≡ d + k + 1 = omega arith in
          let t : few g (d + k + 1) ≡ p ∷ lowest_few f (P - (p + 1)) (p + 1) (d + k) = (few_next f P g.from (d + k) p e).0 in
          rw (need, c, t, add-one d)

      off_next : has (g.tail / 512) (p ∷ rest) ≡ false
      off_next =
          not_true_false _ (λ h.
          let k = few_holds f (P - g.from) g.from (needed_at g.tail n) (g.tail / 512) (rw pages_next.0 h) in
          y.apart (g.tail / 512) k.1 k.0 refl)

  -- `turn_page`
  module _ (most : P ≤ 4096) (l : List ℕ) (g : Laid) (y : Layable b s g 1) where
    open y use {slot, whole}

    -- o is what `next_free` answered
    module _ (o : Option ℕ) (q : to_model o ≡ lowest f (P - g.from) g.from) where
      some_page : (o : Option ℕ) → to_model o ≡ lowest f (P - g.from) g.from → needed_at g.tail 1 ≡ 1 → IsSome o
      some_page None q a =
          let z = y.enough in
          let n : length (few g (needed_at g.tail 1)) ≡ 0 = ap length (few_nowhere f P g.from (needed_at g.tail 1) (sym q)) in
          absurd (omega arith)
      some_page (Some p) q a = refl

      pub first_page : g.tail ≡ 0 → IsSome o
      first_page h = some_page o q (needed_none g.tail 1 h ∙ (omega arith))

      pub linked_page : (g.tail ≡ 0 → ⊥) → g.tail % 512 ≡ 448 → IsSome o
      linked_page h k = some_page o q (needed_one g.tail 1 h ∙ (omega arith))

    -- p is the page that is taken
    module _ (o : Option ℕ) (q : to_model o ≡ lowest f (P - g.from) g.from) (p : ℕ) (w : o ≡ Some p) where
      e : lowest f (P - g.from) g.from ≡ some p
      e = sym q ∙ ap to_model w

      pub turned_first : g.tail ≡ 0 → Turned b s l g (record { end = g.end; head = p; tail = 512 * p; from = p + 1 }) l
      unfolding to_lay tail_behind pages_behind
      turned_first h =
          let a : needed_at g.tail 1 ≡ 0 + 1 = needed_none g.tail 1 h ∙ (omega arith) in
          let t = taken g p e p 0 (rw a at y.enough) in
          let pos = t.4 in
          record {
            there = omega arith;
            slot = omega arith;
            low = omega (arith, t.2);
            end = omega arith;
            laying = λ x xs o.
                let n = length (x ∷ xs) in
                let need : needed_at g.tail n ≡ needed_at (512 * p) n + 1
                = needed_none g.tail n h ∙ (rw (needed_one (512 * p) n (omega arith)) (omega arith)) in
                let z = g.end in
                let c : pages_behind b s g n ≡ pages_behind b s (next g p e p z) n
                = rw (page_none g.tail h) ((pages_next g p e p most pos n z need o).0 ∙ sym (behind_next g p e p most pos n z need o)) in
                let d : slots_at g.tail ≡ slots_at (512 * p) = omega arith in
                record {
                  layable = next_layable g p e p most pos n z need o;
                  stores = rw (c, d) (adding_all l 0 z (lay_entries (pages_behind b s (next g p e p z) n) (slots_at (512 * p)) (x ∷ xs)));
                  tail = tail_some g n (omega arith) ∙ rw (c, d) (sym (tail_some (next g p e p z) n (omega arith)));
                  head = head_none g n h (omega arith) ∙ ap (λ ps. get_or ps 0 0) (pages_next g p e p most pos n z need o).0
                      ∙ sym (head_some (next g p e p z) n (omega arith));
                  left = left_next g p e p most pos n z need o;
                };
          }

      -- i is the link's word, and z the index behind the group with the link
      pub turned_link : (g.tail ≡ 0 → ⊥) → g.tail % 512 ≡ 448 → (i z : ℕ) (m : List ℕ) → i ≡ footer (g.tail / 512) → Added l 0 g.end (one_word i p) z m
          → z ≤ g.end + 2 → Turned b s l g (record { end = z; head = g.head; tail = 512 * p; from = p + 1 }) m
      unfolding to_lay
      turned_link h k i z m j w v =
          let a : needed_at g.tail 1 ≡ 0 + 1 = needed_one g.tail 1 h ∙ (omega arith) in
          let t = taken g p e g.head 0 (rw a at y.enough) in
          let pos = t.4 in
          record {
            there = omega arith;
            slot = omega arith;
            low = omega (arith, t.2);
            end = v;
            laying = λ x xs o.
                let n = length (x ∷ xs) in
                let need : needed_at g.tail n ≡ needed_at (512 * p) n + 1
                = needed_one g.tail n h ∙ (rw (needed_one (512 * p) n (omega arith)) (omega arith)) in
                let r = rest g p e g.head most pos n z need o in
                let c : pages_behind b s g n ≡ g.tail / 512 ∷ p ∷ r = behind_some g n h ∙ ap (λ ps. g.tail / 512 ∷ ps) (pages_next g p e g.head most pos n z need o).0 in
                let c₁ = behind_next g p e g.head most pos n z need o in
                let d : slots_at g.tail ≡ 7 = omega arith in
                let d₁ : slots_at (512 * p) ≡ 0 = omega arith in
                let q : to_lay b s g (x ∷ xs) ≡ both (one_word (64 * (g.tail / 512) + 56) p) (to_lay b s (next g p e g.head z) (x ∷ xs))
                = rw (c, d, c₁, d₁) (lay_link (g.tail / 512) p r (x ∷ xs) (off_next g p e g.head most pos n z need o)) in
                record {
                  layable = next_layable g p e g.head most pos n z need o;
                  stores = adding_step q (rw j at w);
                  tail = tail_some g n (omega arith)
                      ∙ rw (c, d) (tail_link (g.tail / 512) p r n (omega arith) ∙ rw (← c₁, ← d₁) (sym (tail_some (next g p e g.head z) n (omega arith))));
                  head = head_some g n h ∙ sym (head_some (next g p e g.head z) n (omega arith));
                  left = left_next g p e g.head most pos n z need o;
                };
          }

  -- An entry takes the next slot of the tail's page.
  module _ (g : Laid) (there : g.tail ≡ 0 → ⊥) (free-slot : g.tail % 512 ≤ 384) where
    abbrev on : ℕ → Laid
    on z = record { end = z; head = g.head; tail = g.tail + 64; from = g.from }

    module _ (n z : ℕ) (y : Layable b s g (suc n)) where
      open y use {whole, low}

      same_page : (g.tail + 64) / 512 ≡ g.tail / 512
      same_page = omega arith

      same_need : needed_at (g.tail + 64) n ≡ needed_at g.tail (suc n)
      same_need = needed_one (g.tail + 64) n (omega arith) ∙ (rw (needed_one g.tail (suc n) there) (omega arith))

      on_layable : Layable b s (on z) n
      on_layable =
          record {
            slot = omega arith;
            whole = omega arith;
            low = omega arith;
            enough = rw same_need y.enough;
            apart = λ p h k e. y.apart p h k (sym same_page ∙ e);
          }

      slots_on : slots_at (g.tail + 64) ≡ slots_at g.tail + 1
      slots_on = omega arith

      behind_on : pages_behind b s (on z) n ≡ g.tail / 512 ∷ few g (needed_at g.tail (suc n))
      behind_on = behind_some (on z) n (omega arith) ∙ rw (same_page, same_need)

      left_on : (k : ℕ) → left_behind b s g (suc n) k ≡ left_behind b s (on z) n k
      unfolding left_behind
      left_on k = rw same_need

      tail_on : tail_behind b s g (suc n) ≡ tail_behind b s (on z) n
      unfolding tail_behind
      tail_on =
          let i = slots_at g.tail in
          let ps = g.tail / 512 ∷ few g (needed_at g.tail (suc n)) in
          let q : tail_behind b s g (suc n) ≡ tail_after ps i (n + 1) = rw (add-one n, ← behind_some g (suc n) there) (tail_some g (suc n) (omega arith)) in
          q
          ∙ by_eq n 0
          (λ e. rw e (tail_one (g.tail / 512) _ i (omega arith) ∙ (omega arith)))
          (λ e.
          let r : tail_behind b s (on z) n ≡ tail_after ps (i + 1) n = rw (← behind_on, ← slots_on) (tail_some (on z) n (omega arith)) in
          tail_slot ps i n (omega arith) ∙ sym r)

    -- the entry e, and es behind it
    module _ (e : List ℕ) (es : List (List ℕ)) (y : Layable b s g (length (e ∷ es))) (z : ℕ) where
      lay_on : to_lay b s g (e ∷ es) ≡ both (run (g.tail / 8) 8 (λ j. get_or e j 0)) (to_lay b s (on z) es)
      unfolding to_lay
      lay_on =
          let n = length es in
          let w : g.tail / 8 ≡ 64 * (g.tail / 512) + 8 * slots_at g.tail = omega (arith, y.whole) in
          rw (behind_some g (suc n) there, behind_on n z y, slots_on n z y, w) (lay_slot (g.tail / 512) _ (slots_at g.tail) e es (omega arith))

      laying_on : (l m : List ℕ) → Added l 0 g.end (run (g.tail / 8) 8 (λ j. get_or e j 0)) z m → Laying b s l g (e ∷ es) m (on z) es
      laying_on l m a =
          record {
            layable = on_layable (length es) z y;
            stores = adding_step lay_on a;
            tail = tail_on (length es) z y;
            head = head_some g (length (e ∷ es)) there ∙ sym (head_some (on z) (length es) (omega arith));
            left = left_on (length es) z y;
          }

-- `lay_entries`: the words of the i-th entry, as the code takes them from the table, are its own.

entry_run : (ws : List ℕ) (a w : ℕ) → a + 8 ≤ length ws → run w (length (take 8 (drop a ws))) (element (take 8 (drop a ws))) ≡ run w 8 (λ j. get_or (part ws a 8) j 0)
unfolding element_from
entry_run ws a w room =
    slice_run ws a 8 w room
    ∙ run_same w 8 (λ j. get_or ws (a + j) 0) (λ j. get_or (part ws a 8) j 0) (λ j h. sym (values_at (λ o. get_or ws o 0) a 8 j h))

next_entry : (ws : List ℕ) (i n : ℕ) → i < n → entries_of ws (8 * i) (n - i) ≡ part ws (8 * i) 8 ∷ entries_of ws (8 * (i + 1)) (n - (i + 1))
unfolding entries_of
next_entry ws i n h =
    let e : n - i ≡ suc (n - (i + 1)) = omega arith in
    let f : 8 * i + 8 ≡ 8 * (i + 1) = omega arith in
    rw (e, f)

-- the entries from the i-th on are left to be laid at h
pub record Going (b : List ℕ) (s : Sizes) (l : List ℕ) (g : Laid) (ws m : List ℕ) (h : Laid) (i : ℕ) : Type 0 where
  pub layable : Layable b s h (length ws / 8 - i)
  pub laying : (es : List (List ℕ)) → Layable b s g (length ws / 8 + length es)
      → Laying b s l g (entries_of ws 0 (length ws / 8) ++ es) m h (entries_of ws (8 * i) (length ws / 8 - i) ++ es)

module _ (b : List ℕ) (s : Sizes) (l : List ℕ) (g : Laid) (ws : List ℕ) where
  abbrev n : ℕ
  n = length ws / 8

  pub going_start : Layable b s g n → Going b s l g ws l g 0
  going_start y =
      let e : n - 0 ≡ n = omega arith in
      record {
        layable = rw e y;
        laying = λ es z. rw e (laying_all b s l g (entries_of ws 0 n ++ es) (rw (length-append, length_entries) z));
      }

  module _ (m : List ℕ) (h : Laid) (i : ℕ) (q : Going b s l g ws m h i) where
    pub going_one : i < n → Layable b s h 1
    going_one e = layable_less b s h (n - i) 1 q.layable (omega arith)

    module _ (e : i < n) (t : Laid) (o : List ℕ) (r : Turned b s m h t o) where
      turned_layable : Layable b s t (suc (n - (i + 1)))
      turned_layable =
          let f : n - i ≡ suc (n - (i + 1)) = omega arith in
          let xs = entries_of ws (8 * (i + 1)) (n - (i + 1)) in
          let c = length_entries ws (8 * (i + 1)) (n - (i + 1)) in
          rw c at (r.laying (part ws (8 * i) 8) xs (rw (c, ← f) q.layable)).layable

      pub going_next : (z : ℕ) (p : List ℕ)
          → Added o 0 t.end (run (t.tail / 8) (length (take (8 * i + 8 - 8 * i) (drop (8 * i) ws))) (element (take (8 * i + 8 - 8 * i) (drop (8 * i) ws)))) z p
          → Going b s l g ws p (record { end = z; head = t.head; tail = t.tail + 64; from = t.from }) (i + 1)
      going_next z p w =
          let k : 8 * i + 8 - 8 * i ≡ 8 = omega arith in
          let w₁ : Added o 0 t.end (run (t.tail / 8) 8 (λ j. get_or (part ws (8 * i) 8) j 0)) z p
          = rw (← entry_run ws (8 * i) (t.tail / 8) (omega arith)) (rw k at w) in
          record {
            layable = on_layable b s t r.there r.slot (n - (i + 1)) z turned_layable;
            laying = λ es y.
                let x = part ws (8 * i) 8 in
                let xs = entries_of ws (8 * (i + 1)) (n - (i + 1)) ++ es in
                let u : Laying b s l g (entries_of ws 0 n ++ es) m h (x ∷ xs) = rw (next_entry ws i n e) at (q.laying es y) in
                let v = r.laying x xs u.layable in
                laying_then b s u (laying_then b s v (laying_on b s t r.there r.slot x xs v.layable z o p w₁));
          }

    pub going_done : n ≤ i → h.end ≤ g.end + 18 * n → Lays b s l g ws h m
    unfolding entries_of
    going_done e r = let z : n - i ≡ 0 = omega arith in record { end = r; laying = λ es y. rw z at (q.laying es y) }

-- `lay_log`

pub no_need : (t : ℕ) → t % 512 ≤ 448 → needed_at t 0 ≡ 0
no_need t h = by_eq t 0 (λ e. needed_none t 0 e) (λ e. needed_one t 0 e ∙ (omega arith))

-- where no entry is left, nothing is
lay_none : (ps : List ℕ) (i : ℕ) → length ps ≤ 1 → lay_entries ps i [] ≡ no_words
unfolding lay_entries
lay_none ps i h =
    fun_ext (λ w.
    let j = index_of (w / 64) ps in
    let x = 7 * j + w % 64 / 8 in
    by_lt j (length ps)
    (λ l. rw (lt-ltb j (length ps) l, le-ltb (j + 1) (length ps) (omega arith))
    (by_eq (w % 64) 56 (λ o. rw (eq-eqb (w % 64) 56 o))
    (λ o. rw (ne_eqb (w % 64) 56 o)
    (by_lt x i (λ k. rw (lt-leb i x k, and-false (ltb (w % 64) 56)))
    (λ k. rw (le-ltb x (i + 0) (omega arith), and-false (ltb (w % 64) 56 && leb i x)))))))
    (λ l. rw (le-ltb j (length ps) l)))

module _ (b : List ℕ) (s : Sizes) where
  nothing_left : (h : Laid) → Layable b s h 0 → to_lay b s h [] ≡ no_words
  unfolding to_lay pages_behind page_of
  nothing_left h y =
      let z = no_need h.tail y.slot in
      lay_none (page_of h.tail ++ lowest_few (may_take b s) (s.pages - h.from) h.from (needed_at h.tail 0)) (slots_at h.tail)
      (rw (z, length-append)
      (let e = few_length (may_take b s) (s.pages - h.from) h.from 0 in
      by_eq h.tail 0 (λ q. rw (page_none h.tail q) (omega arith)) (λ q. rw (page_one h.tail q) (omega arith))))

  -- g is where the log is laid, and h how far it is behind the table's entries
  module _ (l m ws xs : List ℕ) (g h : Laid) (x : Lays b s l g ws h m) (y : Layable b s g (length ws / 8 + length xs / 8)) where
    pub last_layable : Layable b s h (length xs / 8)
    last_layable = rw length_entries at (x.laying (entries_of xs 0 (length xs / 8)) (rw length_entries y)).layable

    pub log_laid : (r : Laid) (o : List ℕ) → Lays b s m h xs r o → LogLaid b s l g ws xs r o
    unfolding tail_behind head_behind left_behind
    log_laid r o z =
        let fs = entries_of xs 0 (length xs / 8) in
        let p = x.laying fs (rw length_entries y) in
        let n : length xs / 8 + 0 ≡ length xs / 8 = omega arith in
        let q : Laying b s m h fs o r [] = rw append-nil at (z.laying [] (rw n last_layable)) in
        let k = laying_then b s p q in
        let c : length (entries_of ws 0 (length ws / 8) ++ fs) ≡ length ws / 8 + length xs / 8 = rw (length-append, length_entries, length_entries) in
        record {
          end = omega (arith, x.end, z.end);
          stores = k.stores.rest (rw (nothing_left r k.layable) (added_none o 0 r.end));
          tail = sym (rw c at k.tail);
          head = sym (rw c at k.head);
          left = λ j. sym (rw (no_need r.tail k.layable.slot, zero-add) at (rw c at (k.left j)));
        }
