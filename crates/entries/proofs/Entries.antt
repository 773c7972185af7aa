-- Entries laid into a table: an entry is put word by word, and behind the entries that were there it is one more.
use Rattle.model.proofs.Prelude.{ℕ, zero, suc, ◌+◌, ◌*◌, ◌-◌, ◌≤◌, ◌<◌, ◌≡◌, refl, sym, ◌∙◌, List, [], ◌∷◌, ◌++◌, append_assoc, append-nil, cond, arith, zero-add, length, set, length-set, ext_get_or, get_or-set_same, get_or-set_other, take, drop, get_or-take, get_or-drop}
use Rattle.model.proofs.Tests.{by_eq, within, inside, outside}
use Rattle.files.proofs.Runs.{over_at, length_over}
use Rattle.model.proofs.Lists.{length_values, values_at, values_same}
use Rattle.entries.specs.Table.{element, part, entries_of, Holds, Put}

-- Entries of a list: how many, and one that is the list.

pub length_entries : (l : List ℕ) (k n : ℕ) → length (entries_of l k n) ≡ n
unfolding entries_of
length_entries l k zero = refl
length_entries l k (suc n) = rw (length_entries l (k + 8) n)

part_is : (m e : List ℕ) (k : ℕ) → length e ≡ 8 → ((o : ℕ) → o < 8 → element m (k + o) ≡ element e o) → part m k 8 ≡ e
part_is m e k h g =
    ext_get_or 0 (part m k 8) e (length_values (element m) k 8 ∙ sym h)
    (λ o b. let c : o < 8 = rw length_values at b in values_at (element m) k 8 o c ∙ g o c)

pub one_entry : (e : List ℕ) → length e ≡ 8 → entries_of e 0 1 ≡ e ∷ []
unfolding entries_of
one_entry e h = rw (part_is e e 0 h (λ o g. rw zero-add))

-- the first words of a list have its first entries, and the words behind them the others
pub entries_take : (ws : List ℕ) (m k n : ℕ) → k + 8 * n ≤ m → entries_of (take m ws) k n ≡ entries_of ws k n
unfolding entries_of
entries_take ws m k zero h = refl
entries_take ws m k (suc n) h =
    rw (values_same (element (take m ws)) (element ws) k 8 (λ i a b. get_or-take m ws i 0 (omega arith)), entries_take ws m (k + 8) n (omega arith))

pub entries_drop : (ws : List ℕ) (m k n : ℕ) → entries_of (drop m ws) k n ≡ entries_of ws (m + k) n
unfolding entries_of
entries_drop ws m k zero = refl
entries_drop ws m k (suc n) =
    let e : part (drop m ws) k 8 ≡ part ws (m + k) 8
    = ext_get_or 0 (part (drop m ws) k 8) (part ws (m + k) 8) (length_values (element (drop m ws)) k 8 ∙ sym (length_values (element ws) (m + k) 8))
    (λ o b.
    let c : o < 8 = rw length_values at b in
    let d : m + (k + o) ≡ m + k + o = omega arith in
    values_at (element (drop m ws)) k 8 o c ∙ get_or-drop m ws (k + o) 0 ∙ (rw d (sym (values_at (element ws) (m + k) 8 o c)))) in
    let f : m + (k + 8) ≡ m + k + 8 = omega arith in
    rw (e, entries_drop ws m (k + 8) n, f)

-- `put_entry`: e is copied over the eight words of the table l from element `at` on.

module _ (l e : List ℕ) (at n : ℕ) (h : length e ≡ 8) (is : at ≡ 8 * n) (room : 8 * n + 8 ≤ length l) where
  abbrev m : List ℕ
  m = take at l ++ (e ++ drop 8 (drop at l))

  there : (j : ℕ) → element m j ≡ cond (within at (at + 8) j) (element e (j - at)) (element l j)
  there j = over_at l e (drop 8 (drop at l)) at 8 h (omega arith) refl j

  kept : (j : ℕ) → j < 8 * n → element m j ≡ element l j
  kept j g = there j ∙ rw (outside at (at + 8) j (λ a b. omega arith))

  put : (o : ℕ) → o < 8 → element m (8 * n + o) ≡ element e o
  put o g = let s : 8 * n + o - at ≡ o = omega arith in there (8 * n + o) ∙ rw (inside at (at + 8) (8 * n + o) (omega arith) (omega arith), s)

  entries_more : (j k : ℕ) → k + 8 * j ≡ 8 * n → entries_of m k (j + 1) ≡ entries_of l k j ++ (e ∷ [])
  unfolding entries_of
  entries_more zero k f = rw (part_is m e k h (λ o b. let s : k + o ≡ 8 * n + o = omega arith in rw s (put o b)))
  entries_more (suc j) k f =
      let s : suc j + 1 ≡ suc (j + 1) = omega arith in
      rw (s, values_same (element m) (element l) k 8 (λ o a b. kept o (omega arith)), entries_more j (k + 8) (omega arith))

  pub entry_put : (f : List ℕ) (k : ℕ) → f ≡ e → k ≡ 8 → Put l (take at l ++ (f ++ drop k (drop at l))) n e
  entry_put f k p q =
      rw (p, q) (record {
        entries = entries_more n 0 (omega arith);
        long = length_over l e (drop 8 (drop at l)) at 8 h (omega arith) refl;
      })

-- A loop that puts an entry word by word: the table l is m by now, with the first i words of e laid from element `at` on.

pub record Laying (l m e : List ℕ) (at i : ℕ) : Type 0 where
  pub long : length m ≡ length l
  pub kept : (j : ℕ) → j < at → element m j ≡ element l j
  pub laid : (j : ℕ) → j < i → element m (at + j) ≡ element e j

pub laying_none : (l e : List ℕ) (at : ℕ) → Laying l l e at 0
laying_none l e at = record { long = refl; kept = λ j g. refl; laid = λ j g. absurd (omega arith) }

pub laying_next : (l m e : List ℕ) (n i : ℕ) → Laying l m e (8 * n) i → 8 * n + 8 ≤ length l → i < 8
    → Laying l (set m (8 * n + i) (element e i)) e (8 * n) (i + 1)
laying_next l m e n i q h g =
    let k = q.long in
    record {
      long = rw length-set k;
      kept = λ j b. get_or-set_other m (8 * n + i) j (element e i) 0 (omega arith) ∙ q.kept j b;
      laid = λ j b. by_eq j i (λ f. rw f (get_or-set_same m (8 * n + i) (element e i) 0 (omega arith)))
          (λ f. get_or-set_other m (8 * n + i) (8 * n + j) (element e i) 0 (omega arith) ∙ q.laid j (omega arith));
    }

module _ (l w e : List ℕ) (n i : ℕ) (q : Laying l w e (8 * n) i) (h : length e ≡ 8) (g : 8 ≤ i) where
  laid_more : (j k : ℕ) → k + 8 * j ≡ 8 * n → entries_of w k (j + 1) ≡ entries_of l k j ++ (e ∷ [])
  unfolding entries_of
  laid_more zero k f = rw (part_is w e k h (λ o b. let s : k + o ≡ 8 * n + o = omega arith in rw s (q.laid o (omega arith))))
  laid_more (suc j) k f =
      let s : suc j + 1 ≡ suc (j + 1) = omega arith in
      rw (s, values_same (element w) (element l) k 8 (λ o a b. q.kept o (omega arith)), laid_more j (k + 8) (omega arith))

  pub laying_end : Put l w n e
  laying_end = record { entries = laid_more n 0 (omega arith); long = q.long }

-- A loop that puts entries: the table l is m by now, and its first n entries, then `rest`, are the entries es.

pub record Filling (l m : List ℕ) (n : ℕ) (rest es : List (List ℕ)) : Type 0 where
  pub entries : entries_of m 0 n ++ rest ≡ es
  pub long : length m ≡ length l

pub filling_none : (l : List ℕ) (es : List (List ℕ)) → Filling l l 0 es es
unfolding entries_of
filling_none l es = record { entries = refl; long = refl }

module _ (l m : List ℕ) (n : ℕ) (rest es : List (List ℕ)) (q : Filling l m n rest es) where
  pub filling_next : (k e x : List ℕ) (more : List (List ℕ)) → Put m k n e → e ≡ x → rest ≡ x ∷ more → Filling l k (n + 1) more es
  filling_next k e x more p f g = record { entries = rw (p.entries, f, append_assoc) (rw g at q.entries); long = p.long ∙ q.long }

  pub filling_same : (more : List (List ℕ)) → rest ≡ more → Filling l m n more es
  filling_same more f = rw f at q

  pub filling_end : rest ≡ [] → Holds l m n es
  filling_end f = record { entries = sym (append-nil _) ∙ (rw f at q.entries); long = q.long }

-- For callers: one entry in a table, and two.

pub put_one : (l m e : List ℕ) → Put l m 0 e → Holds l m 1 (e ∷ [])
unfolding entries_of
put_one l m e q = q

pub put_two : (l m k e f : List ℕ) → Put l m 0 e → Put m k 1 f → Holds l k 2 (e ∷ f ∷ [])
put_two l m k e f q r = record { entries = rw (put_one l m e q).entries at r.entries; long = r.long ∙ q.long }
