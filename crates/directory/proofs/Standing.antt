-- What an index tells of a log's names. Entry by entry: the adds that stand are those that stood, but for one of the entry's name, and the
-- entry itself if it adds; and an index has at most half as many names as there are entries and names that stand.
use Rattle.model.proofs.Prelude.{ℕ, ◌+◌, ◌*◌, ◌/◌, ◌%◌, ◌^◌, ◌≤◌, ◌<◌, ◌≡◌, refl, sym, ◌∙◌, ap, subst, ⊎_elim, Bool, true, false, not, cond, ◌&&◌, ◌||◌, List, [], ◌∷◌, ◌++◌, map, map-append, append-nil, append_assoc, arith, eqb, leb, length, take, replicate, length-replicate, length-append, length-map, eq-eqb, ne_eqb, eqb-true, le-leb, leb-true}
use Rattle.model.specs.Lists.{bit, all, filter, foldl, has, distinct, same_list}
use Rattle.model.specs.Words.{Mem}
use Rattle.model.specs.Entry.{Entry as Full, write_entry, size_entry, add_entry, remove_entry, no_entry, entry_at, name_field, name_entry_ok}
use Rattle.model.specs.State.{Names, without, with_name, name_step}
use Rattle.model.proofs.Tests.{by_bool, by_eq, by_lt, no, clash, ands, and_left, and_right, cond_neither, bit_le}
use Rattle.model.proofs.Lists.{all_cons, all_append, all_filter, all_map, all_imp, foldl_append, same_ne, same_refl, has_append, has_cons, has_head, has_tail, distinct_cons, apart}
use Rattle.model.proofs.State.Names.{stands_in, DistinctNames, distinct_fold, length_without, length_with}
use Rattle.inode_log.specs.Entries.{name_in, entry_in}
use Rattle.inode_log.specs.Found.{is_placed}
use Rattle.inode_log.specs.declared.Name.{Name}
use Rattle.inode_log.specs.declared.Entry.{Entry}
use Rattle.inode_log.specs.declared.Entry.TheVariants.{Write, SetSize, Add, Remove, None}
use Rattle.index.specs.Index.{same_name, held, noted, taken}
use Rattle.index.proofs.Kept.{same_refl as name-refl, same_true, Indexed, noted_length, noted_taken, noted_held, noted_other, noted_indexed, noted_grows, none_indexed, none_taken}
use Rattle.directory.specs.Fields.{name_at, field_at}
use Rattle.directory.specs.Places.{standing, place_ok}
use Rattle.directory.specs.Standing.{indexed_by, new_by, stands_by, index_step, stands_at, index_of, places_of}
use Rattle.directory.proofs.Same.{of_words, to_words}

-- the names, with their inodes, of the entries at these words
names_at : Mem → List ℕ → Names
names_at m ws = map (λ (w : ℕ). (name_at m w, m (w + 1))) ws

-- whether the entry at word q has another name than the one at word w
other_at : Mem → ℕ → ℕ → Bool
other_at m w q = not (same_list (name_at m q) (name_at m w))

-- an entry at word w that a directory's log may hold
good : Mem → ℕ → ℕ → Bool
good m N w = is_placed w && name_entry_ok N (entry_at m w)

-- An entry that a directory's log may hold adds or removes a name.

by_kind : {X : Type 0} (m : Mem) (N w : ℕ) → good m N w ≡ true
    → (entry_in m w ≡ Add (m (w + 1)) (name_in m w) → entry_at m w ≡ add_entry (m (w + 1)) (m (w + 2)) (name_field m (w + 3)) → field_at m w ≡ true → X)
    → (entry_in m w ≡ Remove (name_in m w) → entry_at m w ≡ remove_entry (m (w + 2)) (name_field m (w + 3)) → field_at m w ≡ true → X) → X
unfolding entry_in entry_at name_entry_ok good
by_kind m N w h f g =
    by_bool (eqb (m w) 1) (λ a. no (rw a at k))
    (λ a. by_bool (eqb (m w) 2) (λ b. no (rw (a, b) at k))
    (λ b. by_bool (eqb (m w) 3) (λ c. let q = rw (a, b, c) at k in f (rw (a, b, c)) (rw (a, b, c)) (search ands))
    (λ c. by_bool (eqb (m w) 4) (λ d. g (rw (a, b, c, d)) (rw (a, b, c, d)) (rw (a, b, c, d) at k)) (λ d. no (rw (a, b, c, d) at k)))))
  where
    k : name_entry_ok N (entry_at m w) ≡ true
    k = search ands

-- What the entry at word w does to an index and to names; `adds` says whether it adds or removes.
record Does (m : Mem) (w : ℕ) (adds : Bool) : Type 0 where
  field : field_at m w ≡ true
  notes : (l : List ℕ) → index_step m l w ≡ noted m l (name_in m w) (w / 8) adds
  stands : (l : List ℕ) → stands_at m l w ≡ adds && eqb (held m l (name_in m w)) (w / 8)
  names : (ns : Names) → name_step ns (entry_at m w) ≡ without (name_at m w) ns ++ cond adds ((name_at m w, m (w + 1)) ∷ []) []

does : (m : Mem) (N w : ℕ) → good m N w ≡ true → (adds : Bool) × Does m w adds
unfolding index_step stands_at indexed_by stands_by name_step with_name name_at
does m N w h =
    by_kind {X = (adds : Bool) × Does m w adds} m N w h
    (λ e f g. (true, record { field = g; notes = λ l. rw e; stands = λ l. rw e; names = λ ns. rw f }))
    (λ e f g. (false, record { field = g; notes = λ l. rw e; stands = λ l. rw e; names = λ ns. rw f (sym (append-nil _)) }))

placed : (m : Mem) (N w : ℕ) → good m N w ≡ true → (w % 8 ≡ 0) × (64 ≤ w)
unfolding good is_placed
placed m N w h = (eqb-true (w % 8) 0 (search ands), leb-true 64 w (search ands))

-- Two entries have the same name exactly if they have the same words of a name.
module _ (m : Mem) (small : (w : ℕ) → m w < 2 ^ 64) (q w : ℕ) (a b : Bool) (dq : Does m q a) (dw : Does m w b) where
  other_true : (name_in m q ≡ name_in m w → ⊥) → other_at m w q ≡ true
  unfolding other_at
  other_true d = rw (same_ne (name_at m q) (name_at m w) (λ e. d (to_words m q w small dq.field dw.field e)))

  other_false : name_in m q ≡ name_in m w → other_at m w q ≡ false
  unfolding other_at
  other_false e = rw (of_words m q w e, same_refl (name_at m w))

by_name : {X : Type 0} (a b : Name) → (a ≡ b → X) → ((a ≡ b → ⊥) → X) → X
by_name a b f g =
    by_bool (same_name a b) (λ e. f (same_true a b e)) (λ e. g (λ h. clash (same_name a b) (rw h (name-refl b)) e))

kept_names : (m : Mem) (w : ℕ) (ws : List ℕ) → names_at m (filter (other_at m w) ws) ≡ without (name_at m w) (names_at m ws)
unfolding names_at other_at without filter
kept_names m w [] = refl
kept_names m w (q ∷ ws) =
    let r = kept_names m w ws in
    by_bool (same_list (name_at m q) (name_at m w)) (λ e. rw (filter, e) r)
    (λ e. rw (filter, e) (ap (λ (ns : Names). (name_at m q, m (q + 1)) ∷ ns) r))

and-false : (a b : Bool) → a && false ≡ a && b && false
and-false true true = refl
and-false true false = refl
and-false false b = refl

pub and-true : (a : Bool) → a ≡ a && true
and-true true = refl
and-true false = refl

module _ (f : ℕ → Bool) (x : ℕ) (xs : List ℕ) where
  filter_yes : f x ≡ true → filter f (x ∷ xs) ≡ x ∷ filter f xs
  unfolding filter
  filter_yes e = rw (filter, e)

  filter_no : f x ≡ false → filter f (x ∷ xs) ≡ filter f xs
  unfolding filter
  filter_no e = rw (filter, e)

filter_append : (f : ℕ → Bool) (xs ys : List ℕ) → filter f (xs ++ ys) ≡ filter f xs ++ filter f ys
unfolding filter
filter_append f [] ys = refl
filter_append f (x ∷ xs) ys =
    by_bool (f x) (λ e. rw (filter, e) (ap (λ (l : List ℕ). x ∷ l) (filter_append f xs ys))) (λ e. rw (filter, e) (filter_append f xs ys))

pub and_not : (a : Bool) → a && false ≡ false
and_not true = refl
and_not false = refl

or-true : (a : Bool) → a || true ≡ true
or-true true = refl
or-true false = refl

all_both : (f g : ℕ → Bool) (xs : List ℕ) → all f xs ≡ true → all g xs ≡ true → all (λ x. f x && g x) xs ≡ true
unfolding all
all_both f g [] h k = refl
all_both f g (x ∷ xs) h k =
    let c = all_cons f x xs h in
    let d = all_cons g x xs k in
    rw (c.0, d.0) (all_both f g xs c.1 d.1)

-- the names at the places of entries are the names of these entries
standing_words : (m : Mem) (ws : List ℕ) → all is_placed ws ≡ true → standing m (map (λ (w : ℕ). w / 8) ws) ≡ names_at m ws
unfolding standing names_at is_placed
standing_words m [] h = refl
standing_words m (w ∷ ws) h =
    let c = all_cons is_placed w ws h in
    let i = c.0 in
    let k : w % 8 ≡ 0 = eqb-true (w % 8) 0 (search ands) in
    let e : 8 * (w / 8) ≡ w = omega arith in
    rw e (ap (λ (ns : Names). (name_at m w, m (w + 1)) ∷ ns) (standing_words m ws c.1))

-- One entry more, at word w, on an index with two empty slots.
module _ (m : Mem) (small : (w : ℕ) → m w < 2 ^ 64) (N w : ℕ) (l : List ℕ) (g : good m N w ≡ true) (ix : Indexed m l) (room : taken l + 1 < length l) where
  adds : Bool
  adds = (does m N w g).0

  it : Does m w adds
  unfolding adds
  it = (does m N w g).1

  name : Name
  name = name_in m w

  after : List ℕ
  after = noted m l name (w / 8) adds

  is_after : index_step m l w ≡ after
  unfolding after name
  is_after = it.notes l

  some_place : w / 8 ≡ 0 → ⊥
  some_place e = let k = placed m N w g in omega arith

  same_name_lem : name_in m (8 * (w / 8)) ≡ name
  unfolding name
  same_name_lem = let k = placed m N w g in let e : 8 * (w / 8) ≡ w = omega arith in ap (name_in m) e

  after_held : held m after name ≡ cond (not (eqb (held m l name) 0) || adds) (w / 8) 0
  unfolding after
  after_held = noted_held m l name (w / 8) adds room some_place same_name_lem

  after_taken : taken after ≡ taken l + bit (eqb (held m l name) 0 && adds)
  unfolding after
  after_taken = noted_taken m l name (w / 8) adds room some_place same_name_lem

  -- no other entry of the name stands after it
  gone : (q : ℕ) → good m N q ≡ true → (q ≡ w → ⊥) → eqb (held m after name) (q / 8) ≡ false
  gone q h d =
      let k = placed m N w g in
      let i = placed m N q h in
      rw after_held (by_bool (not (eqb (held m l name) 0) || adds) (λ e. rw e (ne_eqb (w / 8) (q / 8) (λ z. d (omega arith))))
      (λ e. rw e (ne_eqb 0 (q / 8) (λ z. omega arith))))

  stood : (q : ℕ) → good m N q ≡ true → (q ≡ w → ⊥) → stands_at m after q ≡ stands_at m l q && other_at m w q
  unfolding name after
  stood q h d =
      let b = (does m N q h).0 in
      let dq = (does m N q h).1 in
      by_name (name_in m q) (name_in m w)
      (λ e. rw (dq.stands after, dq.stands l, other_false m small q w b adds dq it e, e, gone q h d) (and-false b _))
      (λ e. rw (dq.stands after, dq.stands l, other_true m small q w b adds dq it e, kept q e) (and-true _))
    where
      kept : (q : ℕ) → (name_in m q ≡ name_in m w → ⊥) → held m after (name_in m q) ≡ held m l (name_in m q)
      kept q e = noted_other m l name (w / 8) adds room some_place same_name_lem (name_in m q) e ix

  stood_all : (ws : List ℕ) → all (good m N) ws ≡ true → has w ws ≡ false
      → filter (stands_at m after) ws ≡ filter (other_at m w) (filter (stands_at m l) ws)
  unfolding filter has
  stood_all [] h d = refl
  stood_all (q ∷ ws) h d =
      let c = all_cons (good m N) q ws h in
      let e = cond_neither (eqb w q) (has w ws) d in
      let r = stood_all ws c.1 e.1 in
      let k : q ≡ w → ⊥ = λ z. clash (eqb w q) (eq-eqb w q (sym z)) e.0 in
      by_bool (stands_at m l q)
      (λ i. rw (filter_yes (stands_at m l) q ws i) (by_bool (other_at m w q)
      (λ j. rw (filter_yes (stands_at m after) q ws (stood q c.0 k ∙ rw (i, j)), filter_yes (other_at m w) q (filter (stands_at m l) ws) j)
      (ap (λ (x : List ℕ). q ∷ x) r))
      (λ j. rw (filter_no (stands_at m after) q ws (stood q c.0 k ∙ rw (i, j)), filter_no (other_at m w) q (filter (stands_at m l) ws) j) r)))
      (λ i. rw (filter_no (stands_at m l) q ws i, filter_no (stands_at m after) q ws (stood q c.0 k ∙ rw i)) r)

  -- the entry itself stands if it adds
  itself : stands_at m after w ≡ adds
  unfolding name
  itself = rw (it.stands after, after_held) (by_bool adds (λ e. rw (e, or-true) (eq-eqb (w / 8) (w / 8) refl)) (λ e. rw e))

  names_after : (ws : List ℕ) → all (good m N) ws ≡ true → has w ws ≡ false
      → names_at m (filter (stands_at m after) (ws ++ (w ∷ []))) ≡ name_step (names_at m (filter (stands_at m l) ws)) (entry_at m w)
  unfolding names_at filter
  names_after ws h d =
      rw (filter_append (stands_at m after) ws (w ∷ []), stood_all ws h d, it.names (names_at m (filter (stands_at m l) ws)), ← (kept_names m w (filter (stands_at m l) ws)))
      (rw (itself, map-append) (by_bool adds (λ e. rw e) (λ e. rw e)))

  -- a name that the index lacks does not stand
  absent : held m l name ≡ 0 → (ws : List ℕ) → all (good m N) ws ≡ true → stands_in (name_at m w) (names_at m (filter (stands_at m l) ws)) ≡ false
  unfolding names_at filter stands_in name
  absent z [] h = refl
  absent z (q ∷ ws) h =
      let c = all_cons (good m N) q ws h in
      let r = absent z ws c.1 in
      by_bool (stands_at m l q) (λ i. rw (filter_yes (stands_at m l) q ws i, stands_in, another q c.0 i) r) (λ i. rw (filter_no (stands_at m l) q ws i) r)
    where
      another : (q : ℕ) → good m N q ≡ true → stands_at m l q ≡ true → same_list (name_at m q) (name_at m w) ≡ false
      another q k i =
          let b = (does m N q k).0 in
          let dq = (does m N q k).1 in
          let o = placed m N q k in
          let j : held m l (name_in m q) ≡ q / 8 = eqb-true (held m l (name_in m q)) (q / 8) (and_right b _ (sym (dq.stands l) ∙ i)) in
          same_ne (name_at m q) (name_at m w)
          (λ e.
          let f : name_in m q ≡ name_in m w = to_words m q w small dq.field it.field e in
          let y : held m l (name_in m q) ≡ 0 = ap (held m l) f ∙ z in
          omega arith)

  -- how many names the index has, and how many stand
  counts : (ns : Names) → DistinctNames ns → (b : ℕ) → 2 * taken l ≤ length ns + b → (held m l name ≡ 0 → stands_in (name_at m w) ns ≡ false)
      → 2 * taken after ≤ length (name_step ns (entry_at m w)) + (b + 1)
  unfolding bit
  counts ns d b h f =
      let x = length_without (name_at m w) ns d in
      let y = bit_le (stands_in (name_at m w) ns) in
      rw (it.names ns, length-append) (by_bool adds
      (λ a. by_eq (held m l name) 0
      (λ z.
      let k : taken after ≡ taken l + 1 = rw (eq-eqb (held m l name) 0 z, a) at after_taken in
      let i : bit (stands_in (name_at m w) ns) ≡ 0 = rw (f z) in
      rw a (omega arith))
      (λ z. let k : taken after ≡ taken l + 0 = rw (ne_eqb (held m l name) 0 z) at after_taken in rw a (omega arith)))
      (λ a. let k : taken after ≡ taken l + 0 = rw (a, and_not) at after_taken in rw a (omega arith)))

-- words that stand in neither list before
apart_on : (w : ℕ) (ws rest : List ℕ) → has w rest ≡ false → ((x : ℕ) → has x (w ∷ rest) ≡ true → has x ws ≡ false)
    → (x : ℕ) → has x rest ≡ true → has x (ws ++ (w ∷ [])) ≡ false
unfolding has
apart_on w ws rest k f x h =
    by_bool (has x (ws ++ (w ∷ [])))
    (λ e. ⊎_elim (λ i. clash (has x ws) i (f x (has_tail x w rest h)))
    (λ i. ⊎_elim (λ q. absurd (apart x w rest k h q)) (λ q. no q) (has_cons x w [] i)) (has_append x ws (w ∷ []) e))
    (λ e. e)

-- names are taken out one at a time
shrink : (es : List Full) (ns : Names) → DistinctNames ns → length ns ≤ length (foldl name_step ns es) + length es
unfolding foldl name_step
shrink [] ns d = omega arith
shrink (e ∷ es) ns d = let r = shrink es (name_step ns e) (distinct_fold (e ∷ []) ns d) in let k = one e in omega arith
  where
    one : (e : Full) → length ns ≤ length (name_step ns e) + 1
    one (write_entry f g c z) = omega arith
    one (size_entry z) = omega arith
    one (add_entry i l f) =
        let x = length_with (take l f) i ns in
        let y = length_without (take l f) ns d in
        let b = bit_le (stands_in (take l f) ns) in
        omega arith
    one (remove_entry l f) = let y = length_without (take l f) ns d in let b = bit_le (stands_in (take l f) ns) in omega arith
    one no_entry = omega arith

-- the names after the entries at these words
after_entries : Mem → List ℕ → Names
after_entries m ws = foldl name_step [] (map (entry_at m) ws)

-- an index keeps its slots and never has fewer names than before
by_entry : (m : Mem) (l : List ℕ) (p : ℕ) (e : Entry) → (p ≡ 0 → ⊥) → (length (indexed_by m l p e) ≡ length l) × (taken l ≤ taken (indexed_by m l p e))
unfolding indexed_by
by_entry m l p (Write f d c s) z = (refl, omega arith)
by_entry m l p (SetSize s) z = (refl, omega arith)
by_entry m l p (Add i n) z = (noted_length m l n p true, noted_grows m l n p true z)
by_entry m l p (Remove n) z = (noted_length m l n p false, noted_grows m l n p false z)
by_entry m l p None z = (refl, omega arith)

longer : (m : Mem) (w : ℕ) (l : List ℕ) → is_placed w ≡ true → (length (index_step m l w) ≡ length l) × (taken l ≤ taken (index_step m l w))
unfolding index_step is_placed
longer m w l h = by_entry m l (w / 8) (entry_in m w) (λ e. let k = leb-true 64 w (search ands) in omega arith)

pub grows : (m : Mem) (ws l : List ℕ) → all is_placed ws ≡ true → taken l ≤ taken (index_of m l ws)
unfolding foldl
grows m [] l h = omega arith
grows m (w ∷ ws) l h =
    let c = all_cons is_placed w ws h in
    let a = (longer m w l c.0).1 in
    let b = grows m ws (index_step m l w) c.1 in
    omega arith

-- l is the index after the entries at the words ws
record Holds (m : Mem) (N : ℕ) (ws l : List ℕ) : Type 0 where
  fine : all (good m N) ws ≡ true
  names : names_at m (filter (stands_at m l) ws) ≡ after_entries m ws
  twice : 2 * taken l ≤ length (after_entries m ws) + length ws
  index : Indexed m l

module _ (m : Mem) (small : (w : ℕ) → m w < 2 ^ 64) (N : ℕ) where
  one_more : (w : ℕ) (ws l : List ℕ) → Holds m N ws l → good m N w ≡ true → has w ws ≡ false → taken l + 1 < length l
      → Holds m N (ws ++ (w ∷ [])) (index_step m l w)
  unfolding after_entries after name foldl all
  one_more w ws l h g d room =
      let ix = h.index in
      let a = is_after m small N w l g ix room in
      let f : after_entries m (ws ++ (w ∷ [])) ≡ name_step (after_entries m ws) (entry_at m w) = rw (map-append, foldl_append) in
      record {
        fine = all_append (good m N) ws (w ∷ []) h.fine (rw g);
        names = rw (a, names_after m small N w l g ix room ws h.fine d, h.names, f);
        twice =
            rw (a, f, length-append) (counts m small N w l g ix room (after_entries m ws) (distinct_fold (map (entry_at m) ws) [] tt) (length ws) h.twice
            (λ z. rw h.names at (absent m small N w l g ix room z ws h.fine)));
        index =
            rw a (noted_indexed m l (name_in m w) (w / 8) (adds m small N w l g ix room) room (some_place m small N w l g ix room)
            (same_name_lem m small N w l g ix room) ix);
      }

  -- b is how many names the index is to hold, and M its slots
  module _ (b M : ℕ) (small-enough : b + 1 < M) where
    all_held : (ws rest l : List ℕ) → Holds m N ws l → length l ≡ M → all (good m N) rest ≡ true → distinct rest ≡ true
        → ((x : ℕ) → has x rest ≡ true → has x ws ≡ false) → taken (index_of m l rest) ≤ b → Holds m N (ws ++ rest) (index_of m l rest)
    unfolding foldl good
    all_held ws [] l h e g d f t = rw (append-nil ws) h
    all_held ws (w ∷ rest) l h e g d f t =
        let c = all_cons (good m N) w rest g in
        let k = distinct_cons w rest d in
        let o = longer m w l (and_left _ _ c.0) in
        let i = grows m rest (index_step m l w) (all_imp (good m N) is_placed rest (λ x y. and_left _ _ y) c.1) in
        let n = one_more w ws l h c.0 (f w (has_head w rest)) (omega arith) in
        subst (λ (xs : List ℕ). Holds m N xs (index_of m (index_step m l w) rest)) (append_assoc ws (w ∷ []) rest)
        (all_held (ws ++ (w ∷ [])) rest (index_step m l w) n (o.0 ∙ e) c.1 k.1 (apart_on w ws rest k.0 f) t)

    too_many : (ws rest l : List ℕ) → Holds m N ws l → length l ≡ M → all (good m N) rest ≡ true → distinct rest ≡ true
        → ((x : ℕ) → has x rest ≡ true → has x ws ≡ false) → taken l ≤ b → b < taken (index_of m l rest)
        → 2 * (b + 1) ≤ length (after_entries m (ws ++ rest)) + length (ws ++ rest)
    unfolding foldl after_entries good
    too_many ws [] l h e g d f s t = absurd (omega arith)
    too_many ws (w ∷ rest) l h e g d f s t =
        let c = all_cons (good m N) w rest g in
        let k = distinct_cons w rest d in
        let o = longer m w l (and_left _ _ c.0) in
        let n = one_more w ws l h c.0 (f w (has_head w rest)) (omega arith) in
        subst (λ (xs : List ℕ). 2 * (b + 1) ≤ length (after_entries m xs) + length xs) (append_assoc ws (w ∷ []) rest)
        (by_lt b (taken (index_step m l w))
        (λ i.
        let x = n.twice in
        let y = shrink (map (entry_at m) rest) (after_entries m (ws ++ (w ∷ []))) (distinct_fold (map (entry_at m) (ws ++ (w ∷ []))) [] tt) in
        let z = length-map rest (entry_at m) in
        rw (map-append, foldl_append, length-append) (omega arith))
        (λ i. too_many (ws ++ (w ∷ [])) rest (index_step m l w) n (o.0 ∙ e) c.1 k.1 (apart_on w ws rest k.0 f) i t))

-- whether the entry at word w brings a name into an index
pub step_taken : (m : Mem) (N w : ℕ) (l : List ℕ) → is_placed w ≡ true → name_entry_ok N (entry_at m w) ≡ true → taken l + 1 < length l
    → taken (index_step m l w) ≡ taken l + bit (new_by m l (entry_in m w))
unfolding good new_by index_step indexed_by
step_taken m N w l a b room =
    let g : good m N w ≡ true = rw (a, b) in
    let k = placed m N w g in
    let i : w / 8 ≡ 0 → ⊥ = λ e. omega arith in
    let e : 8 * (w / 8) ≡ w = omega arith in
    by_kind m N w g
    (λ f _ _. rw f (noted_taken m l (name_in m w) (w / 8) true room i (ap (name_in m) e) ∙ rw (← and-true)))
    (λ f _ _. rw f (noted_taken m l (name_in m w) (w / 8) false room i (ap (name_in m) e) ∙ rw and_not))

-- A log whose entries a directory's log may hold, at words of which none comes twice, noted in an index of M slots that is to hold b names.
module _ (m : Mem) (small : (w : ℕ) → m w < 2 ^ 64) (N b M : ℕ) (room : b + 1 < M) (ws : List ℕ) (ok : all (name_entry_ok N) (map (entry_at m) ws) ≡ true)
    (at : all is_placed ws ≡ true) (apart-ws : distinct ws ≡ true) where
  -- its index
  abbrev whole : List ℕ
  whole = index_of m (replicate M 0) ws

  goods : all (good m N) ws ≡ true
  unfolding good
  goods = all_both is_placed (λ (w : ℕ). name_entry_ok N (entry_at m w)) ws at (sym (all_map (name_entry_ok N) (entry_at m) ws) ∙ ok)

  start : Holds m N [] (replicate M 0)
  unfolding all names_at filter after_entries foldl
  start = record { fine = refl; names = refl; twice = rw none_taken (omega arith); index = none_indexed m M }

  -- the names of the log are those of the entries that stand
  pub names_stand : taken whole ≤ b → standing m (places_of m whole ws) ≡ foldl name_step [] (map (entry_at m) ws)
  unfolding after_entries has
  names_stand t =
      standing_words m (filter (stands_at m whole) ws) (all_filter is_placed (stands_at m whole) ws at)
      ∙ (all_held m small N b M room [] ws (replicate M 0) start (length-replicate {A = ℕ} M 0) goods apart-ws (λ x h. refl) t).names

  -- these entries have good names and lie where the log does
  pub places_good : (L : ℕ) → all (λ (w : ℕ). leb (8 * w + 64) L) ws ≡ true → (l : List ℕ) → all (place_ok m L) (places_of m l ws) ≡ true
  places_good L i l =
      all_map (place_ok m L) (λ (w : ℕ). w / 8) (filter (stands_at m l) ws)
      ∙ all_filter (λ (w : ℕ). place_ok m L (w / 8)) (stands_at m l) ws
      (all_imp (λ (w : ℕ). good m N w && leb (8 * w + 64) L) (λ (w : ℕ). place_ok m L (w / 8)) ws one (all_both (good m N) (λ (w : ℕ). leb (8 * w + 64) L) ws goods i))
    where
      one : (w : ℕ) → good m N w && leb (8 * w + 64) L ≡ true → place_ok m L (w / 8) ≡ true
      one w h =
          let g = and_left (good m N w) (leb (8 * w + 64) L) h in
          let j = leb-true (8 * w + 64) L (and_right (good m N w) (leb (8 * w + 64) L) h) in
          let k = placed m N w g in
          let e : 8 * (w / 8) ≡ w = omega arith in
          rw (le-leb (64 * (w / 8) + 64) L (omega arith), e) (does m N w g).1.field

  -- where the index has more names than it is to hold, many names stand
  pub names_many : b < taken whole → 2 * (b + 1) ≤ length (foldl name_step [] (map (entry_at m) ws)) + length ws
  unfolding after_entries has
  names_many t =
      let z = none_taken M in
      too_many m small N b M room [] ws (replicate M 0) start (length-replicate {A = ℕ} M 0) goods apart-ws (λ x h. refl) (omega arith) t
