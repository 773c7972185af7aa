-- The tail that a log goes on with, the parts of the first group beside the first log, and the words that commit it.
use Rattle.model.proofs.Prelude.{ℕ, zero, suc, ◌+◌, ◌*◌, ◌-◌, ◌/◌, ◌≤◌, ◌<◌, ◌%◌, ◌≡◌, refl, sym, ap, ◌∙◌, fun_ext, Bool, true, false, cond, ◌&&◌, not, List, [], ◌∷◌, ◌++◌, append-nil, none, arith, add-one, add-zero, zero-add, eqb, length, get_or, take, drop, drop-cons, drop_of_length-le, length-append, length-take-le, take-append_seam, eq-eqb, ne_eqb, lt-ltb, le-ltb}
use Rattle.model.specs.Words.{Mem}
use Rattle.model.specs.Lists.{index_of}
use Rattle.model.specs.Layout.{valid_word, head_word, tail_word, type_word}
use Rattle.model.specs.Stores.{Stores, one_word, run, both}
use Rattle.model.specs.Calls.{Change, lay_pages}
use Rattle.model.proofs.Tests.{by_eq, by_lt, inside, outside}
use Rattle.layout.specs.declared.Sizes.{Sizes}
use Rattle.stores.specs.Emitted.{Emitted}
use Rattle.stores.specs.Added.{Added, Adding, element, element_from}
use Rattle.stores.proofs.Emitting.{same_length, emitted_both, emitted_parts}
use Rattle.stores.proofs.Groups.{added_both, added_none, added_if, added_not, adding_all, adding_next, slice_run}
use Rattle.commit.specs.Commit.{changes_from, changes_of}
use Rattle.entries.specs.Table.{entries_of}
use Rattle.entries.proofs.Entries.{length_entries}
use Rattle.laying.specs.declared.Laid.{Laid}
use Rattle.laying.specs.Laying.{tail_behind, LogLaid}
use Rattle.append.specs.declared.Append.{Append}
use Rattle.append.specs.Appended.{old_tail, head_of, rest_of, second_stores, SecondLaid, zeroed, pairs_of, also_committed, committing}

-- `old_tail`
module _ (u : Mem) (anew : Bool) (k : ℕ) where
  pub tail_anew : anew ≡ true → 0 ≡ old_tail u anew k
  unfolding old_tail
  tail_anew e = rw e

  pub tail_old : (w x : ℕ) → anew ≡ false → w ≡ tail_word k → x ≡ u w → x ≡ old_tail u anew k
  unfolding old_tail
  tail_old w x e f g = rw e (g ∙ ap u f)

-- `put_head`
module _ (l : List ℕ) (end k t x : ℕ) (anew : Bool) where
  pub head_anew : anew ≡ true → Added l 0 end (head_of anew k t x) end l
  unfolding head_of
  head_anew e = added_not l 0 end (not anew && eqb t 0) (one_word (head_word k) x) (rw e)

  pub head_there : anew ≡ false → (t ≡ 0 → ⊥) → Added l 0 end (head_of anew k t x) end l
  unfolding head_of
  head_there e h = added_not l 0 end (not anew && eqb t 0) (one_word (head_word k) x) (rw (e, ne_eqb t 0 h))

  pub head_put : (i r : ℕ) (m : List ℕ) → anew ≡ false → t ≡ 0 → i ≡ head_word k → Added l 0 end (one_word i x) r m
      → Added l 0 end (head_of anew k t x) r m
  unfolding head_of
  head_put i r m e h j a = added_if l 0 end (not anew && eqb t 0) (one_word (head_word k) x) r m (rw (e, eq-eqb t 0 h)) (rw j at a)

-- `put_new`
module _ (l : List ℕ) (end : ℕ) (a : Append) where
  pub no_other : a.other ≡ 0 → Added l 0 end (zeroed a) end l
  unfolding zeroed
  no_other e = added_not l 0 end _ _ (rw (eq-eqb a.other 0 e))

  pub let_go : (a.other ≡ 0 → ⊥) → a.valid ≡ 0 → Added l 0 end (zeroed a) end l
  unfolding zeroed
  let_go e f = added_not l 0 end _ _ (rw (ne_eqb a.other 0 e, eq-eqb a.valid 0 f))

  pub new_put : (i j t e d r : ℕ) (m o q : List ℕ) → (a.other ≡ 0 → ⊥) → (a.valid ≡ 0 → ⊥) → i ≡ head_word a.other
      → j ≡ tail_word a.other → t ≡ type_word a.other → Added l 0 end (one_word i 0) e m → Added m 0 e (one_word j 0) d o
      → Added o 0 d (one_word t a.kind) r q → Added l 0 end (zeroed a) r q
  unfolding zeroed
  new_put i j t e d r m o q f g h k n x y z =
      added_if l 0 end _ _ r q (rw (ne_eqb a.other 0 f, ne_eqb a.valid 0 g))
      (added_both (rw h at x) (added_both (rw k at y) (rw n at z)))

-- `put_data`: the words of the first page, and then those of the others.

lay_first : (p : ℕ) (ps : List ℕ) (f g : ℕ → ℕ) → ((j : ℕ) → f (64 + j) ≡ g j) → lay_pages (p ∷ ps) f ≡ both (run (64 * p) 64 f) (lay_pages ps g)
unfolding lay_pages both run index_of
lay_first p ps f g h =
    fun_ext (λ w.
    let j = index_of (w / 64) ps in
    by_eq (w / 64) p
    (λ e.
    let z : 64 * 0 + w % 64 ≡ w - 64 * p = omega arith in
    rw (eq-eqb (w / 64) p e, lt-ltb 0 (length (p ∷ ps)) (omega arith), inside (64 * p) (64 * p + 64) w (omega arith) (omega arith), z))
    (λ e.
    rw (ne_eqb (w / 64) p e, outside (64 * p) (64 * p + 64) w (λ a b. e (omega arith)))
    (by_lt j (length ps)
    (λ l.
    let z : 64 * (j + 1) + w % 64 ≡ 64 + (64 * j + w % 64) = omega arith in
    rw (lt-ltb j (length ps) l, lt-ltb (j + 1) (length (p ∷ ps)) (omega arith), z, h))
    (λ l. rw (le-ltb j (length ps) l, le-ltb (j + 1) (length (p ∷ ps)) (omega arith))))))

module _ (l : List ℕ) (end : ℕ) (ps ds : List ℕ) where
  -- the data of the pages from the i-th on
  abbrev data_from : ℕ → Stores
  data_from i = lay_pages (drop i ps) (element_from ds (64 * i))

  pub data_start : Adding l 0 end (lay_pages ps (element ds)) l end (data_from 0)
  unfolding element element_from
  data_start =
      let e : element_from ds (64 * 0) ≡ element ds = fun_ext (λ j. ap (λ i. get_or ds i 0) (zero-add j)) in
      rw e (adding_all l 0 end (lay_pages ps (element ds)))

  module _ (m : List ℕ) (e i : ℕ) (q : Adding l 0 end (lay_pages ps (element ds)) m e (data_from i)) where
    -- the words of the i-th page are put, w being the first
    pub data_next : (w r : ℕ) (o : List ℕ) → i < length ps → w ≡ 64 * get_or ps i 0 → 64 * length ps ≤ length ds
        → Added m 0 e (run w (length (take (64 * i + 64 - 64 * i) (drop (64 * i) ds))) (element (take (64 * i + 64 - 64 * i) (drop (64 * i) ds)))) r o
        → Adding l 0 end (lay_pages ps (element ds)) o r (data_from (i + 1))
    unfolding element_from
    data_next w r o h ew room a =
        let p = get_or ps i 0 in
        let k : 64 * i + 64 - 64 * i ≡ 64 = omega arith in
        let d : drop i ps ≡ p ∷ drop (i + 1) ps = drop-cons ps i 0 h ∙ rw (add-one i) in
        let s = lay_first p (drop (i + 1) ps) (element_from ds (64 * i)) (element_from ds (64 * (i + 1)))
        (λ j. let z : 64 * i + (64 + j) ≡ 64 * (i + 1) + j = omega arith in ap (λ n. get_or ds n 0) z) in
        let t : data_from i ≡ both (run w 64 (element_from ds (64 * i))) (data_from (i + 1)) = rw (d, ew) s in
        let b : Added m 0 e (run w 64 (element_from ds (64 * i))) r o = rw (← slice_run ds (64 * i) 64 w (omega arith)) (rw k at a) in
        adding_next (rw t at q) b

    pub data_done : length ps ≤ i → Added l 0 end (lay_pages ps (element ds)) e m
    unfolding lay_pages index_of
    data_done h =
        let z : data_from i ≡ (λ w. none) = rw (drop_of_length-le ps {i = i} h) in
        q.rest (rw z (added_none m 0 e))

-- `put_rest`
pub rest_put : (l m o : List ℕ) (end e r t h : ℕ) (a : Append) (ps ds : List ℕ) → Added l 0 end (head_of a.anew a.log t h) e m
    → Added m 0 e (lay_pages ps (element ds)) r o → Added l 0 end (rest_of a t h ps ds) r o
unfolding rest_of
rest_put l m o end e r t h a ps ds x y = added_both x y

-- `lay_second`
module _ (b : List ℕ) (s : Sizes) (l : List ℕ) (g : Laid) (k : ℕ) (ws : List ℕ) where
  abbrev es : List (List ℕ)
  es = entries_of ws 0 (length ws / 8)

  pub second_none : length ws / 8 ≡ 0 → SecondLaid b s l g k ws g l
  unfolding second_stores tail_behind
  second_none z =
      record {
        end = omega arith;
        stores = added_not l 0 g.end (not (eqb (length es) 0)) _ (rw (length_entries, z));
        tail = rw z;
      }

  pub second_laid : (h : Laid) (e : ℕ) (m o : List ℕ) → (length ws / 8 ≡ 0 → ⊥) → LogLaid b s l g ws [] h m
      → Added m 0 h.end (head_of false k g.tail h.head) e o → e ≤ h.end + 2
      → SecondLaid b s l g k ws (record { end = e; head = h.head; tail = h.tail; from = h.from }) o
  unfolding second_stores entries_of
  second_laid h e m o z x y w =
      let n : length ws / 8 + length {A = ℕ} [] / 8 ≡ length ws / 8 = omega arith in
      let c = length_entries ws 0 (length ws / 8) in
      record {
        end = omega (arith, x.end);
        stores = added_if l 0 g.end (not (eqb (length es) 0)) _ e o (rw (c, ne_eqb (length ws / 8) 0 z))
            (added_both (rw append-nil at x.stores) (rw (c, ← n, ← x.head) y));
        tail = x.tail ∙ ap (tail_behind b s g) n;
      }

-- Words to commit, as pairs.

pairs_append : (cs ds : List Change) → pairs_of (cs ++ ds) ≡ pairs_of cs ++ pairs_of ds
unfolding pairs_of
pairs_append [] ds = refl
pairs_append (c ∷ cs) ds = rw (pairs_append cs ds)

-- `put_change`
module _ (l : List ℕ) (at w x : ℕ) (changes : Bool) where
  pub change_none : changes ≡ false → Emitted l at (pairs_of (cond changes ((w, x) ∷ []) [])) at l
  unfolding pairs_of
  change_none e = rw e (record { end = sym (add-zero at); list = refl })

  pub change_put : (r : ℕ) (m : List ℕ) → changes ≡ true → Emitted l at (w ∷ x ∷ []) r m → Emitted l at (pairs_of (cond changes ((w, x) ∷ []) [])) r m
  unfolding pairs_of
  change_put r m e p = rw e p

-- `to_commit`: h, t, u and o are the words' indices
pub four_put : (a : Append) (l l₁ l₂ l₃ l₄ : List ℕ) (x y z h t u o r₁ r₂ r₃ r : ℕ) (second other : Bool) → h ≡ head_word a.log → t ≡ tail_word a.log
    → u ≡ tail_word a.second → o ≡ valid_word a.other → second ≡ not (eqb a.moved 0) → other ≡ not (eqb a.other 0)
    → Emitted l 0 (pairs_of (cond a.anew ((h, x) ∷ []) [])) r₁ l₁ → Emitted l₁ r₁ (pairs_of (cond true ((t, y) ∷ []) [])) r₂ l₂
    → Emitted l₂ r₂ (pairs_of (cond second ((u, z) ∷ []) [])) r₃ l₃ → Emitted l₃ r₃ (pairs_of (cond other ((o, a.valid) ∷ []) [])) r l₄
    → Emitted l 0 (pairs_of (committing a x y z)) r l₄
unfolding committing also_committed
four_put a l l₁ l₂ l₃ l₄ x y z h t u o r₁ r₂ r₃ r second other eh et eu eo em ef p q v w =
    let k = emitted_both (emitted_both (emitted_both p q) v) w in
    rw (pairs_append, pairs_append, pairs_append, ← eh, ← et, ← eu, ← eo, ← em, ← ef) k

-- the pairs are these changes
pairs_from : (p q : ℕ) (l : List ℕ) (j n : ℕ) → changes_from (p ∷ q ∷ l) (j + 1) n ≡ changes_from l j n
unfolding changes_from
pairs_from p q l j zero = refl
pairs_from p q l j (suc n) =
    let e : 2 * (j + 1) ≡ suc (suc (2 * j)) = omega arith in
    let r = pairs_from p q l (j + 1) n in
    rw (e, add-one (suc (suc (2 * j))), ← add-one (2 * j), r)

pub pairs_long : (cs : List Change) → length (pairs_of cs) ≡ 2 * length cs
unfolding pairs_of
pairs_long [] = refl
pairs_long (c ∷ cs) = omega (arith, pairs_long cs)

pairs_changes : (cs : List Change) → changes_from (pairs_of cs) 0 (length cs) ≡ cs
unfolding pairs_of changes_from
pairs_changes [] = refl
pairs_changes (c ∷ cs) = rw (pairs_from c.0 c.1 (pairs_of cs) 0 (length cs), pairs_changes cs)

-- r of the words m were put
module _ (l m : List ℕ) (r : ℕ) (cs : List Change) (e : Emitted l 0 (pairs_of cs) r m) (room : 8 ≤ length l) (few : r ≤ 8) where
  pub put_words : take r m ≡ pairs_of cs
  put_words = let n : r ≡ length (pairs_of cs) = e.end ∙ zero-add (length (pairs_of cs)) in rw (emitted_parts e (omega arith), n, take-append_seam)

  pub put_long : r ≡ length (take r m)
  put_long = sym (length-take-le r m (omega (arith, same_length e)))

  pub put_changes : changes_of (take r m) ≡ cs
  put_changes = let n : 2 * length cs / 2 ≡ length cs = omega arith in rw (put_words, pairs_long cs, n, pairs_changes cs)

-- where all words of changes are below M, so are those of their pairs
abbrev Below : ℕ → List Change → Type 0
Below M cs = (j : ℕ) → j < length cs → get_or (pairs_of cs) (2 * j) 0 < M

module _ (M : ℕ) where
  below_if : (b : Bool) (c : Change) → c.0 < M → Below M (cond b (c ∷ []) [])
  unfolding pairs_of
  below_if true c h j l = let z : j ≡ 0 = omega arith in rw z h
  below_if false c h j l = absurd (omega arith)

  below_both : (cs ds : List Change) → Below M cs → Below M ds → Below M (cs ++ ds)
  unfolding pairs_of
  below_both [] ds x y j l = y j l
  below_both (c ∷ cs) ds x y j l =
      by_eq j 0 (λ z. let h = x 0 (omega arith) in rw z h)
      (λ z.
      let e : 2 * j ≡ suc (suc (2 * (j - 1))) = omega arith in
      rw e (below_both cs ds (λ i k. let f : 2 * (i + 1) ≡ suc (suc (2 * i)) = omega arith in rw f at (x (i + 1) (omega arith))) y (j - 1) (omega arith)))

  pub committing_below : (a : Append) (x y z : ℕ) → tail_word a.log < M → tail_word a.second < M → tail_word a.other < M
      → Below M (committing a x y z)
  unfolding committing also_committed
  committing_below a x y z h i k =
      below_both _ _
      (below_both _ _ (below_both _ _ (below_if a.anew _ (omega arith)) (below_if true _ (omega arith))) (below_if (not (eqb a.moved 0)) _ (omega arith)))
      (below_if (not (eqb a.other 0)) _ (omega arith))

pub some_committed : (a : Append) (x y z : ℕ) → 1 ≤ length (committing a x y z)
unfolding committing
some_committed a x y z = rw (length-append, length-append, length-append) (omega arith)
