-- Laws of stores: a memory after a group, a part of a group, and what can be said of the words that a group stores. By a look at each word.
use Rattle.model.proofs.Prelude.{◌≡◌, refl, sym, ◌∙◌, fun_ext, ◌⊎◌, inl, inr, ⊎_elim, ℕ, ◌+◌, ◌-◌, ◌≤◌, ◌<◌, Bool, true, cond, ◌&&◌, Option, none, some, arith, leb, ltb, eqb, ltb-true, leb-true, eqb-true, eq-eqb, ne_eqb}
use Rattle.model.specs.Lists.{or_else}
use Rattle.model.specs.Words.{Mem}
use Rattle.model.specs.Stores.{Stores, one_word, run, first_of, both, only_if, over}
use Rattle.model.proofs.Tests.{by_bool, by_eq, not_some, cond_some, ands}

-- A memory after a group.

pub over_none : (s : Stores) (m : Mem) (w : ℕ) → s w ≡ none → over s m w ≡ m w
unfolding over
over_none s m w e = rw e

pub over_some : (s : Stores) (m : Mem) (w x : ℕ) → s w ≡ some x → over s m w ≡ x
unfolding over
over_some s m w x e = rw e

-- over memories that agree at a word
pub over_same : (s : Stores) (a b : Mem) (w : ℕ) → a w ≡ b w → over s a w ≡ over s b w
unfolding over
over_same s a b w e = rw e

pub one_here : (t x : ℕ) → one_word t x t ≡ some x
unfolding one_word
one_here t x = rw (eq-eqb t t refl)

pub one_other : (t x w : ℕ) → (w ≡ t → ⊥) → one_word t x w ≡ none
unfolding one_word
one_other t x w h = rw (ne_eqb w t h)

pub over_here : (t x : ℕ) (m : Mem) → over (one_word t x) m t ≡ x
over_here t x m = over_some (one_word t x) m t x (one_here t x)

pub over_other : (t x : ℕ) (m : Mem) (w : ℕ) → (w ≡ t → ⊥) → over (one_word t x) m w ≡ m w
over_other t x m w h = over_none (one_word t x) m w (one_other t x w h)

-- Two groups in one.

pub first_none : (o : Option ℕ) → first_of o none ≡ o
first_none none = refl
first_none (some x) = refl

pub first_cases : (a b : Option ℕ) (x : ℕ) → first_of a b ≡ some x → (a ≡ some x) ⊎ (b ≡ some x)
first_cases none b x e = inr e
first_cases (some y) b x e = inl e

pub over_both : (s t : Stores) (m : Mem) → over (both s t) m ≡ over s (over t m)
unfolding over both
over_both s t m = fun_ext (λ w. go (s w) (t w) (m w))
  where
    go : (o p : Option ℕ) (x : ℕ) → or_else (first_of o p) x ≡ or_else o (or_else p x)
    go none p x = refl
    go (some y) p x = refl

-- The part of a group that a cut lets land is a group: the words that `kept` names.
unfoldable pub part : Stores → (ℕ → Bool) → Stores
part s kept w = cond (kept w) (s w) none

pub part_none : (s : Stores) (kept : ℕ → Bool) (w : ℕ) → s w ≡ none → part s kept w ≡ none
unfolding part
part_none s kept w e = by_bool (kept w) (λ h. rw h e) (λ h. rw h)

-- one word lands or not
pub part_one : (t x : ℕ) (kept : ℕ → Bool) (m : Mem)
    → (over (part (one_word t x) kept) m ≡ m) ⊎ (over (part (one_word t x) kept) m ≡ over (one_word t x) m)
unfolding part
part_one t x kept m =
    by_bool (kept t)
    (λ h. inr (fun_ext (λ w. by_eq w t (λ e. rw e (over_some _ m t x (rw h (one_here t x)) ∙ sym (over_here t x m)))
    (λ e. rest w e ∙ sym (over_other t x m w e)))))
    (λ h. inl (fun_ext (λ w. by_eq w t (λ e. rw e (over_none _ m t (rw h))) (rest w))))
  where
    rest : (w : ℕ) → (w ≡ t → ⊥) → over (part (one_word t x) kept) m w ≡ m w
    rest w e = over_none (part (one_word t x) kept) m w (part_none (one_word t x) kept w (one_other t x w e))

-- What a group stores: R holds of each word that is stored and its value.
abbrev pub Each : (ℕ → ℕ → Type 0) → Stores → Type 0
Each R s = (w x : ℕ) → s w ≡ some x → R w x

-- a group stores only words of which Q holds; the laws of Each serve it
abbrev pub Only : (ℕ → Type 0) → Stores → Type 0
Only Q s = (w x : ℕ) → s w ≡ some x → Q w

module _ (R : ℕ → ℕ → Type 0) where
  pub only_none : Each R (λ w. none)
  only_none w x e = not_some x e

  pub only_word : (t y : ℕ) → R t y → Each R (one_word t y)
  unfolding one_word
  only_word t y r w x e =
      let c = cond_some (eqb w t) (some y) x e in
      let q : y ≡ x = cc in
      rw (eqb-true w t c.0, ← q) r

  pub only_run : (i n : ℕ) (f : ℕ → ℕ) → ((j : ℕ) → j < n → R (i + j) (f j)) → Each R (run i n f)
  unfolding run
  only_run i n f q w x e =
      let c = cond_some (leb i w && ltb w (i + n)) (some (f (w - i))) x e in
      let b = c.0 in
      let g : i ≤ w = leb-true i w (search ands) in
      let h : w < i + n = ltb-true w (i + n) (search ands) in
      let k : i + (w - i) ≡ w = omega arith in
      let y : f (w - i) ≡ x = cc in
      rw (k, y) at (q (w - i) (omega arith))

module _ {R : ℕ → ℕ → Type 0} where
  pub only_both : {s t : Stores} → Each R s → Each R t → Each R (both s t)
  unfolding both
  only_both {s} {t} f g w x e = ⊎_elim (f w x) (g w x) (first_cases (s w) (t w) x e)

  pub only_if_lem : (b : Bool) {s : Stores} → (b ≡ true → Each R s) → Each R (only_if b s)
  unfolding only_if
  only_if_lem b {s} f w x e = let c = cond_some b (s w) x e in f c.0 w x c.1

  pub only_part : {s : Stores} (kept : ℕ → Bool) → Each R s → Each R (part s kept)
  unfolding part
  only_part {s} kept f w x e = f w x (cond_some (kept w) (s w) x e).1

  pub only_imp : {T : ℕ → ℕ → Type 0} {s : Stores} → ((w x : ℕ) → R w x → T w x) → Each R s → Each T s
  only_imp i f w x e = i w x (f w x e)

  -- any other word is left alone
  pub only_not : {s : Stores} → Each R s → (w : ℕ) → ((x : ℕ) → R w x → ⊥) → s w ≡ none
  only_not {s} f w n = go (s w) refl
    where
      go : (o : Option ℕ) → s w ≡ o → s w ≡ none
      go none e = e
      go (some x) e = absurd (n x (f w x e))

-- each word stays or is one of which Q holds
pub only_cases : {Q : ℕ → Type 0} {s : Stores} → Only Q s → (m : Mem) (w : ℕ) → (over s m w ≡ m w) ⊎ Q w
only_cases {Q = Q} {s = s} f m w = go (s w) refl
  where
    go : (o : Option ℕ) → s w ≡ o → (over s m w ≡ m w) ⊎ Q w
    go none e = inl (over_none s m w e)
    go (some x) e = inr (f w x e)
