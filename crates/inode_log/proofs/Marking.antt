-- The walk that marks: what its turns that are left answer of the marks so far is what the whole walk answers of the marks at first.
use Rattle.model.proofs.Prelude.{ℕ, zero, suc, ◌-◌, ◌≤◌, ◌<◌, ◌≡◌, refl, sym, ◌∙◌, Bool, true, false, not, List, [], ◌∷◌, Option, none, some, arith, sub-one, eqb, get_or, set, eq-eqb, ne_eqb, not-true, not-false}
use Rattle.model.specs.Words.{Mem}
use Rattle.model.specs.Layout.{footer, in_pages}
use Rattle.model.specs.Log.{walk, onto}
use Rattle.model.proofs.Tests.{by_bool, by_eq, no}
use Rattle.model.proofs.Frame.Placed.{in_bounds}
use Rattle.marks.specs.Marks.{fresh, marked, Walked}

-- whatever is answered and left of a walk o with the marks u is answered and left of the walk o₀ with the marks u₀
pub record Onward (o : Option (List ℕ)) (u : List ℕ) (o₀ : Option (List ℕ)) (u₀ : List ℕ) : Type 0 where
  pub whole : (r : Bool) (v : List ℕ) → Walked o u r v → Walked o₀ u₀ r v

-- A walk that does not end.
pub not_walked : (o : Option (List ℕ)) (u v : List ℕ) → o ≡ none → Walked o u false v
not_walked o u v e = record { answer = rw e; list = λ y. no y }

-- One page is taken: u are the marks before and v after, f is what `take` answered.
module _ (p : ℕ) (u v : List ℕ) (f : Bool) (e : f ≡ eqb (get_or u p 0) 0) (s : v ≡ set u p 1) where
  took : not f ≡ false → eqb (get_or u p 0) 0 ≡ true
  took n = sym e ∙ not-false f n

  onto_walked : (o : Option (List ℕ)) (r : Bool) (w : List ℕ) → not f ≡ false → Walked o v r w → Walked (onto p o) u r w
  unfolding fresh marked
  onto_walked none r w n g = record { answer = g.answer; list = λ y. no (sym g.answer ∙ y) }
  onto_walked (some ps) r w n g = record { answer = rw (took n, ← s) g.answer; list = λ y. rw (← s) (g.list y) }

  last_walked : not f ≡ false → Walked (some (p ∷ [])) u true v
  unfolding fresh marked
  last_walked n = record { answer = rw (took n); list = λ _. s }

  onto_not : (o : Option (List ℕ)) → not f ≡ true → Walked (onto p o) u false v
  unfolding fresh
  onto_not none n = record { answer = refl; list = λ y. no y }
  onto_not (some ps) n = record { answer = rw (sym e ∙ not-true f n); list = λ y. no y }

-- A page is below P.
pub page_bound : (P N x : ℕ) → in_pages P N x ≡ true → x ≤ P - 1
page_bound P N x i = let b = in_bounds P N x i in omega arith

-- A number x that `is_page` was asked, and what it answered, g.
module _ (P N x : ℕ) (g : Bool) (e : g ≡ in_pages P N x) where
  pub page_in : g ≡ true → in_pages P N x ≡ true
  page_in y = sym e ∙ y

  page_out : g ≡ false → in_pages P N x ≡ false
  page_out y = sym e ∙ y

  pub page_fits : g ≡ true → x ≤ P - 1
  page_fits y = page_bound P N x (page_in y)

module _ (m : Mem) (P N : ℕ) where
  -- a walk from a page that is none, or to one, does not end
  walk_out : (n p q : ℕ) → in_pages P N p ≡ false → walk m P N n p q ≡ none
  unfolding walk
  walk_out zero p q i = refl
  walk_out (suc n) p q i = rw (walk, i)

  never_there : (n p q : ℕ) → in_pages P N q ≡ false → walk m P N n p q ≡ none
  unfolding walk
  never_there zero p q i = refl
  never_there (suc n) p q i =
      by_bool (in_pages P N p)
      (λ j. by_eq p q (λ e. no (sym i ∙ rw (← e) j)) (λ e. rw (walk, j, ne_eqb p q e, never_there n (m (footer p)) q i)))
      (λ j. walk_out (suc n) p q j)

  walk_last : (n p q : ℕ) → in_pages P N p ≡ true → 0 < n → p ≡ q → walk m P N n p q ≡ some (p ∷ [])
  unfolding walk
  walk_last zero p q i l d = absurd (omega arith)
  walk_last (suc n) p q i l d = rw (walk, i, eq-eqb p q d)

  walk_next : (n p q : ℕ) → in_pages P N p ≡ true → 0 < n → (p ≡ q → ⊥) → walk m P N n p q ≡ onto p (walk m P N (n - 1) (m (footer p)) q)
  unfolding walk
  walk_next zero p q i l d = absurd (omega arith)
  walk_next (suc n) p q i l d = rw (walk, i, ne_eqb p q d, sub-one)

  -- The whole walk, from the head h to the tail's page q, with the marks u: g is what `is_page` answered of one of them.
  module _ (h q : ℕ) (u : List ℕ) where
    pub walk_no_end : (g : Bool) → g ≡ in_pages P N q → g ≡ false → Walked (walk m P N P h q) u false u
    walk_no_end g e y = not_walked (walk m P N P h q) u u (never_there P h q (page_out P N q g e y))

    pub walk_no_head : (g : Bool) → g ≡ in_pages P N h → g ≡ false → Walked (walk m P N P h q) u false u
    walk_no_head g e y = not_walked (walk m P N P h q) u u (walk_out P h q (page_out P N h g e y))

    -- what is left of the walk before its first turn is the whole of it
    pub walk_starts : Onward (walk m P N P h q) u (walk m P N P h q) u
    walk_starts = record { whole = λ r v w. w }

  -- The loop: n turns are left, from page p to page q, with the marks u; v and f are as above.
  module _ (n p q : ℕ) (u u₀ : List ℕ) (o₀ : Option (List ℕ)) (on : Onward (walk m P N n p q) u o₀ u₀) where
    pub walk_spent : n ≤ 0 → Walked o₀ u₀ false u
    unfolding walk
    walk_spent l = let z : n ≡ 0 = omega arith in on.whole false u (not_walked (walk m P N n p q) u u (rw z))

    module _ (i : in_pages P N p ≡ true) (l : 0 < n) (v : List ℕ) (f : Bool) (g : f ≡ eqb (get_or u p 0) 0) (s : v ≡ set u p 1) where
      pub walk_taken : not f ≡ true → Walked o₀ u₀ false v
      walk_taken y =
          on.whole false v
          (by_eq p q
          (λ d. rw (walk_last n p q i l d) (onto_not p u v f g s (some []) y))
          (λ d. rw (walk_next n p q i l d) (onto_not p u v f g s (walk m P N (n - 1) (m (footer p)) q) y)))

      pub walk_done : not f ≡ false → p ≡ q → Walked o₀ u₀ true v
      walk_done y d = on.whole true v (rw (walk_last n p q i l d) (last_walked p u v f g s y))

      -- x is the footer that the code read, at word a
      module _ (y : not f ≡ false) (d : p ≡ q → ⊥) (a x : ℕ) (j : a ≡ footer p) (k : x ≡ m a) where
        onto_rest : walk m P N n p q ≡ onto p (walk m P N (n - 1) x q)
        onto_rest = rw (k, j) (walk_next n p q i l d)

        pub walk_lost : (b : Bool) → b ≡ in_pages P N x → b ≡ false → Walked o₀ u₀ false v
        walk_lost b e z =
            let o = not_walked (walk m P N (n - 1) x q) v v (walk_out (n - 1) x q (page_out P N x b e z)) in
            on.whole false v (rw onto_rest (onto_walked p u v f g s (walk m P N (n - 1) x q) false v y o))

        -- k turns are left then
        pub walk_turn : (k : ℕ) → k ≡ n - 1 → Onward (walk m P N k x q) v o₀ u₀
        walk_turn k t =
            record { whole = λ b w h. on.whole b w (rw onto_rest (onto_walked p u v f g s (walk m P N (n - 1) x q) b w y (rw (← t) h))) }
