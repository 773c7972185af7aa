-- One turn of a loop that reads a log by steps: at a cursor that is inside and not at the end the step is safe, and what it hands
-- back is the first of the entries that are left.
use Rattle.model.proofs.Prelude.{ℕ, zero, suc, ◌+◌, ◌*◌, ◌-◌, ◌≤◌, ◌<◌, ◌≡◌, refl, true, ◌&&◌, [], ◌∷◌, arith, sub-one, ltb, leb, length, eq-eqb, ne_eqb, ltb-true, le-leb}
use Rattle.model.specs.Lists.{all}
use Rattle.model.specs.Words.{Mem}
use Rattle.model.specs.Entry.{entry_at}
use Rattle.model.proofs.Tests.{by_eq, ands, cond_and}
use Rattle.inode_log.specs.Steps.{landing, step_at, words_from, entries_from, within}
use Rattle.inode_log.specs.declared.Step.{Step}

-- The entries that are left, and their first words.

pub next_words : (n : ℕ) (m : Mem) (from end : ℕ) → 0 < n → (from ≡ end → ⊥)
    → words_from n m from end ≡ 8 * landing m from ∷ words_from (n - 1) m (landing m from + 1) end
unfolding words_from
next_words zero m from end l d = absurd (omega arith)
next_words (suc n) m from end l d = rw (words_from, ne_eqb from end d, sub-one)

pub no_words_lem : (n : ℕ) (m : Mem) (from end : ℕ) → from ≡ end → words_from n m from end ≡ []
unfolding words_from
no_words_lem zero m from end d = refl
no_words_lem (suc n) m from end d = rw (words_from, eq-eqb from end d)

pub spent_words : (n : ℕ) (m : Mem) (from end : ℕ) → n ≤ 0 → words_from n m from end ≡ []
unfolding words_from
spent_words zero m from end l = refl
spent_words (suc n) m from end l = absurd (omega arith)

pub next_entries : (n : ℕ) (m : Mem) (from end : ℕ) → 0 < n → (from ≡ end → ⊥)
    → entries_from n m from end ≡ entry_at m (8 * landing m from) ∷ entries_from (n - 1) m (landing m from + 1) end
unfolding entries_from
next_entries n m from end l d = rw (next_words n m from end l d)

pub no_entries : (n : ℕ) (m : Mem) (from end : ℕ) → from ≡ end → entries_from n m from end ≡ []
unfolding entries_from
no_entries n m from end d = rw (no_words_lem n m from end d)

pub spent_entries : (n : ℕ) (m : Mem) (from end : ℕ) → n ≤ 0 → entries_from n m from end ≡ []
unfolding entries_from
spent_entries n m from end l = rw (spent_words n m from end l)

-- The step.

inside : (n : ℕ) (m : Mem) (P from end : ℕ) → within n m P from end ≡ true → 0 < n → (from ≡ end → ⊥)
    → (from < 8 * P) × (landing m from < 8 * P) × (within (n - 1) m P (landing m from + 1) end ≡ true)
unfolding within
inside zero m P from end w l d = absurd (omega arith)
inside (suc n) m P from end w l d =
    let x = cond_and (ltb from (8 * P) && ltb (landing m from) (8 * P)) (within n m P (landing m from + 1) end) (rw (ne_eqb from end d) at w) in
    let y = x.0 in
    (ltb-true from (8 * P) (search ands), ltb-true (landing m from) (8 * P) (search ands), rw sub-one x.1)

module _ (n : ℕ) (m : Mem) (P from end : ℕ) (w : within n m P from end ≡ true) (l : 0 < n) (d : from ≡ end → ⊥) where
  pub step_here : (L : ℕ) → 512 * P ≤ L → 64 * from + 8 ≤ L
  step_here L h = let i = inside n m P from end w l d in omega arith

  pub step_there : (L : ℕ) → 512 * P ≤ L → 64 * landing m from + 64 ≤ L
  step_there L h = let i = inside n m P from end w l d in omega arith

  pub step_low : P ≤ 4096 → landing m from < 32768
  step_low h = let i = inside n m P from end w l d in omega arith

  pub within_turn : (r : Step) → r ≡ step_at m from → within (n - 1) m P r.next.place end ≡ true
  within_turn r e = rw e (inside n m P from end w l d).2

-- All words.

pub words_inside : (n : ℕ) (m : Mem) (P from end L : ℕ) → within n m P from end ≡ true → 512 * P ≤ L
    → all (λ (w : ℕ). leb (8 * w + 64) L) (words_from n m from end) ≡ true
unfolding all words_from
words_inside zero m P from end L h b = refl
words_inside (suc n) m P from end L h b =
    by_eq from end (λ d. rw (no_words_lem (suc n) m from end d))
    (λ d.
    let i = inside (suc n) m P from end h (omega arith) d in
    let r = words_inside n m P (landing m from + 1) end L (rw sub-one at i.2) b in
    rw (next_words (suc n) m from end (omega arith) d, sub-one, all, le-leb (8 * (8 * landing m from) + 64) L (omega arith)) r)

pub words_few : (n : ℕ) (m : Mem) (from end : ℕ) → length (words_from n m from end) ≤ n
unfolding words_from
words_few zero m from end = omega arith
words_few (suc n) m from end =
    by_eq from end (λ d. rw (no_words_lem (suc n) m from end d) (omega arith))
    (λ d. let r = words_few n m (landing m from + 1) end in rw (next_words (suc n) m from end (omega arith) d, sub-one) (omega arith))
