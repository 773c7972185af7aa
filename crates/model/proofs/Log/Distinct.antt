-- A log has no page twice: from a page on a chain goes only one way, so a page that stood twice would have two distances from the end.
use Rattle.model.proofs.Prelude.{◌≡◌, refl, sym, ◌∙◌, ap, subst, ⊎_elim, ℕ, suc, ◌/◌, ◌≤◌, ◌<◌, true, false, List, [], ◌∷◌, ◌++◌, some, arith, length, ltb-true}
use Rattle.model.specs.Words.{Mem}
use Rattle.model.specs.Lists.{all, has, distinct}
use Rattle.model.specs.Layout.{tail_word, in_pages}
use Rattle.model.specs.Log.{log_pages}
use Rattle.model.proofs.Tests.{by_bool, by_eq, no, ands}
use Rattle.model.proofs.Lists.{has_cons, has_append, count_append, count_none, count_once, fit, all_has}
use Rattle.model.proofs.Log.Chain.{Chain, chain_inside}
use Rattle.model.proofs.Log.Pages.{log_chain, log_empty}

module _ (m : Mem) (P N q : ℕ) where
  same_way : (p : ℕ) (ps rs : List ℕ) → Chain m P N q (p ∷ ps) → Chain m P N q (p ∷ rs) → length ps ≡ length rs
  same_way p [] [] c d = refl
  same_way p [] (r ∷ rs) c d = absurd (d.1 c.1)
  same_way p (x ∷ ps) [] c d = absurd (c.1 d.1)
  same_way p (x ∷ ps) (r ∷ rs) c d =
      let e : r ≡ x = sym d.2 ∙ c.2 in ap suc (same_way x ps rs c.3 (subst (λ t. Chain m P N q (t ∷ rs)) e d.3))

  -- the chain from page x on
  way_from : (x p : ℕ) (ps : List ℕ) → Chain m P N q (p ∷ ps) → has x (p ∷ ps) ≡ true → (rs : List ℕ) × Chain m P N q (x ∷ rs) × (length rs ≤ length ps)
  unfolding has
  way_from x p [] c h = ⊎_elim (λ e. ([], rw e c, omega arith)) no (has_cons x p [] h)
  way_from x p (r ∷ ps) c h =
      ⊎_elim (λ e. (r ∷ ps, rw e c, omega arith)) (λ g. let w = way_from x r ps c.3 g in (w.0, w.1, omega arith)) (has_cons x p (r ∷ ps) h)

  chain_distinct : (ps : List ℕ) → Chain m P N q ps → distinct ps ≡ true
  unfolding distinct has
  chain_distinct [] c = refl
  chain_distinct (p ∷ []) c = refl
  chain_distinct (p ∷ r ∷ ps) c =
      by_bool (has p (r ∷ ps))
      (λ h. let w = way_from p r ps c.3 h in let e = same_way p (r ∷ ps) w.0 c w.1 in absurd (omega arith))
      (λ h. rw (distinct, h) (chain_distinct (r ∷ ps) c.3))

module _ (u : Mem) (P N k : ℕ) where
  pub log_distinct : (ps : List ℕ) → log_pages u P N k ≡ some ps → (distinct ps ≡ true) × (length ps ≤ P)
  unfolding distinct
  log_distinct ps e =
      by_eq (u (tail_word k)) 0 (λ z. rw (← (log_empty u P N k ps e z)) (refl, omega arith))
      (λ z. let c = log_chain u P N k ps e z in (chain_distinct u P N (u (tail_word k) / 512) ps c.0, c.2))

  pub log_inside : (ps : List ℕ) → log_pages u P N k ≡ some ps → all (in_pages P N) ps ≡ true
  unfolding all
  log_inside ps e =
      by_eq (u (tail_word k)) 0 (λ z. rw (← (log_empty u P N k ps e z)))
      (λ z. chain_inside u P N (u (tail_word k) / 512) ps (log_chain u P N k ps e z).0)

-- Pages of the volume, each once, are at most P.

pub inside_at : (P N x : ℕ) (ps : List ℕ) → all (in_pages P N) ps ≡ true → has x ps ≡ true → (N / 8 < x) × (x < P)
unfolding in_pages
inside_at P N x ps a h = let b = all_has (in_pages P N) x ps a h in (ltb-true (N / 8) x (search ands), ltb-true x P (search ands))

pub few_pages : (P N : ℕ) (old ls : List ℕ) → all (in_pages P N) old ≡ true → all (in_pages P N) ls ≡ true
    → distinct old ≡ true → distinct ls ≡ true → ((x : ℕ) → has x old ≡ true → has x ls ≡ false) → length (old ++ ls) ≤ P
few_pages P N old ls a b d e new =
    fit P (old ++ ls) (λ x h. ⊎_elim (λ g. (inside_at P N x old a g).1) (λ g. (inside_at P N x ls b g).1) (has_append x old ls h))
    (λ x.
    rw count_append (by_bool (has x old)
    (λ h. let c = count_none x ls (new x h) in let f = count_once x old d in omega arith)
    (λ h. let c = count_none x old h in let f = count_once x ls e in omega arith)))
