-- New entries are laid outside the live words of a log: on pages that are not its own, or behind the slots of its last page.
use Rattle.model.proofs.Prelude.{◌≡◌, sym, ◌∙◌, ℕ, ◌+◌, ◌*◌, ◌/◌, ◌%◌, ◌≤◌, ◌<◌, true, false, List, ◌∷◌, none, some, arith, length, eq-eqb, ne_eqb, lt-ltb, le-ltb, lt-leb}
use Rattle.model.specs.Lists.{has, index_of}
use Rattle.model.specs.Calls.{lay_entries}
use Rattle.model.proofs.Tests.{by_bool, by_lt, not_some}
use Rattle.model.proofs.Lists.{index_none}

-- what is laid stands on its pages
pub lay_page : (ps : List ℕ) (i : ℕ) (es : List (List ℕ)) (w : ℕ) → has (w / 64) ps ≡ false → lay_entries ps i es w ≡ none
unfolding lay_entries
lay_page ps i es w h = rw (lay_entries, index_none (w / 64) ps h, le-ltb (length ps) (length ps) (omega arith))

-- in the first page nothing is laid before slot i
lay_early : (q i w : ℕ) (ls : List ℕ) (es : List (List ℕ)) → i ≤ 7 → w / 64 ≡ q → w % 64 < 8 * i → lay_entries (q ∷ ls) i es w ≡ none
unfolding lay_entries index_of
lay_early q i w ls es l e g =
    rw (
      lay_entries,
      index_of,
      eq-eqb (w / 64) q e,
      lt-ltb 0 (length (q ∷ ls)) (omega arith),
      ne_eqb (w % 64) 56 (omega arith),
      lt-ltb (w % 64) 56 (omega arith),
      lt-leb i (7 * 0 + w % 64 / 8) (omega arith),
    )

-- so what is laid is laid into the pages, and in the first of them from slot i on
pub lay_in : (ps : List ℕ) (i : ℕ) (es : List (List ℕ)) (w x : ℕ) → lay_entries ps i es w ≡ some x → has (w / 64) ps ≡ true
lay_in ps i es w x e = by_bool (has (w / 64) ps) (λ h. h) (λ h. not_some x (sym (lay_page ps i es w h) ∙ e))

pub lay_first : (p : ℕ) (ps : List ℕ) (i : ℕ) (es : List (List ℕ)) (w x : ℕ) → i ≤ 7 → lay_entries (p ∷ ps) i es w ≡ some x → w / 64 ≡ p
    → 8 * i ≤ w % 64
lay_first p ps i es w x l e q = by_lt (w % 64) (8 * i) (λ h. not_some x (sym (lay_early p i w ps es l q h) ∙ e)) (λ h. h)
