-- One log of an append: what the definitions say of its page, its slots and its fresh pages is what is laid from a place on.
use Rattle.model.proofs.Prelude.{ℕ, ◌+◌, ◌≡◌, refl, sym, ◌∙◌, Bool, true, false, cond, ◌&&◌, not, List, [], ◌∷◌, ◌++◌, arith, eqb, length, get_or, drop, drop-append_seam, eq-eqb, ne_eqb, eqb-true}
use Rattle.model.specs.Lists.{lowest_few}
use Rattle.model.specs.Words.{Mem}
use Rattle.model.specs.Layout.{head_word, tail_word}
use Rattle.model.specs.Log.{tail_slots}
use Rattle.model.specs.Stores.{one_word, both, only_if}
use Rattle.model.specs.Calls as calls
use Rattle.model.specs.Calls.{lay_entries, lay_pages, tail_after, tail_pages, besides, data_pages, appended, old_pages, old_slots, fresh_pages, fresh_log, prepared, new_tail, own_changes, pages_left}
use Rattle.model.proofs.Tests.{by_eq, by_bool, and_right}
use Rattle.model.proofs.Lists.{few_none}
use Rattle.layout.specs.declared.Sizes.{Sizes}
use Rattle.laying.specs.declared.Laid.{Laid}
use Rattle.laying.specs.Laying.{page_of, slots_at, needed_at, fresh_from, pages_behind, to_lay, tail_behind, head_behind, left_behind}
use Rattle.laying.proofs.Steps.{no_need}
use Rattle.append.specs.Appended.{old_tail, head_of}
use Rattle.append.proofs.Taking.{few_split}

-- The append X: its log goes on or is written anew.
module _ (u : Mem) (P : ℕ) (f : ℕ → Bool) (X : calls.Append) where
  abbrev t : ℕ
  t = old_tail u X.anew X.log

  pages_by : (x : Bool) (k : ℕ) → cond x [] (tail_pages u k) ≡ page_of (cond x 0 (u (tail_word k)))
  unfolding page_of tail_pages
  pages_by true k = refl
  pages_by false k = refl

  slots_by : (x : Bool) (k : ℕ) → cond x 0 (tail_slots u k) ≡ slots_at (cond x 0 (u (tail_word k)))
  slots_by true k = refl
  slots_by false k = refl

  head_by : (x : Bool) (k : ℕ) → not x && eqb (u (tail_word k)) 0 ≡ not x && eqb (cond x 0 (u (tail_word k))) 0
  head_by true k = refl
  head_by false k = refl

  old_pages_lem : old_pages u P f X ≡ page_of t
  unfolding old_pages old_tail
  old_pages_lem = pages_by X.anew X.log

  old_slots_lem : old_slots u P f X ≡ slots_at t
  unfolding old_slots old_tail
  old_slots_lem = slots_by X.anew X.log

  pub fresh_is : fresh_pages u P f X ≡ needed_at t (length (appended u P f X))
  unfolding fresh_pages needed_at
  fresh_is = rw (old_pages_lem, old_slots_lem)

  abbrev may : ℕ → Bool
  may = besides f (data_pages u P f X)

  -- its n entries are laid from g on
  module _ (b : List ℕ) (s : Sizes) (g : Laid) (n : ℕ) (et : g.tail ≡ t) (eh : g.head ≡ 0) (en : length (appended u P f X) ≡ n)
      (seeks : (j : ℕ) → fresh_from b s g j ≡ lowest_few may P 0 j) where
    log_fresh : fresh_log u P f X ≡ fresh_from b s g (needed_at g.tail n)
    unfolding fresh_log
    log_fresh = rw (fresh_is, en, ← et) (sym (seeks (needed_at g.tail n)))

    log_entries_lem : lay_entries (old_pages u P f X ++ fresh_log u P f X) (old_slots u P f X) (appended u P f X) ≡ to_lay b s g (appended u P f X)
    unfolding to_lay pages_behind
    log_entries_lem = rw (old_pages_lem, old_slots_lem, log_fresh, en, ← et)

    -- the head of a log that had no page
    log_head : t ≡ 0 → get_or (fresh_log u P f X) 0 0 ≡ head_behind b s g n
    unfolding head_behind
    log_head z =
        by_eq n 0
        (λ o.
        let h : needed_at g.tail n ≡ 0 = rw o (no_need g.tail (omega arith)) in
        let w : fresh_from b s g 0 ≡ [] = few_none _ _ _ in
        rw (log_fresh, h, w, eq-eqb n 0 o, eh))
        (λ o. rw (log_fresh, ne_eqb n 0 o, eq-eqb g.tail 0 (et ∙ z)))

    head_if : (x : Bool) (w y z : ℕ) → (x ≡ true → y ≡ z) → only_if x (one_word w y) ≡ only_if x (one_word w z)
    unfolding only_if
    head_if x w y z h = by_bool x (λ e. rw (h e)) (λ e. rw e)

    pub log_prepared : prepared u P f X
        ≡ both (to_lay b s g (appended u P f X)) (both (head_of X.anew X.log g.tail (head_behind b s g n)) (lay_pages (data_pages u P f X) X.words))
    unfolding prepared head_of old_tail
    log_prepared =
        let i : not X.anew && eqb (u (tail_word X.log)) 0 ≡ not X.anew && eqb g.tail 0 = rw et (head_by X.anew X.log) in
        rw (log_entries_lem, i, head_if _ (head_word X.log) _ _ (λ e. log_head (sym et ∙ eqb-true g.tail 0 (and_right (not X.anew) _ e))))

    -- what commits it
    module _ (some : n ≡ 0 → t ≡ 0) where
      log_tail : new_tail u P f X ≡ (tail_word X.log, tail_behind b s g n)
      unfolding new_tail tail_behind tail_after pages_behind
      log_tail =
          rw (en, old_pages_lem, old_slots_lem, log_fresh, ← et)
          (by_eq n 0 (λ o. let z : g.tail ≡ 0 = et ∙ some o in rw (eq-eqb n 0 o, z)) (λ o. rw (ne_eqb n 0 o)))

      changes_by : (x : Bool) → X.anew ≡ x
          → cond x ((head_word X.log, get_or (fresh_log u P f X) 0 0) ∷ new_tail u P f X ∷ []) (new_tail u P f X ∷ [])
          ≡ cond x ((head_word X.log, head_behind b s g n) ∷ []) [] ++ ((tail_word X.log, tail_behind b s g n) ∷ [])
      unfolding old_tail
      changes_by true e = rw (log_tail, log_head (rw e))
      changes_by false e = rw log_tail

      pub log_changes : own_changes u P f X ≡ cond X.anew ((head_word X.log, head_behind b s g n) ∷ []) [] ++ ((tail_word X.log, tail_behind b s g n) ∷ [])
      unfolding own_changes
      log_changes = changes_by X.anew refl

    -- and what may be taken after it
    pub log_left : length (fresh_from b s g (needed_at g.tail n)) ≡ needed_at g.tail n → (r : Laid)
        → ((j : ℕ) → fresh_from b s r j ≡ left_behind b s g n j) → (j : ℕ) → fresh_from b s r j ≡ lowest_few (pages_left u P f X) P 0 j
    unfolding left_behind pages_left
    log_left e r h j =
        let d = needed_at g.tail n in
        let xs = lowest_few may P 0 d in
        let w : fresh_log u P f X ≡ xs = log_fresh ∙ seeks d in
        let c : length xs ≡ d = rw (seeks d) at e in
        let z : drop (length xs) (xs ++ lowest_few (besides may xs) P 0 j) ≡ lowest_few (besides may xs) P 0 j = drop-append_seam xs _ in
        h j ∙ rw (seeks (d + j), few_split may P 0 d j, w) (rw c at z)
