-- What a call stores before its commit: words that no reading looks at, outside page 0. Free pages, the words past a tail, the head of an
-- empty log, and head, tail and type of an invalid inode are such words.
use Rattle.model.proofs.Prelude.{◌≡◌, refl, inl, inr, ⊎_elim, ℕ, ◌/◌, ◌≤◌, ◌<◌, Bool, true, false, cond, ◌&&◌, not, List, [], ◌∷◌, ◌++◌, arith, eqb, eqb-true, eq-eqb, ne_eqb}
use Rattle.model.specs.Lists.{has}
use Rattle.model.specs.Words.{Mem}
use Rattle.model.specs.Layout.{head_word, tail_word, type_word}
use Rattle.model.specs.Log.{tail_slots}
use Rattle.model.specs.Accept.{is_valid, free, view_ok}
use Rattle.model.specs.Stores.{Stores, one_word, both, only_if}
use Rattle.model.specs.Calls.{Append, lay_entries, lay_pages, tail_pages, data_pages, appended, old_pages, old_slots, fresh_pages, fresh_log, prepared}
use Rattle.model.proofs.Tests.{by_eq, no}
use Rattle.model.proofs.Lists.{has_cons}
use Rattle.model.proofs.Log.Extend.{tail_slots_lem}
use Rattle.model.proofs.Log.Live.{lay_in, lay_first}
use Rattle.model.proofs.Frame.Placed.{in_bounds}
use Rattle.model.proofs.Frame.Inode.{full, page_in, tail_page}
use Rattle.model.proofs.Frame.View.{log_ok_lem}
use Rattle.model.proofs.Frame.Dead.{Dead, in_free, past_tail, head, tail, type}
use Rattle.model.proofs.Crash.Stores.{Only, only_both, only_if_lem, only_word}
use Rattle.model.proofs.Calls.Room.{free_bounds, Room, pages_in}

-- a word that no reading of u looks at, outside page 0
abbrev pub Still : Mem → ℕ → ℕ → ℕ → Type 0
Still u P N w = Dead u P N w × (64 ≤ w)

module _ (u : Mem) (P N : ℕ) where
  still_free : (w : ℕ) → free u P N (w / 64) ≡ true → Still u P N w
  still_free w e = let b = free_bounds u P N (w / 64) e in (in_free e, omega arith)

  -- entries laid on free pages
  pub still_lay : (ls : List ℕ) (i : ℕ) (es : List (List ℕ)) → ((x : ℕ) → has x ls ≡ true → free u P N x ≡ true)
      → Only (Still u P N) (lay_entries ls i es)
  still_lay ls i es f w x e = still_free w (f (w / 64) (lay_in ls i es w x e))

  -- data laid into free pages
  still_pages : (ds : List ℕ) (f : ℕ → ℕ) → ((x : ℕ) → has x ds ≡ true → free u P N x ≡ true) → Only (Still u P N) (lay_pages ds f)
  still_pages ds f g w x e = still_free w (g (w / 64) (pages_in ds f w x e))

  -- head, tail and type of an invalid inode
  pub still_inode : (i x y t : ℕ) → i < N → is_valid u i ≡ false
      → Only (Still u P N) (both (one_word (head_word i) x) (both (one_word (tail_word i) y) (one_word (type_word i) t)))
  still_inode i x y t l v =
      only_both
      (only_word (λ w x. Still u P N w) (head_word i) x (head i l refl (inl v), omega arith))
      (only_both
      (only_word (λ w x. Still u P N w) (tail_word i) y (tail i l refl v, omega arith))
      (only_word (λ w x. Still u P N w) (type_word i) t (type i l refl (inl v), omega arith)))

  module _ (ok : view_ok u P N ≡ true) (k : ℕ) (l : k < N) (v : is_valid u k ≡ true) where
    -- entries laid behind a log
    still_behind : (ls : List ℕ) (es : List (List ℕ)) → ((x : ℕ) → has x ls ≡ true → free u P N x ≡ true)
        → Only (Still u P N) (lay_entries (tail_pages u k ++ ls) (tail_slots u k) es)
    unfolding tail_pages
    still_behind ls es f w x e =
        by_eq (u (tail_word k)) 0
        (λ t. still_lay ls (tail_slots u k) es f w x (rw (eq-eqb _ _ t) at e))
        (λ t.
        let o = log_ok_lem u P N ok k l v in
        let s = tail_slots_lem (u (tail_word k)) (full u P N k o t).3 in
        let q = u (tail_word k) / 512 in
        let b = in_bounds P N q (page_in u P N k o q (tail_page u P N k o t)) in
        let e' = rw (ne_eqb _ _ t) at e in
        ⊎_elim (λ c. let g = lay_first q ls (tail_slots u k) es w x (omega arith) e' c in (past_tail k l v t c (omega arith), omega arith))
        (λ h. still_free w (f (w / 64) h)) (has_cons (w / 64) q ls (lay_in (q ∷ ls) (tail_slots u k) es w x e')))

    -- the first group: b says whether the log is written anew, and s stores the data
    still_log : (b : Bool) (ls : List ℕ) (es : List (List ℕ)) (x : ℕ) → ((p : ℕ) → has p ls ≡ true → free u P N p ≡ true)
        → (s : Stores) → Only (Still u P N) s
        → Only (Still u P N) (both (lay_entries (cond b [] (tail_pages u k) ++ ls) (cond b 0 (tail_slots u k)) es)
        (both (only_if (not b && eqb (u (tail_word k)) 0) (one_word (head_word k) x)) s))
    still_log true ls es x f s g = only_both (still_lay ls 0 es f) (only_both (only_if_lem false (λ t. no t)) g)
    still_log false ls es x f s g =
        only_both (still_behind ls es f) (only_both
        (only_if_lem (eqb (u (tail_word k)) 0)
        (λ t. only_word (λ w x. Still u P N w) (head_word k) x (head k l refl (inr (eqb-true _ _ t)), omega arith))) g)

  -- the first group of an append, which takes pages of which f holds
  pub still_prepared : view_ok u P N ≡ true → (f : ℕ → Bool) (a : Append) → a.log < N → is_valid u a.log ≡ true
      → Room u P N (data_pages u P f a) a.count (fresh_log u P f a) (fresh_pages u P f a) → Only (Still u P N) (prepared u P f a)
  unfolding prepared old_pages old_slots
  still_prepared ok f a l v r =
      still_log ok a.log l v a.anew (fresh_log u P f a) (appended u P f a) _ r.for_log.unused
      _ (still_pages (data_pages u P f a) a.words r.for_data.unused)
