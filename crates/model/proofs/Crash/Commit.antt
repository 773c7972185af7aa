-- What a power cut leaves of a call's groups: the part of the claim that is the same for all calls.
-- Up to the one store that commits, the view differs from the one before in dead words alone; from then on it is the view after.
-- F is a number of pages that are free before the call and after it, and so at each moment.
-- Word 8 is the journal's dequeue position, word 9 its enqueue position.
use Rattle.model.proofs.Prelude.{◌≡◌, refl, sym, ◌∙◌, ap, ◌⊎◌, inl, inr, ⊎_elim, ℕ, zero, suc, ◌+◌, ◌*◌, ◌%◌, ◌^◌, ◌≤◌, ◌<◌, Bool, true, false, cond, List, [], ◌∷◌, none, some, arith, length}
use Rattle.model.specs.Lists.{all, has, distinct}
use Rattle.model.specs.Words.{Mem}
use Rattle.model.specs.Layout.{sizes_ok}
use Rattle.model.specs.Stores.{Stores, one_word, both, over, landed}
use Rattle.model.specs.Journal.{target_word, old_word, open_count, open_positions, open_targets, is_open, view, target_ok, journal_ok}
use Rattle.model.specs.Accept.{free_count, view_ok, accepted}
use Rattle.model.specs.FileMap.{FileMap, map_of}
use Rattle.model.specs.Power.{cut}
use Rattle.model.specs.Calls.{Change, journal_pairs, targets, commit_one, commit_together, commit, all_prepared, all_changes, action_groups, old_values, recover_action}
use Rattle.model.proofs.Tests.{by_bool, by_eq, by_lt, cond_some, ands}
use Rattle.model.proofs.Lists.{all_has}
use Rattle.model.proofs.Crash.Stores.{over_none, over_some, over_same, over_here, over_other, over_both, part, part_none, part_one, Each, Only, only_word, only_both, only_part, only_imp, only_not, only_cases}
use Rattle.model.proofs.Crash.Journal.{closed_view, JournalOk, journal_parts, journal_ok_lem, closed_ok, closed_same, equal_closed, view_words, view_other, target_high, low_no_target, undone_low, undone_journal, undone_view, targets_of, Logged, logged_same, logged_targets, logged_back, logged_pairs, pairs_each, pairs_outside, Values, targets_small, targets_one, targets_outside, targets_in}
use Rattle.model.proofs.Crash.Landing.{Fit, Fits, left, sizes_parts}

-- Accepted, in parts.

pub accepted_parts : (m : Mem) (P N : ℕ) → accepted m P N ≡ true → (journal_ok m N ≡ true) × (view_ok (view m) P N ≡ true)
unfolding accepted
accepted_parts m P N h = (search ands, search ands)

pub accepted_of : (m : Mem) (P N : ℕ) → journal_ok m N ≡ true → view_ok (view m) P N ≡ true → accepted m P N ≡ true
unfolding accepted
accepted_of m P N j v = rw j v

-- Where groups lead.

-- m is accepted, with the map M, and F pages are free
pub record Shows (P N F : ℕ) (M : FileMap) (m : Mem) : Type 0 where
  pub ok : accepted m P N ≡ true
  pub is : map_of (view m) P N ≡ M
  pub free : F ≤ free_count (view m) P N

abbrev pub Either : ℕ → ℕ → ℕ → FileMap → FileMap → Mem → Type 0
Either P N F O M m = Shows P N F O m ⊎ Shows P N F M m

-- the groups lead from m to the map M and a closed journal, and whatever the power does on the way, the map is O or M
abbrev pub Leads : ℕ → ℕ → ℕ → FileMap → FileMap → Mem → List Stores → Type 0
Leads P N F O M m [] = (is_open m ≡ false) × Shows P N F M m
Leads P N F O M m (s ∷ gs) = ((kept : ℕ → Bool) → Either P N F O M (over (part s kept) m)) × Leads P N F O M (over s m) gs

module _ (P N F : ℕ) (O M : FileMap) where
  -- a group of one word leaves nothing between before and after
  lead_word : (m : Mem) (t x : ℕ) (gs : List Stores) → Either P N F O M m → Either P N F O M (over (one_word t x) m)
      → Leads P N F O M (over (one_word t x) m) gs → Leads P N F O M m (one_word t x ∷ gs)
  lead_word m t x gs a b r = ((λ kept. ⊎_elim (λ e. rw e a) (λ e. rw e b) (part_one t x kept m)), r)

  pub leads_held : (m : Mem) (gs : List Stores) → Leads P N F O M m gs → (is_open (landed gs m) ≡ false) × Shows P N F M (landed gs m)
  unfolding landed
  leads_held m [] l = l
  leads_held m (s ∷ gs) l = leads_held (over s m) gs l.1

  pub leads_cut : (m : Mem) (gs : List Stores) → Leads P N F O M m gs → (g : ℕ) (kept : ℕ → Bool) → Either P N F O M (left gs (cut g kept) m)
  unfolding left
  leads_cut m [] l g kept = inr l.1
  leads_cut m (s ∷ gs) l zero kept = l.0 kept
  leads_cut m (s ∷ gs) l (suc g) kept = leads_cut (over s m) gs l.1 g kept

-- what a call's groups, made on m, must be if the call comes to the map M and leaves F pages free
pub record Sound (P N F : ℕ) (m : Mem) (gs : List Stores) (M : FileMap) : Type 0 where
  pub leads : Leads P N F (map_of (view m) P N) M m gs
  pub fits : Fits (64 * P) gs

-- a memory that any call but recover may be made on
pub record Ready (P N : ℕ) (m : Mem) : Type 0 where
  pub sizes : sizes_ok P N ≡ true
  pub ok : accepted m P N ≡ true
  pub closed : is_open m ≡ false
  pub words : (w : ℕ) → m w < 2 ^ 64

-- it is its own view
pub ready_view : (P N : ℕ) (m : Mem) → Ready P N m → view_ok m P N ≡ true
ready_view P N m r = rw (closed_view m r.closed) at (accepted_parts m P N r.ok).1

-- a call that stores nothing
pub nothing_safe : (P N F : ℕ) (m : Mem) (M : FileMap) → Ready P N m → F ≤ free_count m P N → map_of m P N ≡ M → Sound P N F m [] M
nothing_safe P N F m M r l e =
    let v = closed_view m r.closed in record { leads = (r.closed, record { ok = r.ok; is = rw v e; free = rw v l }); fits = tt }

-- Committing.

-- a memory after the stores s and then the targets of a commit, without the journal's own words
unfoldable pub committed : Mem → Stores → List Change → Mem
committed m s cs = over (targets cs) (over s m)

-- What a call owes that makes the stores s and then commits the changes cs, on m, comes to the map M and leaves F pages free.
-- `Dead m w`: no reading of m looks at word w.
pub record Owed (P N F : ℕ) (Dead : Mem → ℕ → Type 0) (m : Mem) (s : Stores) (cs : List Change) (M : FileMap) : Type 0 where
  pub harmless : Only (λ w. Dead m w × (64 ≤ w)) s
  pub small : Each (λ w x. (w < 64 * P) × (x < 2 ^ 64)) s
  pub few : length cs ≤ 4
  pub in_table : all (target_ok N) (targets_of cs) ≡ true
  pub apart : distinct (targets_of cs) ≡ true
  pub values : Values cs
  pub fine : view_ok (committed m s cs) P N ≡ true
  pub new : map_of (committed m s cs) P N ≡ M
  pub was_free : F ≤ free_count m P N
  pub now_free : F ≤ free_count (committed m s cs) P N

module _ (P N : ℕ) (Dead : Mem → ℕ → Type 0)
    (frame : (u u' : Mem) → view_ok u P N ≡ true → ((w : ℕ) → (u' w ≡ u w) ⊎ Dead u w)
    → (view_ok u' P N ≡ true) × (map_of u' P N ≡ map_of u P N) × (free_count u' P N ≡ free_count u P N))
    (page0-dead : (u : Mem) (w : ℕ) → w < 64 → Dead u w) where
  -- what differs from the view of m in dead words alone shows the map of m
  frame_shows : (F : ℕ) (m b : Mem) → accepted m P N ≡ true → F ≤ free_count (view m) P N → journal_ok b N ≡ true
      → ((w : ℕ) → (view b w ≡ view m w) ⊎ Dead (view m) w) → Shows P N F (map_of (view m) P N) b
  frame_shows F m b a l j s =
      let z = frame (view m) (view b) (accepted_parts m P N a).1 s in
      record { ok = accepted_of b P N j z.0; is = z.1; free = rw z.2 l }

  module _ (F : ℕ) (m : Mem) (r : Ready P N m) (was : F ≤ free_count m P N) where
    abbrev O : FileMap
    O = map_of (view m) P N

    was_view : F ≤ free_count (view m) P N
    was_view = rw (closed_view m r.closed) was

    journal : JournalOk m N
    journal = journal_parts m N (accepted_parts m P N r.ok).0

    -- a memory with the positions of m is closed, and shows what it reads as
    still_closed : (b : Mem) → b 8 ≡ m 8 → b 9 ≡ m 9 → is_open b ≡ false
    still_closed b d e =
        let j = journal in let s = closed_same m j.dequeue j.enqueue r.closed in equal_closed b (omega arith) (omega arith)

    shows_itself : (b : Mem) (M : FileMap) → b 8 ≡ b 9 → b 9 < 16 → view_ok b P N ≡ true → map_of b P N ≡ M → F ≤ free_count b P N → Shows P N F M b
    shows_itself b M d e v n l =
        let c = equal_closed b d e in
        let i = closed_view b c in
        record { ok = accepted_of b P N (closed_ok b N (omega arith) e c) (rw i v); is = rw i n; free = rw i l }

    -- a first group, or a part of it
    module _ (s : Stores) (quiet : Only (λ w. Dead m w × (16 ≤ w)) s) where
      calm_low : (w : ℕ) → w < 16 → over s m w ≡ m w
      calm_low w h = over_none s m w (only_not quiet w (λ x q. omega arith))

      calm_closed : is_open (over s m) ≡ false
      calm_closed = still_closed (over s m) (calm_low 8 (omega arith)) (calm_low 9 (omega arith))

      calm : Shows P N F O (over s m)
      calm =
          let j = journal in
          let d = calm_low 8 (omega arith) in
          let e = calm_low 9 (omega arith) in
          frame_shows F m (over s m) r.ok was_view (closed_ok (over s m) N (omega arith) (omega arith) calm_closed)
          (λ w. rw (closed_view (over s m) calm_closed, closed_view m r.closed)
          (⊎_elim (λ n. inl n) (λ n. inr n.0) (only_cases quiet m w)))

    -- what follows at once from what is owed
    module _ (s : Stores) (cs : List Change) (M : FileMap) (o : Owed P N F Dead m s cs M) where
      quiet : Only (λ w. Dead m w × (16 ≤ w)) s
      quiet = only_imp (λ w x q. (q.0, omega arith)) o.harmless

      fits_stores : Each (Fit (64 * P)) s
      fits_stores w x e = let a = o.harmless w x e in let b = o.small w x e in (omega arith, b.0, b.1)

      target_fits : (t : ℕ) → has t (targets_of cs) ≡ true → (64 ≤ t) × (t < 64 * P)
      target_fits t h =
          let a = target_high N t (all_has (target_ok N) t (targets_of cs) o.in_table h) in
          let b = sizes_parts P N r.sizes in omega arith

      fits_targets : Each (Fit (64 * P)) (targets cs)
      fits_targets w x e = let a = target_fits w (targets_in cs w x e) in (omega arith, a.1, targets_small cs o.values w x e)

      low_targets : (w : ℕ) → w < 64 → targets cs w ≡ none
      low_targets w h = targets_outside cs w (low_no_target N (targets_of cs) w o.in_table h)

    -- one word commits by itself
    one_safe : (s : Stores) (c : Change) (M : FileMap) → Owed P N F Dead m s (c ∷ []) M → Sound P N F m (commit_one s c) M
    unfolding commit_one committed
    one_safe s c M o =
        let q = quiet s (c ∷ []) M o in
        let f : Mem = over (one_word c.0 c.1) (over s m) in
        let low : (w : ℕ) → w < 16 → f w ≡ m w =
        λ w h. over_none _ (over s m) w (rw targets_one at (low_targets s (c ∷ []) M o w (omega arith))) ∙ calm_low s q w h in
        let d = low 8 (omega arith) in
        let e = low 9 (omega arith) in
        let j = journal in
        let k = closed_same m j.dequeue j.enqueue r.closed in
        let z = shows_itself f M (omega arith) (omega arith) (rw targets_one at o.fine) (rw targets_one at o.new)
        (rw targets_one at o.now_free) in
        record {
          leads = (
            (λ kept. inl (calm (part s kept) (only_part kept q))),
            lead_word P N F O M (over s m) c.0 c.1 [] (inl (calm s q)) (inr z) (still_closed f d e, z),
          );
          fits = (fits_stores s (c ∷ []) M o, (rw targets_one at (fits_targets s (c ∷ []) M o), tt));
        }

    -- several words commit together: the journal is opened, the targets land in any mixture, the journal is closed
    module _ (s : Stores) (cs : List Change) (M : FileMap) (o : Owed P N F Dead m s cs M) where
      abbrev e : ℕ
      e = (m 9 + length cs) % 16

      abbrev first : Stores
      first = both s (journal_pairs m (m 9) cs)

      abbrev opened : Mem
      opened = over (one_word 9 e) (over first m)

      abbrev changed : Mem
      changed = over (targets cs) opened

      abbrev closed : Mem
      closed = over (one_word 8 e) changed

      first_quiet : Only (λ w. Dead m w × (16 ≤ w)) first
      first_quiet =
          only_both (quiet s cs M o)
          (pairs_each _ m (m 9) cs journal.enqueue
          (λ k t l h. ((page0-dead m (target_word k) (omega arith), omega arith), (page0-dead m (old_word k) (omega arith), omega arith))))

      first_fits : Each (Fit (64 * P)) first
      first_fits =
          let b = sizes_parts P N r.sizes in
          only_both (fits_stores s cs M o)
          (pairs_each _ m (m 9) cs journal.enqueue
          (λ k t l h. let z = target_fits s cs M o t h in ((omega arith, omega arith, omega arith), (omega arith, omega arith, r.words t))))

      opened_dequeue : opened 8 ≡ m 9
      opened_dequeue =
          over_other 9 e (over first m) 8 (omega arith) ∙ calm_low first first_quiet 8 (omega arith)
          ∙ sym (closed_same m journal.dequeue journal.enqueue r.closed)

      opened_enqueue : opened 9 ≡ e
      opened_enqueue = over_here 9 e (over first m)

      opened_count : open_count opened ≡ length cs
      unfolding open_count
      opened_count = let h = journal.enqueue in let f = o.few in rw (opened_dequeue, opened_enqueue) (omega arith)

      opened_logged : Logged opened m (m 9) cs
      opened_logged =
          let h = journal.enqueue in
          let f = o.few in
          logged_same (over (journal_pairs m (m 9) cs) m) opened m (m 9) cs h
          (λ k g d. (same (target_word k) (omega arith) (omega arith), same (old_word k) (omega arith) (omega arith)))
          (logged_pairs m m (m 9) cs h (omega arith))
        where
          same : (w : ℕ) → (w ≡ 9 → ⊥) → w < 64 → opened w ≡ over (journal_pairs m (m 9) cs) m w
          same w n l =
              over_other 9 e (over first m) w n ∙ ap (λ (z : Mem). z w) (over_both s (journal_pairs m (m 9) cs) m)
              ∙ over_none s (over (journal_pairs m (m 9) cs) m) w (only_not o.harmless w (λ x q. omega arith))

      opened_targets : open_targets opened ≡ targets_of cs
      unfolding open_targets open_positions
      opened_targets = rw (opened_count, opened_dequeue) (logged_targets opened m (m 9) cs opened_logged)

      opened_view : (w : ℕ) → view opened w ≡ cond (has w (targets_of cs)) (m w) (opened w)
      unfolding view open_positions
      opened_view w = rw (opened_count, opened_dequeue) (logged_back opened m (m 9) cs w opened_logged)

      opened_journal : journal_ok opened N ≡ true
      opened_journal =
          let d = opened_dequeue in
          let n = opened_enqueue in
          let c = opened_count in
          let h = journal.enqueue in
          journal_ok_lem opened N (record {
            dequeue = omega arith;
            enqueue = omega arith;
            few = omega (arith, o.few);
            targets = rw opened_targets o.in_table;
            apart = rw opened_targets o.apart;
          })

      opened_words : (w : ℕ) → (view opened w ≡ view m w) ⊎ Dead (view m) w
      opened_words w =
          rw (closed_view m r.closed, opened_view w)
          (by_lt w 64 (λ h. inr (page0-dead m w h))
          (λ h. by_bool (has w (targets_of cs)) (λ t. inl (rw t))
          (λ t. rw t (⊎_elim (λ n. inl (over_other 9 e (over first m) w (omega arith) ∙ n)) (λ n. inr n.0) (only_cases first_quiet m w)))))

      -- the journal open, the targets in any mixture
      opened_mixed : (t : Stores) → ((w : ℕ) → has w (targets_of cs) ≡ false → t w ≡ none) → Shows P N F O (over t opened)
      opened_mixed t only =
          let n : (w : ℕ) → has w (open_targets opened) ≡ false → t w ≡ none = λ w h. only w (rw opened_targets at h) in
          frame_shows F m (over t opened) r.ok was_view (undone_journal opened N t opened_journal n)
          (λ w. rw (undone_view opened N t opened_journal n) (opened_words w))

      closed_dequeue : closed 8 ≡ e
      closed_dequeue = over_here 8 e changed

      closed_enqueue : closed 9 ≡ e
      closed_enqueue =
          over_other 8 e changed 9 (omega arith) ∙ over_none (targets cs) opened 9 (low_targets s cs M o 9 (omega arith)) ∙ opened_enqueue

      -- the end differs from what is committed in the journal's words alone
      closed_words : (w : ℕ) → (closed w ≡ committed m s cs w) ⊎ Dead (committed m s cs) w
      unfolding committed
      closed_words w =
          by_lt w 64 (λ h. inr (page0-dead _ w h))
          (λ h. inl (over_other 8 e changed w (omega arith)
          ∙ over_same (targets cs) opened (over s m) w (over_other 9 e (over first m) w (omega arith)
          ∙ ap (λ (z : Mem). z w) (over_both s (journal_pairs m (m 9) cs) m)
          ∙ over_same s (over (journal_pairs m (m 9) cs) m) m w
          (over_none (journal_pairs m (m 9) cs) m w (pairs_outside m (m 9) cs w journal.enqueue (λ a b. omega arith))))))

      closed_shows : Shows P N F M closed
      closed_shows =
          let f = frame (committed m s cs) closed o.fine closed_words in
          let d = closed_dequeue in
          let n = closed_enqueue in shows_itself closed M (omega arith) (omega arith) f.0 (f.1 ∙ o.new) (rw f.2 o.now_free)

      together_leads : Leads P N F O M m (commit_together m s cs)
      unfolding commit_together
      together_leads =
          let out = targets_outside cs in
          let d = closed_dequeue in
          let n = closed_enqueue in
          let last : Leads P N F O M changed (one_word 8 e ∷ []) =
          lead_word P N F O M changed 8 e [] (inl (opened_mixed (targets cs) out)) (inr closed_shows)
          (equal_closed closed (omega arith) (omega arith), closed_shows) in
          let mixture : Leads P N F O M opened (targets cs ∷ one_word 8 e ∷ []) =
          ((λ kept. inl (opened_mixed (part (targets cs) kept) (λ w h. part_none (targets cs) kept w (out w h)))), last) in
          let opening : Leads P N F O M (over first m) (one_word 9 e ∷ targets cs ∷ one_word 8 e ∷ []) =
          lead_word P N F O M (over first m) 9 e (targets cs ∷ one_word 8 e ∷ []) (inl (calm first first_quiet))
          (inl (frame_shows F m opened r.ok was_view opened_journal opened_words)) mixture in
          ((λ kept. inl (calm (part first kept) (only_part kept first_quiet))), opening)

      pub together_safe : Sound P N F m (commit_together m s cs) M
      unfolding commit_together
      together_safe =
          let b = sizes_parts P N r.sizes in
          let word_fits : (t : ℕ) → 8 ≤ t → t < 16 → Each (Fit (64 * P)) (one_word t e) =
          λ t h l. only_word _ t e (omega arith, omega arith, omega arith) in
          record {
            leads = together_leads;
            fits = (first_fits, (word_fits 9 (omega arith) (omega arith), (fits_targets s cs M o, (word_fits 8 (omega arith) (omega arith), tt))));
          }

    together : (s : Stores) (c : Change) (cs : List Change) (M : FileMap) → Owed P N F Dead m s (c ∷ cs) M → Sound P N F m (commit m s (c ∷ cs)) M
    unfolding commit
    together s c [] M o = one_safe s c M o
    together s c (d ∷ cs) M o = together_safe s (c ∷ d ∷ cs) M o

  pub commit_safe : (F : ℕ) (m : Mem) → Ready P N m → (s : Stores) (c : Change) (cs : List Change) (M : FileMap) → Owed P N F Dead m s (c ∷ cs) M
      → Sound P N F m (commit m s (c ∷ cs)) M
  commit_safe F m r s c cs M o = together F m r o.was_free s c cs M o

  -- Recovering, of an open journal or a closed one.
  module _ (m : Mem) (sizes : sizes_ok P N ≡ true) (acc : accepted m P N ≡ true) (words : (w : ℕ) → m w < 2 ^ 64) where
    abbrev R : FileMap
    R = map_of (view m) P N

    was_ok : journal_ok m N ≡ true
    was_ok = (accepted_parts m P N acc).0

    old_only : (w : ℕ) → has w (open_targets m) ≡ false → old_values m w ≡ none
    unfolding old_values
    old_only w h = rw h

    old_over : (w : ℕ) → over (old_values m) m w ≡ view m w
    unfolding old_values
    old_over w =
        by_bool (has w (open_targets m)) (λ h. over_some (old_values m) m w (view m w) (rw h))
        (λ h. over_none (old_values m) m w (old_only w h) ∙ sym (view_other m w h))

    abbrev F₀ : ℕ
    F₀ = free_count (view m) P N

    old_mixed : (t : Stores) → ((w : ℕ) → has w (open_targets m) ≡ false → t w ≡ none) → Shows P N F₀ R (over t m)
    old_mixed t only =
        frame_shows F₀ m (over t m) acc (omega arith) (undone_journal m N t was_ok only) (λ w. inl (rw (undone_view m N t was_ok only)))

    abbrev recovered : Mem
    recovered = over (one_word 8 (m 9)) (over (old_values m) m)

    recovered_dequeue : recovered 8 ≡ m 9
    recovered_dequeue = over_here 8 (m 9) (over (old_values m) m)

    recovered_enqueue : recovered 9 ≡ m 9
    recovered_enqueue = over_other 8 (m 9) (over (old_values m) m) 9 (omega arith) ∙ undone_low m N (old_values m) was_ok old_only 9 (omega arith)

    recovered_closed : is_open recovered ≡ false
    recovered_closed =
        let h = (journal_parts m N was_ok).enqueue in
        let d = recovered_dequeue in
        let e = recovered_enqueue in equal_closed recovered (omega arith) (omega arith)

    recovered_shows : Shows P N F₀ R recovered
    recovered_shows =
        let h = (journal_parts m N was_ok).enqueue in
        let d = recovered_dequeue in
        let e = recovered_enqueue in
        frame_shows F₀ m recovered acc (omega arith) (closed_ok recovered N (omega arith) (omega arith) recovered_closed)
        (λ w. rw (closed_view recovered recovered_closed) (by_eq w 8 (λ e. inr (page0-dead (view m) w (omega arith)))
        (λ e. inl (over_other 8 (m 9) (over (old_values m) m) w e ∙ old_over w))))

    recover_leads : Leads P N F₀ R R m (old_values m ∷ one_word 8 (m 9) ∷ [])
    recover_leads =
        let last : Leads P N F₀ R R (over (old_values m) m) (one_word 8 (m 9) ∷ []) =
        lead_word P N F₀ R R (over (old_values m) m) 8 (m 9) [] (inl (old_mixed (old_values m) old_only)) (inr recovered_shows)
        (recovered_closed, recovered_shows) in
        ((λ kept. inl (old_mixed (part (old_values m) kept) (λ w h. part_none (old_values m) kept w (old_only w h)))), last)

    old_fits : Each (Fit (64 * P)) (old_values m)
    unfolding old_values
    old_fits w x e =
        let c = cond_some (has w (open_targets m)) (some (view m w)) x e in
        let t = target_high N w (all_has (target_ok N) w (open_targets m) (journal_parts m N was_ok).targets c.0) in
        let b = sizes_parts P N sizes in
        let v = view_words m (2 ^ 64) words w in
        let y : view m w ≡ x = cc in
        (omega arith, omega arith, rw y at v)

    pub recover_safe : Sound P N F₀ m (action_groups (view m) P N (recover_action m)) R
    unfolding action_groups recover_action all_prepared all_changes commit commit_one both
    recover_safe =
        let b = sizes_parts P N sizes in
        let j = journal_parts m N was_ok in
        by_bool (is_open m) (λ h. rw h (record { leads = recover_leads; fits = (old_fits, (only_word _ 8 (m 9) (omega arith, omega arith, omega arith), tt)) }))
        (λ h. rw h (record { leads = (h, record { ok = acc; is = refl; free = omega arith }); fits = tt }))
