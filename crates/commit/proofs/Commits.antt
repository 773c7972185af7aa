-- The words to commit, one after the other: each adds its journal pair to the first group and itself to its own group.
use Rattle.model.proofs.Prelude.{ℕ, zero, suc, ◌+◌, ◌-◌, ◌*◌, ◌/◌, ◌%◌, ◌≤◌, ◌<◌, ◌≡◌, refl, sym, ap, ◌∙◌, fun_ext, List, [], ◌∷◌, ◌++◌, append_assoc, none, arith, length, get_or}
use Rattle.std.specs.Simd.{first_chunks}
use Rattle.model.specs.Words.{Mem, word}
use Rattle.model.specs.Journal.{dequeue_word, enqueue_word, target_word, old_word, next_position}
use Rattle.model.specs.Stores.{Stores, one_word, both, fence, listed, store_list}
use Rattle.model.specs.Calls.{Change, journal_pairs, targets, commit_one, commit_together, commit}
use Rattle.model.proofs.Crash.Stores.{Only, only_word, only_both, only_none}
use Rattle.stores.specs.Emitted.{Emitted}
use Rattle.stores.specs.Added.{Added, Adding}
use Rattle.stores.proofs.Emitting.{emitted_both}
use Rattle.stores.proofs.Listed.{listed_one}
use Rattle.stores.proofs.Groups.{first_assoc, added_both, added_none, group_of, adding_all, adding_next}
use Rattle.pairs.proofs.Chunks.{pair_index, pair_value}
use Rattle.commit.specs.Commit.{changes_from, changes_of, logged, Pairs, Committed}

-- `put_one`
pub one_end : (l m : List ℕ) (at r w x n : ℕ) → Emitted l at (fence ∷ 0 ∷ w ∷ x ∷ fence ∷ 0 ∷ []) r m → at + 6 ≤ n → r ≤ n
one_end l m at r w x n e h = omega (arith, e.end)

-- `log_target`
pub target_logged : (u : Mem) (l m o : List ℕ) (end e r i t x : ℕ) → Added l 0 end (one_word (target_word i) t) e m → Added m 0 e (one_word (old_word i) x) r o → x ≡ u t
    → Added l 0 end (logged u i t) r o
unfolding logged
target_logged u l m o end e r i t x a b c = added_both a (rw c at b)

-- The changes from the j-th on.

pub length_changes : (l : List ℕ) (j n : ℕ) → length (changes_from l j n) ≡ n
unfolding changes_from
length_changes l j zero = refl
length_changes l j (suc n) = ap suc (length_changes l (j + 1) n)

module _ (l : List ℕ) where
  abbrev pub change : ℕ → Change
  change j = (get_or l (2 * j) 0, get_or l (2 * j + 1) 0)

  next_change : (j n : ℕ) → j < n → changes_from l j (n - j) ≡ change j ∷ changes_from l (j + 1) (n - (j + 1))
  unfolding changes_from
  next_change j n h = let e : n - j ≡ suc (n - (j + 1)) = omega arith in rw e

  no_change : (j n : ℕ) → n ≤ j → changes_from l j (n - j) ≡ []
  unfolding changes_from
  no_change j n h = let e : n - j ≡ 0 = omega arith in rw e

  all_changes_lem : (n : ℕ) → changes_from l 0 (n - 0) ≡ changes_from l 0 n
  all_changes_lem n = let e : n - 0 ≡ n = omega arith in rw e

-- `log_targets`
pairs_next : (u : Mem) (e : ℕ) (c : Change) (cs : List Change) → journal_pairs u e (c ∷ cs) ≡ both (logged u e c.0) (journal_pairs u (next_position e) cs)
unfolding journal_pairs logged both
pairs_next u e c cs = fun_ext (λ w. sym (first_assoc (one_word (target_word e) c.0 w) (one_word (old_word e) (u c.0) w) (journal_pairs u (next_position e) cs w)))

no_pairs : (u : Mem) (e : ℕ) → journal_pairs u e [] ≡ (λ w. none)
unfolding journal_pairs
no_pairs u e = refl

module _ (u : Mem) (l c : List ℕ) (end i : ℕ) where
  -- the list is m by now, its group ends at e, and the changes from the j-th on are to log, from position k on
  abbrev pub Logging : List ℕ → ℕ → ℕ → ℕ → Type 0
  Logging m e k j = Adding l 0 end (journal_pairs u i (changes_of c)) m e (journal_pairs u k (changes_from c j (length c / 2 - j)))

  pub log_start : Logging l end i 0
  log_start = rw (all_changes_lem c (length c / 2)) (adding_all l 0 end (journal_pairs u i (changes_of c)))

  module _ (m : List ℕ) (e k j : ℕ) (q : Logging m e k j) (ps : List (List ℕ)) (z : length ps ≡ length c / 2) where
    pub log_next : (r : ℕ) (p : List ℕ) (y : ℕ) → ps ≡ first_chunks 2 (length c / 2) c → j < length ps
        → Added m 0 e (logged u k (get_or (get_or ps j []) 0 0)) r p → y ≡ next_position k → Logging p r y (j + 1)
    log_next r p y g h a f =
        let b = rw (pair_index c ps j g (omega arith)) at a in
        rw f (adding_next (rw (next_change c j (length c / 2) (omega arith), pairs_next) at q) b)

    pub log_done : length ps ≤ j → Added l 0 end (journal_pairs u i (changes_of c)) e m
    log_done h = q.rest (rw (no_change c j (length c / 2) (omega arith), no_pairs) (added_none m 0 e))

-- `put_targets`
targets_next : (c : Change) (cs : List Change) → targets (c ∷ cs) ≡ both (one_word c.0 c.1) (targets cs)
unfolding targets both
targets_next c cs = refl

no_targets : targets [] ≡ (λ w. none)
unfolding targets
no_targets = refl

module _ (l c : List ℕ) (at : ℕ) where
  -- the list is m by now, its group ends at e, and the changes from the j-th on are to put
  abbrev pub Putting : List ℕ → ℕ → ℕ → Type 0
  Putting m e j = Adding l at at (targets (changes_of c)) m e (targets (changes_from c j (length c / 2 - j)))

  pub targets_start : Putting l at 0
  targets_start = rw (all_changes_lem c (length c / 2)) (adding_all l at at (targets (changes_of c)))

  module _ (m : List ℕ) (e j : ℕ) (q : Putting m e j) (ps : List (List ℕ)) (z : length ps ≡ length c / 2) where
    pub targets_turn : (r : ℕ) (p : List ℕ) → ps ≡ first_chunks 2 (length c / 2) c → j < length ps
        → Added m at e (one_word (get_or (get_or ps j []) 0 0) (get_or (get_or ps j []) 1 0)) r p → Putting p r (j + 1)
    targets_turn r p g h a =
        let b = rw (pair_index c ps j g (omega arith), pair_value c ps j g (omega arith)) at a in
        adding_next (rw (next_change c j (length c / 2) (omega arith), targets_next) at q) b

    pub targets_done : length ps ≤ j → Added l at at (targets (changes_of c)) e m
    targets_done h = q.rest (rw (no_change c j (length c / 2) (omega arith), no_targets) (added_none m at e))

-- `commit`

-- the words that are committed lie in the volume
only_changes : (c : List ℕ) (W n j : ℕ) → ((i : ℕ) → j ≤ i → i < j + n → get_or c (2 * i) 0 < W) → Only (λ w. w < W) (targets (changes_from c j n))
unfolding changes_from
only_changes c W zero j h = rw no_targets (only_none (λ w x. w < W))
only_changes c W (suc n) j h =
    rw targets_next
    (only_both (only_word (λ w x. w < W) (get_or c (2 * j) 0) (get_or c (2 * j + 1) 0) (h j (omega arith) (omega arith)))
    (only_changes c W n (j + 1) (λ i f g. h i (omega arith) (omega arith))))

module _ (v c : List ℕ) (h : Pairs v c) where
  -- ps are its pairs
  pub pair_inside : (ps : List (List ℕ)) (j : ℕ) → ps ≡ first_chunks 2 (length c / 2) c → length ps ≡ length c / 2 → j < length ps
      → 8 * get_or (get_or ps j []) 0 0 + 8 ≤ length v
  pair_inside ps j f m g = let i : j < length c / 2 = omega arith in rw (pair_index c ps j f i) (h.inside j i)

  inside : Only (λ w. w < length v / 8) (targets (changes_of c))
  inside = only_changes c (length v / 8) (length c / 2) 0 (λ i f g. let a = h.inside i (omega arith) in omega arith)

  pub commits_one : (l m : List ℕ) (end r n : ℕ) → n ≡ length c / 2 → n ≡ 1 → Emitted l end (fence ∷ 0 ∷ get_or c 0 0 ∷ get_or c 1 0 ∷ fence ∷ 0 ∷ []) r m
      → Committed v l end (changes_of c) r m
  unfolding store_list commit commit_one changes_from targets
  commits_one l m end r n f g e =
      let k : length c / 2 ≡ 1 = sym f ∙ g in
      let w : 8 * get_or c 0 0 + 8 ≤ length v = h.inside 0 (omega arith) in
      rw k (record { list = λ l₀ s a. rw (listed_one (get_or c 0 0) (get_or c 1 0) (length v / 8) (omega arith)) (emitted_both a e) })

only_pairs : (W : ℕ) (u : Mem) (i : ℕ) (cs : List Change) → i < 16 → 64 ≤ W → Only (λ w. w < W) (journal_pairs u i cs)
unfolding logged
only_pairs W u i [] h g = rw no_pairs (only_none (λ w x. w < W))
only_pairs W u i (c ∷ cs) h g =
    rw pairs_next
    (only_both
    (only_both (only_word (λ w y. w < W) (target_word i) c.0 (omega arith)) (only_word (λ w y. w < W) (old_word i) (u c.0) (omega arith)))
    (only_pairs W u (next_position i) cs (omega arith) g))

commit_more : (u : Mem) (s : Stores) (cs : List Change) → 2 ≤ length cs → commit u s cs ≡ commit_together u s cs
unfolding commit
commit_more u s [] h = absurd (omega arith)
commit_more u s (c ∷ []) h = absurd (omega arith)
commit_more u s (c ∷ d ∷ cs) h = refl

together : (u : Mem) (s : Stores) (W z : ℕ) (cs : List Change) → 64 ≤ W → z ≡ (u enqueue_word + length cs) % 16
    → store_list W (commit_together u s cs)
    ≡ ((listed (both s (journal_pairs u (u enqueue_word) cs)) W 0 ++ (fence ∷ 0 ∷ enqueue_word ∷ z ∷ fence ∷ 0 ∷ [])) ++ listed (targets cs) W 0)
    ++ (fence ∷ 0 ∷ dequeue_word ∷ z ∷ fence ∷ 0 ∷ [])
unfolding store_list commit_together
together u s W z cs h e =
    let A = listed (both s (journal_pairs u (u enqueue_word) cs)) W 0 in
    let B = fence ∷ 0 ∷ enqueue_word ∷ z ∷ fence ∷ 0 ∷ [] in
    let C = fence ∷ 0 ∷ dequeue_word ∷ z ∷ fence ∷ 0 ∷ [] in
    rw (← e, listed_one enqueue_word z W (omega arith), listed_one dequeue_word z W (omega arith))
    (sym (append_assoc (A ++ B) (listed (targets cs) W 0) C ∙ append_assoc A B (listed (targets cs) W 0 ++ C)))

pub commits_more : (v l m o p q c : List ℕ) (end e a b r n x y z : ℕ) → Pairs v c → n ≡ length c / 2 → 2 ≤ length c → (n ≡ 1 → ⊥)
    → x ≡ word v enqueue_word → y ≡ x → z ≡ (y + n) % 16 → Added l 0 end (journal_pairs (word v) y (changes_of c)) e m
    → Emitted m e (fence ∷ 0 ∷ enqueue_word ∷ z ∷ fence ∷ 0 ∷ []) a o → Added o a a (targets (changes_of c)) b p
    → Emitted p b (fence ∷ 0 ∷ dequeue_word ∷ z ∷ fence ∷ 0 ∷ []) r q → Committed v l end (changes_of c) r q
commits_more v l m o p q c end e a b r n x y z h e₁ e₂ e₃ e₅ e₆ e₇ d₁ d₂ d₃ d₄ =
    let cs = changes_of c in
    let u = word v in
    let W = length v / 8 in
    let len : length cs ≡ n = length_changes c 0 (length c / 2) ∙ sym e₁ in
    let y₁ : y ≡ u enqueue_word = e₆ ∙ e₅ in
    let z₁ : z ≡ (u enqueue_word + length cs) % 16 = rw (len, ← y₁) e₇ in
    let d₅ : Added l 0 end (journal_pairs u (u enqueue_word) cs) e m = rw y₁ at d₁ in
    let wide : 64 ≤ W = let k = h.page in omega arith in
    record {
      list = λ l₀ s g.
          let g₁ = d₅.grown l₀ s W g (only_pairs W u (u enqueue_word) cs h.enqueue wide) in
          let g₂ = group_of W d₃ (inside v c h) in
          rw (commit_more u s cs (omega arith), together u s W z cs wide z₁) (emitted_both (emitted_both (emitted_both g₁ d₂) g₂) d₄);
    }
