-- Laws of the journal: what its open entries say, and the view that they make. By induction over the positions.
use Rattle.model.proofs.Prelude.{◌≡◌, refl, sym, ◌∙◌, fun_ext, ℕ, zero, suc, ◌+◌, ◌*◌, ◌^◌, ◌≤◌, ◌<◌, true, false, cond, List, [], ◌∷◌, map, none, some, arith, length, eqb, ltb-true, ltb-false, leb-true, eqb-true, eqb-false, lt-ltb, le-ltb, le-leb}
use Rattle.model.specs.Lists.{all, has, distinct}
use Rattle.model.specs.Words.{Mem}
use Rattle.model.specs.Stores.{Stores, one_word, both, over}
use Rattle.model.specs.Journal.{dequeue_word, enqueue_word, next_position, distance, target_word, old_word, positions, open_count, open_positions, open_targets, is_open, put_back, view, target_ok, journal_ok}
use Rattle.model.specs.Calls.{Change, journal_pairs, targets}
use Rattle.model.proofs.Tests.{by_bool, by_lt, cond_neither, not_true_false, not_some, ands}
use Rattle.model.proofs.Lists.{has_head, has_tail, all_has}
use Rattle.model.proofs.Crash.Stores.{over_none, one_here, one_other, first_none, Each, only_none, only_word, only_both, only_not}

-- Open and closed.

pub closed_count : (m : Mem) → is_open m ≡ false → open_count m ≡ 0
unfolding is_open
closed_count m e = omega (arith, ltb-false 0 (open_count m) e)

pub count_closed : (m : Mem) → open_count m ≡ 0 → is_open m ≡ false
unfolding is_open
count_closed m e = le-ltb 0 (open_count m) (omega arith)

pub closed_view : (m : Mem) → is_open m ≡ false → view m ≡ m
unfolding view open_positions positions put_back
closed_view m e = fun_ext (λ w. rw (closed_count m e))

pub record JournalOk (m : Mem) (N : ℕ) : Type 0 where
  pub dequeue : m dequeue_word < 16
  pub enqueue : m enqueue_word < 16
  pub few : open_count m ≤ 4
  pub targets : all (target_ok N) (open_targets m) ≡ true
  pub apart : distinct (open_targets m) ≡ true

pub journal_parts : (m : Mem) (N : ℕ) → journal_ok m N ≡ true → JournalOk m N
unfolding journal_ok
journal_parts m N h =
    record {
      dequeue = ltb-true _ _ (search ands);
      enqueue = ltb-true _ _ (search ands);
      few = leb-true _ _ (search ands);
      targets = search ands;
      apart = search ands;
    }

pub journal_ok_lem : (m : Mem) (N : ℕ) → JournalOk m N → journal_ok m N ≡ true
unfolding journal_ok
journal_ok_lem m N j = rw (lt-ltb _ 16 j.dequeue, lt-ltb _ 16 j.enqueue, le-leb _ 4 j.few, j.targets) j.apart

-- a closed journal asks for two positions alone
pub closed_ok : (m : Mem) (N : ℕ) → m dequeue_word < 16 → m enqueue_word < 16 → is_open m ≡ false → journal_ok m N ≡ true
unfolding open_targets open_positions positions all distinct
closed_ok m N d e o =
    let c = closed_count m o in
    journal_ok_lem m N (record { dequeue = d; enqueue = e; few = omega arith; targets = rw c; apart = rw c })

-- closed is where the positions are equal
pub closed_same : (m : Mem) → m dequeue_word < 16 → m enqueue_word < 16 → is_open m ≡ false → m enqueue_word ≡ m dequeue_word
unfolding open_count
closed_same m d e o = let c = closed_count m o in omega arith

pub equal_closed : (m : Mem) → m dequeue_word ≡ m enqueue_word → m enqueue_word < 16 → is_open m ≡ false
unfolding open_count
equal_closed m e h = count_closed m (omega arith)

-- The view.

-- each word of it is a word of the memory
pub view_words : (m : Mem) (n : ℕ) → ((w : ℕ) → m w < n) → (w : ℕ) → view m w < n
unfolding view put_back
view_words m n h w = go (open_positions m)
  where
    go : (is : List ℕ) → put_back is m w < n
    go [] = h w
    go (i ∷ is) = by_bool (eqb w (m (target_word i))) (λ e. rw (put_back, e) (h (old_word i))) (λ e. rw (put_back, e) (go is))

pub view_other : (m : Mem) (w : ℕ) → has w (open_targets m) ≡ false → view m w ≡ m w
unfolding view open_targets put_back has
view_other m w h = go (open_positions m) h
  where
    go : (is : List ℕ) → has w (map (λ (i : ℕ). m (target_word i)) is) ≡ false → put_back is m w ≡ m w
    go [] h = refl
    go (i ∷ is) h =
        let c = cond_neither (eqb w (m (target_word i))) (has w (map (λ (i : ℕ). m (target_word i)) is)) h in
        rw (put_back, c.0) (go is c.1)

-- Memories with the same first page have the same open entries.
module _ (a b : Mem) (low : (k : ℕ) → k < 64 → b k ≡ a k) where
  targets_from : (n i : ℕ) → i < 16 → map (λ (i : ℕ). b (target_word i)) (positions n i) ≡ map (λ (i : ℕ). a (target_word i)) (positions n i)
  unfolding positions
  targets_from zero i h = refl
  targets_from (suc n) i h = rw (low (target_word i) (omega arith), targets_from n (next_position i) (omega arith))

  back_from : (n i w : ℕ) → i < 16 → (has w (map (λ (i : ℕ). a (target_word i)) (positions n i)) ≡ false → b w ≡ a w)
      → put_back (positions n i) b w ≡ put_back (positions n i) a w
  unfolding positions put_back has
  back_from zero i w h s = s refl
  back_from (suc n) i w h s =
      by_bool (eqb w (a (target_word i)))
      (λ e. rw (low (target_word i) (omega arith), e, low (old_word i) (omega arith)))
      (λ e. rw (low (target_word i) (omega arith), e) (back_from n (next_position i) w (omega arith) (λ g. s (rw (has, e) g))))

  count_same : open_count b ≡ open_count a
  unfolding open_count
  count_same = rw (low 8 (omega arith), low 9 (omega arith))

  targets_same : a dequeue_word < 16 → open_targets b ≡ open_targets a
  unfolding open_targets open_positions
  targets_same h = rw (count_same, low 8 (omega arith)) (targets_from (open_count a) (a 8) h)

  pub view_same : a dequeue_word < 16 → ((w : ℕ) → has w (open_targets a) ≡ false → b w ≡ a w) → view b ≡ view a
  unfolding open_targets open_positions view
  view_same h s = fun_ext (λ w. rw (count_same, low 8 (omega arith)) (back_from (open_count a) (a 8) w h (s w)))

  pub journal_same : (N : ℕ) → journal_ok a N ≡ true → journal_ok b N ≡ true
  journal_same N h =
      let j = journal_parts a N h in
      let d : b dequeue_word ≡ a dequeue_word = low 8 (omega arith) in
      let e : b enqueue_word ≡ a enqueue_word = low 9 (omega arith) in
      let c : open_count b ≡ open_count a = count_same in
      let t : open_targets b ≡ open_targets a = targets_same j.dequeue in
      journal_ok_lem b N (record { dequeue = omega arith; enqueue = omega arith; few = omega arith; targets = rw t j.targets; apart = rw t j.apart })

-- Targets stand in the inode table: stores to open targets alone change neither the journal nor the view.

pub target_high : (N t : ℕ) → target_ok N t ≡ true → (64 ≤ t) × (t < 64 + 8 * N)
unfolding target_ok
target_high N t h = (leb-true 64 t (search ands), ltb-true t (64 + 8 * N) (search ands))

-- a word of the first page is no target
pub low_no_target : (N : ℕ) (ts : List ℕ) (k : ℕ) → all (target_ok N) ts ≡ true → k < 64 → has k ts ≡ false
low_no_target N ts k h g =
    not_true_false (has k ts) (λ e. let t = target_high N k (all_has (target_ok N) k ts h e) in omega arith)

module _ (m : Mem) (N : ℕ) (s : Stores) (j : journal_ok m N ≡ true) (only : (w : ℕ) → has w (open_targets m) ≡ false → s w ≡ none) where
  pub undone_low : (k : ℕ) → k < 64 → over s m k ≡ m k
  undone_low k h = over_none s m k (only k (low_no_target N (open_targets m) k (journal_parts m N j).targets h))

  pub undone_journal : journal_ok (over s m) N ≡ true
  undone_journal = journal_same m (over s m) undone_low N j

  pub undone_view : view (over s m) ≡ view m
  undone_view = view_same m (over s m) undone_low (journal_parts m N j).dequeue (λ w h. over_none s m w (only w h))

-- Entries that a commit logs.

-- the words that changes change
abbrev pub targets_of : List Change → List ℕ
targets_of cs = map (λ (c : Change). c.0) cs

-- the journal of b holds, from position i on, the targets of cs with their words of m
abbrev pub Logged : Mem → Mem → ℕ → List Change → Type 0
Logged b m i [] = Unit {0}
Logged b m i (c ∷ cs) = (b (target_word i) ≡ c.0) × (b (old_word i) ≡ m c.0) × Logged b m (next_position i) cs

pub logged_same : (a b m : Mem) (i : ℕ) (cs : List Change) → i < 16
    → ((k : ℕ) → k < 16 → distance i k < length cs → (b (target_word k) ≡ a (target_word k)) × (b (old_word k) ≡ a (old_word k)))
    → Logged a m i cs → Logged b m i cs
logged_same a b m i [] h s l = tt
logged_same a b m i (c ∷ cs) h s l =
    let z = s i h (omega arith) in
    (z.0 ∙ l.0, z.1 ∙ l.1, logged_same a b m (next_position i) cs (omega arith) (λ k g t. s k g (omega arith)) l.2)

pub logged_targets : (b m : Mem) (i : ℕ) (cs : List Change) → Logged b m i cs
    → map (λ (i : ℕ). b (target_word i)) (positions (length cs) i) ≡ targets_of cs
unfolding positions
logged_targets b m i [] l = refl
logged_targets b m i (c ∷ cs) l = rw (l.0, logged_targets b m (next_position i) cs l.2)

pub logged_back : (b m : Mem) (i : ℕ) (cs : List Change) (w : ℕ) → Logged b m i cs
    → put_back (positions (length cs) i) b w ≡ cond (has w (targets_of cs)) (m w) (b w)
unfolding positions put_back has
logged_back b m i [] w l = refl
logged_back b m i (c ∷ cs) w l =
    by_bool (eqb w c.0) (λ e. rw (l.0, e, l.1, eqb-true w c.0 e))
    (λ e. rw (l.0, e) (logged_back b m (next_position i) cs w l.2))

-- the positions after i come back to i last
not_again : (i k n : ℕ) → i < 16 → n < 16 → distance (next_position i) k < n → k ≡ i → ⊥
not_again i k n h g d e =
    let z : distance (next_position i) i < n = rw e at d in
    by_lt i 15 (λ l. omega arith) (λ l. let f : i ≡ 15 = omega arith in let y : distance (next_position 15) 15 < n = rw f at z in omega arith)

-- the pairs of a commit log what they should
pub logged_pairs : (m x : Mem) (i : ℕ) (cs : List Change) → i < 16 → length cs < 16 → Logged (over (journal_pairs m i cs) x) m i cs
unfolding journal_pairs over
logged_pairs m x i [] h g = tt
logged_pairs m x i (c ∷ cs) h g = (
  rw (one_here (target_word i) c.0),
  rw (one_other (target_word i) c.0 (old_word i) (omega arith), one_here (old_word i) (m c.0)),
  logged_same (over (journal_pairs m (next_position i) cs) x) (over (journal_pairs m i (c ∷ cs)) x) m (next_position i) cs (omega arith)
      (λ k p q. let z = not_again i k (length cs) h (omega arith) q in
      (other (target_word k) (λ e. z (omega arith)) (omega arith), other (old_word k) (omega arith) (λ e. z (omega arith))))
      (logged_pairs m x (next_position i) cs (omega arith) (omega arith)),
)
  where
    other : (w : ℕ) → (w ≡ target_word i → ⊥) → (w ≡ old_word i → ⊥)
        → over (journal_pairs m i (c ∷ cs)) x w ≡ over (journal_pairs m (next_position i) cs) x w
    other w p q = rw (one_other (target_word i) c.0 w p, one_other (old_word i) (m c.0) w q)

-- what holds of a position's target with its index, and of its old value, holds of all that the pairs store
pub pairs_each : (R : ℕ → ℕ → Type 0) (m : Mem) (i : ℕ) (cs : List Change) → i < 16
    → ((k t : ℕ) → k < 16 → has t (targets_of cs) ≡ true → R (target_word k) t × R (old_word k) (m t)) → Each R (journal_pairs m i cs)
unfolding journal_pairs both
pairs_each R m i [] h r = only_none R
pairs_each R m i (c ∷ cs) h r =
    let z = r i c.0 h (has_head c.0 (targets_of cs)) in
    let s : Each R (journal_pairs m (next_position i) cs) =
    pairs_each R m (next_position i) cs (omega arith) (λ k t l g. r k t l (has_tail t c.0 (targets_of cs) g)) in
    only_both (only_word R (target_word i) c.0 z.0) (only_both (only_word R (old_word i) (m c.0) z.1) s)

-- the pairs stand in words 16 to 47
pub pairs_outside : (m : Mem) (i : ℕ) (cs : List Change) (w : ℕ) → i < 16 → (16 ≤ w → w < 48 → ⊥) → journal_pairs m i cs w ≡ none
pairs_outside m i cs w h o =
    only_not (pairs_each (λ v x. (16 ≤ v) × (v < 48)) m i cs h (λ k t l g. ((omega arith, omega arith), (omega arith, omega arith))))
    w (λ x q. o q.0 q.1)

-- The targets' own stores.

-- the new values are of 64 bits
abbrev pub Values : List Change → Type 0
Values [] = Unit {0}
Values (c ∷ cs) = (c.1 < 2 ^ 64) × Values cs

pub targets_small : (cs : List Change) → Values cs → Each (λ w x. x < 2 ^ 64) (targets cs)
unfolding targets both
targets_small [] v = only_none (λ w x. x < 2 ^ 64)
targets_small (c ∷ cs) v = only_both (only_word (λ w x. x < 2 ^ 64) c.0 c.1 v.0) (targets_small cs v.1)

pub targets_one : (c : Change) → targets (c ∷ []) ≡ one_word c.0 c.1
unfolding targets
targets_one c = fun_ext (λ w. first_none (one_word c.0 c.1 w))

pub targets_outside : (cs : List Change) (w : ℕ) → has w (targets_of cs) ≡ false → targets cs w ≡ none
unfolding targets has
targets_outside [] w h = refl
targets_outside (c ∷ cs) w h =
    let z = cond_neither (eqb w c.0) (has w (targets_of cs)) h in
    rw (one_other c.0 c.1 w (eqb-false w c.0 z.0)) (targets_outside cs w z.1)

pub targets_in : (cs : List Change) (w x : ℕ) → targets cs w ≡ some x → has w (targets_of cs) ≡ true
targets_in cs w x e = by_bool (has w (targets_of cs)) (λ h. h) (λ h. not_some x (sym (targets_outside cs w h) ∙ e))
