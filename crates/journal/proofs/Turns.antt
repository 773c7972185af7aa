-- The cases of the loops over positions: at one position the list of the run is its first target and the run of the next.
use Rattle.model.proofs.Prelude.{ℕ, zero, suc, ◌-◌, ◌+◌, ◌*◌, ◌%◌, ◌≤◌, ◌<◌, ◌≡◌, refl, sym, ◌∙◌, Bool, true, false, List, [], ◌∷◌, arith, sub-one, eq-eqb, ne_eqb, ◌&&◌, ltb, le-leb, lt-leb}
use Rattle.model.specs.Lists.{all, has, distinct}
use Rattle.model.specs.Words.{Mem, word}
use Rattle.model.specs.Journal.{dequeue_word, target_word, old_word, next_position, positions, open_count, open_positions, open_targets, put_back, view, target_ok}
use Rattle.journal.specs.Targets.{targets}
use Rattle.journal.proofs.Views.{open_targets_lem}

-- The loop of `viewed_from`: n positions from i on are left to put back; t is the target that the code read at position i.

module _ (v : List ℕ) (w : ℕ) where
  pub back_start : (n d x : ℕ) → n ≡ open_count (word v) → d ≡ x → x ≡ word v dequeue_word → put_back (positions n d) (word v) w ≡ view (word v) w
  unfolding view open_positions
  back_start n d x k h e = rw (k, h ∙ e)

  pub back_here : (n i t x z : ℕ) → put_back (positions n i) (word v) w ≡ z → 0 < n → t ≡ word v (target_word i) → t ≡ w → x ≡ old_word i → word v x ≡ z
  unfolding positions put_back
  back_here zero i t x z a l e h k = absurd (omega arith)
  back_here (suc n) i t x z a l e h k = rw k (rw (eq-eqb w (word v (target_word i)) (sym h ∙ e)) at a)

  -- c of them are behind it
  pub back_next : (n c i j t z : ℕ) → put_back (positions (n - c) i) (word v) w ≡ z → c < n → t ≡ word v (target_word i) → (t ≡ w → ⊥)
      → j ≡ next_position i → put_back (positions (n - (c + 1)) j) (word v) w ≡ z
  unfolding positions put_back
  back_next n c i j t z a l e h s =
      let d : n - c ≡ suc (n - (c + 1)) = omega arith in
      rw s (rw (d, ne_eqb w (word v (target_word i)) (λ y. h (e ∙ sym y))) at a)

  pub back_end : (n i z : ℕ) → put_back (positions n i) (word v) w ≡ z → n ≤ 0 → word v w ≡ z
  unfolding positions put_back
  back_end zero i z a l = a
  back_end (suc n) i z a l = absurd (omega arith)

-- The loops over targets: x is the target that the code read at position i, j the next position, r what a callee answered.

module _ (m : Mem) where
  one_more : (n i : ℕ) → 0 < n → targets m n i ≡ m (target_word i) ∷ targets m (n - 1) (next_position i)
  unfolding targets positions
  one_more zero i l = absurd (omega arith)
  one_more (suc n) i l = rw sub-one

  none_left : (n i : ℕ) → n ≤ 0 → targets m n i ≡ []
  unfolding targets positions
  none_left zero i l = refl
  none_left (suc n) i l = absurd (omega arith)

  module _ (n i x : ℕ) (z : Bool) (l : 0 < n) (e : x ≡ m (target_word i)) where
    pub has_here : (t : ℕ) → has t (targets m n i) ≡ z → x ≡ t → true ≡ z
    unfolding has
    has_here t a h = rw (one_more n i l, has, eq-eqb t (m (target_word i)) (sym h ∙ e)) at a

    pub all_not : (N : ℕ) (r : Bool) → all (target_ok N) (targets m n i) ≡ z → r ≡ target_ok N x → r ≡ false → false ≡ z
    unfolding all
    all_not N r a g y =
        let h : target_ok N (m (target_word i)) ≡ false = rw (← e) (sym g ∙ y) in
        rw (one_more n i l, all, h) at a

    -- k positions are left after it
    module _ (j k : ℕ) (s : j ≡ next_position i) (d : k ≡ n - 1) where
      has_then : (t : ℕ) → has t (targets m n i) ≡ z → (x ≡ t → ⊥) → has t (targets m k j) ≡ z
      unfolding has
      has_then t a h = rw (s, d) (rw (one_more n i l, has, ne_eqb t (m (target_word i)) (λ y. h (e ∙ sym y))) at a)

      all_then : (N : ℕ) (r : Bool) → all (target_ok N) (targets m n i) ≡ z → r ≡ target_ok N x → r ≡ true
          → all (target_ok N) (targets m k j) ≡ z
      unfolding all
      all_then N r a g y =
          let h : target_ok N (m (target_word i)) ≡ true = rw (← e) (sym g ∙ y) in
          rw (s, d) (rw (one_more n i l, all, h) at a)

      has_said : (r b : Bool) → r ≡ has x (targets m k j) → r ≡ b → has (m (target_word i)) (targets m (n - 1) (next_position i)) ≡ b
      has_said r b g y = rw (← e, ← s, ← d) (sym g ∙ y)

      pub distinct_next : (r : Bool) → distinct (targets m n i) ≡ z → r ≡ has x (targets m k j) → r ≡ false → distinct (targets m k j) ≡ z
      unfolding distinct
      distinct_next r a g y = rw (s, d) (rw (one_more n i l, distinct, has_said r false g y) at a)

      pub distinct_not : (r : Bool) → distinct (targets m n i) ≡ z → r ≡ has x (targets m k j) → r ≡ true → false ≡ z
      unfolding distinct
      distinct_not r a g y = rw (one_more n i l, distinct, has_said r true g y) at a

  -- of n positions c are passed
  module _ (n c i x j : ℕ) (z : Bool) (l : c < n) (e : x ≡ m (target_word i)) (s : j ≡ next_position i) where
    pub has_next : (t : ℕ) → has t (targets m (n - c) i) ≡ z → (x ≡ t → ⊥) → has t (targets m (n - (c + 1)) j) ≡ z
    has_next t a h = has_then (n - c) i x z (omega arith) e j (n - (c + 1)) s (omega arith) t a h

    pub all_next : (N : ℕ) (r : Bool) → all (target_ok N) (targets m (n - c) i) ≡ z → r ≡ target_ok N x → r ≡ true
        → all (target_ok N) (targets m (n - (c + 1)) j) ≡ z
    all_next N r a g y = all_then (n - c) i x z (omega arith) e j (n - (c + 1)) s (omega arith) N r a g y

  module _ (n d x : ℕ) (k : n ≡ open_count m) (h : d ≡ x) (e : x ≡ m dequeue_word) where
    all_open : targets m n d ≡ open_targets m
    all_open = rw (k, h ∙ e) (sym (open_targets_lem m))

    pub all_start : (N : ℕ) → all (target_ok N) (targets m n d) ≡ all (target_ok N) (open_targets m)
    all_start N = rw all_open

    pub distinct_start : distinct (targets m n d) ≡ distinct (open_targets m)
    distinct_start = rw all_open

  module _ (n i : ℕ) (z : Bool) (l : n ≤ 0) where
    pub has_end : (t : ℕ) → has t (targets m n i) ≡ z → false ≡ z
    unfolding has
    has_end t a = rw (none_left n i l) at a

    pub all_end : (N : ℕ) → all (target_ok N) (targets m n i) ≡ z → true ≡ z
    unfolding all
    all_end N a = rw (none_left n i l) at a

    pub distinct_end : distinct (targets m n i) ≡ z → true ≡ z
    unfolding distinct
    distinct_end a = rw (none_left n i l) at a

-- `target_ok`: b is the value of the first two tests, e the word where the inodes end.

module _ (N t : ℕ) (b : Bool) where
  module _ (e : ℕ) (h : 64 ≤ t) (g : e ≡ 64 + 8 * N) (f : b ≡ ltb t e) where
    pub target_in : b ≡ true → ltb (t % 8) 3 ≡ target_ok N t
    unfolding target_ok
    target_in y = rw (le-leb 64 t h, ← g, ← f, y)

    pub target_past : b ≡ false → b ≡ target_ok N t
    unfolding target_ok
    target_past y = rw (le-leb 64 t h, ← g, ← f, y)

  pub target_low : t < 64 → b ≡ false → b ≡ target_ok N t
  unfolding target_ok
  target_low h y = rw (lt-leb 64 t h, y)

-- `journal_ok`: v is the value of the tests so far, t in the definition; u is the next test, x the value with it.

module _ (t u x v : Bool) (h : v ≡ t) where
  pub and_goes : v ≡ true → x ≡ u → x ≡ t && u
  and_goes e f = rw (← h, e) f

  pub and_stays : v ≡ false → x ≡ v → x ≡ t && u
  and_stays e f = rw (← h, e) (f ∙ e)
