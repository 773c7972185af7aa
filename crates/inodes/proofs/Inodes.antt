-- The cases of the functions that judge the inodes one after the other: what holds of the inodes below k and of inode k
-- holds of those below k + 1, and what fails of one inode fails of all.
use Rattle.model.proofs.Prelude.{ℕ, zero, suc, ◌+◌, ◌*◌, ◌-◌, ◌≤◌, ◌<◌, ◌≡◌, refl, sym, ◌∙◌, Bool, true, false, not, ◌&&◌, List, ◌++◌, append-nil, arith, length, replicate, length-set, length-replicate, get_or-set_same, get_or-set_other, eqb, ne_eqb, not-true, not-false}
use Rattle.model.specs.Lists.{all_below}
use Rattle.model.specs.Words.{Mem}
use Rattle.model.specs.Layout.{root}
use Rattle.model.specs.Accept.{is_valid, valid_ok, type_ok}
use Rattle.model.proofs.Tests.{by_bool, by_eq, no, clash, not_true_false, ands}
use Rattle.model.proofs.Lists.{all_below_at}
use Rattle.tree.specs.Table.{with_state}
use Rattle.marks.specs.Marks.{fresh, marked, used_by, used_below, Judged}
use Rattle.marks.proofs.Counts.{fresh_append, marked_append}
use Rattle.inodes.specs.Judged.{InodeJudged, RootJudged, no_marks, shape_ok, Below, first_state, States, AllJudged, Inspected}
use Rattle.inodes.proofs.Cases.{bad, marked_before}

module _ (u : Mem) (P N : ℕ) where
  next_good : (k : ℕ) → shape_ok u P N k ≡ true → all_below k (shape_ok u P N) ≡ true → all_below (k + 1) (shape_ok u P N) ≡ true
  unfolding all_below
  next_good k a b = let s : k + 1 ≡ suc k = omega arith in rw (s, all_below, a) b

  next_used : (k : ℕ) → used_below u P N (k + 1) ≡ used_below u P N k ++ used_by u P N k
  unfolding used_below
  next_used k = let s : k + 1 ≡ suc k = omega arith in rw s

  -- what cannot be marked of some inodes cannot be marked of more
  still_marked : (a : List ℕ) (n k : ℕ) → fresh a (used_below u P N k) ≡ false → fresh a (used_below u P N (n + k)) ≡ false
  unfolding used_below
  still_marked a zero k e = let s : 0 + k ≡ k = omega arith in rw s e
  still_marked a (suc n) k e =
      let s : suc n + k ≡ suc (n + k) = omega arith in
      rw (s, used_below, fresh_append, still_marked a n k e)

  -- Inode k after those below it: a is the marks before it, r what its judgement answered, b the marks after it.
  module _ (k : ℕ) (a b : List ℕ) (r : Bool) (j : Judged (shape_ok u P N k) a (used_by u P N k) r b) (g : Below u P N k a) where
    next : r ≡ true → Below u P N (k + 1) b
    next y =
        let e : shape_ok u P N k && fresh a (used_by u P N k) ≡ true = sym j.answer ∙ y in
        record {
          good = next_good k (search ands) g.good;
          once = rw (next_used k, fresh_append, g.once, ← g.list) (search ands);
          list = rw (next_used k, marked_append, ← g.list) (j.list y);
        }

    not_next : r ≡ false → k < N → AllJudged u P N false b
    not_next n l =
        by_bool (shape_ok u P N k)
        (λ x.
        let y : fresh a (used_by u P N k) ≡ false = sym (rw x at j.answer) ∙ n in
        let z : fresh no_marks (used_below u P N (k + 1)) ≡ false = rw (next_used k, fresh_append, g.once, ← g.list) y in
        let s : N - (k + 1) + (k + 1) ≡ N = omega arith in
        marked_before _ no_marks (used_below u P N N) b (rw s at (still_marked no_marks (N - (k + 1)) (k + 1) z)))
        (λ x. bad _ no_marks (used_below u P N N) b (not_true_false _ (λ h. clash _ (all_below_at N k (shape_ok u P N) h l) x)))

  refused : (b t : List ℕ) → AllJudged u P N false b → Inspected u P N false b t
  refused b t j = record { judged = j; states = λ e. no e }

  -- The others: r is the state that `judge_inode` answered.
  module _ (k : ℕ) (a b : List ℕ) (r : ℕ) (j : InodeJudged u P N k a r b) where
    pub others_next : Below u P N k a → (r ≡ 7 → ⊥) → Below u P N (k + 1) b
    others_next g n = next k a b (not (eqb r 7)) j.judged g (rw (ne_eqb r 7 n))

    pub others_not : (t : List ℕ) → Below u P N k a → r ≡ 7 → k < N → Inspected u P N false b t
    others_not t g n l = refused b t (not_next k a b (not (eqb r 7)) j.judged g (rw n) l)

    pub states_next : (t t' : List ℕ) → States u k t → (r ≡ 7 → ⊥) → 0 < k → k < N → N ≤ 256 → t' ≡ with_state t k r 0 → States u (k + 1) t'
    states_next t t' s n p l f e =
        let long = s.long in
        record {
          first = rw (e, get_or-set_other t k 0 (256 * r + 0) 0 (omega arith)) s.first;
          element = λ i o h.
              by_eq i k
              (λ z. let q : 256 * r + 0 ≡ 256 * first_state u k = rw (j.state n) (omega arith) in
              rw (e, z, get_or-set_same t k (256 * r + 0) 0 (omega arith)) q)
              (λ z. rw (e, get_or-set_other t k i (256 * r + 0) 0 z) (s.element i o (omega arith)));
          long = rw e (length-set t k (256 * r + 0) ∙ s.long);
        }

    pub state_low : r ≤ 7
    state_low = j.low

  -- Inode 0: r is what `judge_root` answered, and b the marks that it left.

  none_below : Below u P N 0 no_marks
  unfolding all_below used_below fresh marked
  none_below = record { good = refl; once = refl; list = refl }

  module _ (b : List ℕ) (r : Bool) (j : RootJudged u P N r b) where
    root_judged : Judged (shape_ok u P N root) no_marks (used_by u P N root) r b
    unfolding shape_ok valid_ok type_ok used_by
    root_judged =
        by_bool (is_valid u root)
        (λ v. record { answer = rw (v, append-nil) (rw v at j.answer); list = λ y. rw (v, append-nil) (j.list y) })
        (λ v. let z : r ≡ false = rw v at j.answer in record { answer = rw v z; list = λ y. clash r y z })

    pub root_below : not r ≡ false → Below u P N 1 b
    root_below n = next 0 no_marks b r root_judged none_below (not-false r n)

    pub root_not : (t : List ℕ) → not r ≡ true → 0 < N → Inspected u P N false b t
    root_not t n l = refused b t (not_next 0 no_marks b r root_judged none_below (not-true r n) l)

  pub root_state : (t t' : List ℕ) → t ≡ replicate 256 0 → t' ≡ with_state t 0 6 0 → States u 1 t'
  root_state t t' z e =
      let n : length t ≡ 256 = rw z (length-replicate {A = ℕ} 256 0) in
      record {
        first = rw (e, get_or-set_same t 0 (256 * 6 + 0) 0 (omega arith));
        element = λ i o h. absurd (omega arith);
        long = rw e (length-set t 0 (256 * 6 + 0) ∙ n);
      }
