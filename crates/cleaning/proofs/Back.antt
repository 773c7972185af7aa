-- Recover: the old values are put back position by position, and behind its checks the list is that of the open entries.
use Rattle.model.proofs.Prelude.{ℕ, zero, suc, ◌+◌, ◌-◌, ◌*◌, ◌/◌, ◌≤◌, ◌<◌, ◌≡◌, refl, ◌∙◌, fun_ext, Bool, true, false, cond, not, ◌&&◌, List, [], ◌∷◌, map, none, some, arith, sub-zero, sub-one, lt-ltb, le-ltb, not-true, not-false, eqb, length}
use Rattle.std.specs.Prelude.{Result, Ok, Err, IsErrAnd}
use Rattle.model.specs.Lists.{has}
use Rattle.model.specs.Words.{Mem, word}
use Rattle.model.specs.Journal.{dequeue_word, enqueue_word, target_word, old_word, next_position, positions, open_count, open_positions, open_targets, is_open, put_back, view, target_ok, journal_ok}
use Rattle.model.specs.Accept.{accepted}
use Rattle.model.specs.FileMap.{recover}
use Rattle.model.specs.Stores.{Stores, one_word, first_of, both, store_list}
use Rattle.model.specs.Answer as model
use Rattle.model.specs.Answer.{done, first_refusal, journal_open}
use Rattle.model.specs.Calls.{commit_one, commit, old_values, all_prepared, all_changes, recover_action, action, action_groups, checks, groups}
use Rattle.model.specs.Public.{volume_checks, needs_closed, call_checks, fills}
use Rattle.model.proofs.Tests.{by_bool, and_left}
use Rattle.model.proofs.Lists.{all_has}
use Rattle.model.proofs.Crash.Stores.{Only}
use Rattle.model.proofs.Crash.Journal.{journal_parts, target_high}
use Rattle.model.proofs.Crash.Landing.{volume_parts, sizes_parts}
use Rattle.model.proofs.Crash.History.{recover_passes}
use Rattle.stores.specs.Added.{Added, Adding}
use Rattle.stores.proofs.Groups.{added_none, adding_all, adding_next, group_of}
use Rattle.commit.specs.Commit.{changes_from, changes_of, Pairs, Committed}
use Rattle.append.proofs.Outcomes.{comes_words}
use Rattle.answer.specs.Comes.{Comes, came_to}
use Rattle.answer.specs.Meaning.{number_of}
use Rattle.answer.specs.declared.Refusal.{Refusal}
use Rattle.answer.specs.declared.Refusal.TheVariants.{ShortMemory}
use Rattle.answer.proofs.Checked.{checks_after, passed_on, same_refusal, none_refuses}
use Rattle.answer.proofs.Coming.{comes_refused, comes_none, comes_as}
use Rattle.gate.specs.Gated.{Gated}
use Rattle.gate.proofs.Gates.{gate_long, gate_enqueue}
use Rattle.gate.proofs.Lists.{filled_words}

-- The old values that n positions from i on keep, each in its target; of two with one target the first counts.
unfoldable pub back_stores : Mem → ℕ → ℕ → Stores
back_stores m zero i w = none
back_stores m (suc n) i w = first_of (one_word (m (target_word i)) (m (old_word i)) w) (back_stores m n (next_position i) w)

back_none : (m : Mem) (n i : ℕ) → n ≤ 0 → back_stores m n i ≡ (λ w. none)
unfolding back_stores
back_none m zero i h = refl
back_none m (suc n) i h = absurd (omega arith)

back_more : (m : Mem) (n i : ℕ) → 0 < n
    → back_stores m n i ≡ both (one_word (m (target_word i)) (m (old_word i))) (back_stores m (n - 1) (next_position i))
unfolding back_stores both
back_more m zero i h = absurd (omega arith)
back_more m (suc n) i h = rw sub-one

back_is : (m : Mem) (n i w : ℕ)
    → back_stores m n i w ≡ cond (has w (map (λ (j : ℕ). m (target_word j)) (positions n i))) (some (put_back (positions n i) m w)) none
unfolding back_stores positions put_back has one_word
back_is m zero i w = refl
back_is m (suc n) i w =
    by_bool (eqb w (m (target_word i))) (λ e. rw (back_stores, has, put_back, e))
    (λ e. rw (back_stores, has, put_back, e) (back_is m n (next_position i) w))

old_back : (m : Mem) → back_stores m (open_count m) (m dequeue_word) ≡ old_values m
unfolding old_values open_targets open_positions view
old_back m = fun_ext (λ w. back_is m (open_count m) (m dequeue_word) w)

-- `put_back`: the list l is k by now, its group ends at e, and so many positions from p on are left. The laws speak of the bytes v, and not of a
-- memory, since `search` does not find m in `m dequeue_word`.
module _ (v l : List ℕ) where
  abbrev pub Backing : List ℕ → ℕ → ℕ → ℕ → Type 0
  Backing k e n p = Adding l 0 0 (old_values (word v)) k e (back_stores (word v) n p)

  -- x is dequeue as the code read it
  pub back_start : (n p x : ℕ) → n ≡ open_count (word v) → p ≡ x → x ≡ word v dequeue_word → Backing l 0 (n - 0) p
  back_start n p x e f g = rw (sub-zero, e, f, g, old_back (word v)) (adding_all l 0 0 (old_values (word v)))

  -- n positions are open, and c of them are put back
  module _ (k : List ℕ) (e n c p : ℕ) (b : Backing k e (n - c) p) where
    -- t and x are the target and the old value of position p
    pub back_next : (t x q r : ℕ) (o : List ℕ) → c < n → t ≡ word v (target_word p) → x ≡ word v (old_word p)
        → Added k 0 e (one_word t x) r o → q ≡ next_position p
        → Backing o r (n - (c + 1)) q
    back_next t x q r o h f g a i =
        let s : n - (c + 1) ≡ n - c - 1 = omega arith in
        rw (i, s) (adding_next (rw (back_more (word v) (n - c) p (omega arith)) at b) (rw (f, g) at a))

    pub back_done : n ≤ c → Added l 0 0 (old_values (word v)) e k
    back_done h = b.rest (rw (back_none (word v) (n - c) p (omega arith)) (added_none k 0 e))

-- the targets are words of the inodes
old_inside : (m : Mem) (N W : ℕ) → journal_ok m N ≡ true → 64 + 8 * N ≤ W → Only (λ w. w < W) (old_values m)
unfolding old_values
old_inside m N W j h w x e =
    by_bool (has w (open_targets m))
    (λ b. let t = target_high N w (all_has (target_ok N) w (open_targets m) (journal_parts m N j).targets b) in omega (arith, t.1))
    (λ b. let f = rw b at e in absurd (let z : ◌≡◌ {A = ℕ} 0 1 = cc in omega arith))

-- `recover`: v is the volume and l the list.
pub recover_short : (v l : List ℕ) → length l < 4096 → Comes (came_to v l recover) l (Err ShortMemory) l
unfolding fills call_checks
recover_short v l h = comes_refused (came_to v l recover) l ShortMemory (rw (lt-ltb (length l) 4096 h))

-- the checks of the volume are all that are asked
no_more : (m : Mem) (y : model.Answer (List ℕ))
    → first_refusal ((needs_closed recover && is_open m, journal_open) ∷ checks m (m 0) (m 1) recover) y ≡ y
no_more m y = recover_passes m (m 0) (m 1) y

module _ (v l : List ℕ) (h : 4096 ≤ length l) where
  came : came_to v l recover ≡ first_refusal (volume_checks (length v) (word v)) (done (filled_words v recover))
  unfolding fills call_checks
  came = rw (le-ltb (length l) 4096 h, checks_after (volume_checks (length v) (word v)), no_more (word v) (done (filled_words v recover)))

  -- places, marks and tree are what the gate left
  module _ (places marks tree : List ℕ) where
    pub recover_refused : (e : Refusal) (r : Result ℕ Refusal) → IsErrAnd r (λ d. d ≡ e)
        → Gated v (volume_checks (length v) (word v)) (Err e) places marks tree → Comes (came_to v l recover) l r l
    recover_refused e r p g =
        rw (passed_on e r p)
        (comes_refused (came_to v l recover) l e
        (came ∙ same_refusal (number_of e) (volume_checks (length v) (word v)) _ g.answer (done (filled_words v recover))))

    module _ (n : ℕ) (g : Gated v (volume_checks (length v) (word v)) (Ok n) places marks tree) where
      passed : came_to v l recover ≡ done (filled_words v recover)
      passed = came ∙ none_refuses (volume_checks (length v) (word v)) _ n g.answer (done (filled_words v recover))

      pub close_pairs : (x : ℕ) → Pairs v (dequeue_word ∷ x ∷ [])
      close_pairs x =
          let s = gate_long v _ n places marks tree g in
          record {
            page = s;
            enqueue = gate_enqueue v _ n places marks tree g;
            inside = λ i f. let z : i ≡ 0 = omega arith in rw z (omega arith);
          }

      -- the words of the inodes lie in the volume
      sizes : (length v ≡ 512 * word v 0) × (64 + 8 * word v 1 ≤ 64 * word v 0)
      sizes =
          let p = volume_parts (length v) (word v) g.tables.volume in
          let s = sizes_parts (word v 0) (word v 1) p.sizes in
          (p.bytes, omega (arith, s.whole, s.room))

      back_inside : Only (λ w. w < length v / 8) (old_values (word v))
      unfolding accepted
      back_inside = old_inside (word v) (word v 1) (length v / 8) (and_left _ _ g.tables.good) (omega (arith, sizes))

      -- j is what `is_open` answered
      module _ (j : Bool) (a : j ≡ is_open (word v)) where
        pub recover_closed : not j ≡ true → Comes (came_to v l recover) l (Ok 0) l
        unfolding groups action action_groups recover_action store_list
        recover_closed y = comes_none (came_to v l recover) l (passed ∙ rw (← a, not-true j y))

        -- the first group ends at b in the list k, x is enqueue as the code read it, and the list becomes o with z words
        module _ (y : not j ≡ false) (b : ℕ) (k : List ℕ) (p : Added l 0 0 (old_values (word v)) b k) (x : ℕ)
            (q : x ≡ word v enqueue_word) where
          filled_is : store_list (length v / 8) (commit (word v) (old_values (word v)) (changes_of (dequeue_word ∷ x ∷ [])))
              ≡ filled_words v recover
          unfolding groups action action_groups recover_action changes_from commit commit_one all_prepared all_changes both
          filled_is = let w : length v / 8 ≡ 64 * word v 0 = omega (arith, sizes) in rw (w, ← a, not-false j y, q)

          pub recover_comes : (z : ℕ) (o : List ℕ) → Committed v k b (changes_of (dequeue_word ∷ x ∷ [])) z o → z ≤ length k
              → Comes (came_to v l recover) l (Ok z) o
          recover_comes z o c f =
              let i = c.list l (old_values (word v)) (group_of (length v / 8) p back_inside) in
              comes_as (came_to v l recover) (done (filled_words v recover)) l (Ok z) o passed
              (comes_words (rw filled_is at i) (omega (arith, p.long)))
