-- The table in an array of a caller: t is the array, and `map known t` the table that is made of it.
use Rattle.model.proofs.Prelude.{ℕ, zero, suc, ◌+◌, ◌*◌, ◌/◌, ◌%◌, ◌≤◌, ◌<◌, ◌≡◌, refl, sym, ◌∙◌, ap, Bool, true, false, cond, List, ◌++◌, take, drop, arith, ⊎_elim, inl, inr, length, get_or, set, map, eqb, eq-eqb, ne_eqb, lt-ltb, le-ltb, length-set, get_or-set_same, get_or-set_other}
use Rattle.std.proofs.Math.ListN.{get_or-map}
use Rattle.std.proofs.lemmas.List.{length-map, get_or-take, get_or_append_left, length-take-le, ext_get_or}
use Rattle.model.proofs.Tests.{by_eq, by_lt, no}
use Rattle.tree.specs.declared.State.{State}
use Rattle.tree.specs.declared.State.TheVariants.{Free, File, FileOnce, FileOften, Folder, FolderNamed, FolderReached}
use Rattle.tree.specs.Node.{state_number}
use Rattle.tree.specs.Table.{state_in, parent_in, above_in, Climbs, top, up, Unsettled, SettlesAll}
use Rattle.tree.specs.Numbers.{known_state, known, reached}
use Rattle.tree.proofs.Nodes.{not_named}

-- a state other than FileOften has another number
not_often : (s : State) → (s ≡ FileOften → ⊥) → state_number s ≡ 3 → ⊥
not_often Free h e = omega (arith, e)
not_often File h e = omega (arith, e)
not_often FileOnce h e = omega (arith, e)
not_often FileOften h e = h refl
not_often Folder h e = omega (arith, e)
not_often FolderNamed h e = omega (arith, e)
not_often FolderReached h e = omega (arith, e)

-- The state that a number says.

module _ (s x : ℕ) where
  said : 0 < x → known_state s ≡ x → s ≡ x
  unfolding known_state
  said p h = by_lt s 7 (λ l. rw (lt-ltb s 7 l) at h) (λ l. absurd (let z : 0 ≡ x = rw (le-ltb s 7 l) at h in omega arith))

  says : x < 7 → s ≡ x → known_state s ≡ x
  unfolding known_state
  says p h = rw (lt-ltb s 7 (omega arith)) h

-- The same of a state s of that number: x is the element.
module _ (x : ℕ) (s : State) (e : state_number s ≡ known_state (x / 256)) where
  pub named_state : s ≡ FolderNamed → x / 256 ≡ 5
  named_state h = said (x / 256) 5 (omega arith) (sym e ∙ ap state_number h)

  pub named_more : s ≡ FolderNamed → x + 256 ≡ reached x
  unfolding reached
  named_more h = rw (eq-eqb (x / 256) 5 (named_state h))

  pub named_same : (s ≡ FolderNamed → ⊥) → x ≡ reached x
  unfolding reached
  named_same h = rw (ne_eqb (x / 256) 5 (λ q. not_named s h (e ∙ says (x / 256) 5 (omega arith) q)))

  pub often_none : (k : ℕ) → s ≡ FileOften → 0 ≡ cond (eqb (x / 256) 3) 0 k
  often_none k h = rw (eq-eqb (x / 256) 3 (said (x / 256) 3 (omega arith) (sym e ∙ ap state_number h)))

  pub often_not : (k : ℕ) → (s ≡ FileOften → ⊥) → k ≡ cond (eqb (x / 256) 3) 0 k
  often_not k h = rw (ne_eqb (x / 256) 3 (λ q. not_often s h (e ∙ says (x / 256) 3 (omega arith) q)))

-- `from`: the elements of t before the k-th are known; s and p are the state and the parent that the k-th gets.
module _ (xs t : List ℕ) (k : ℕ) (long : length t ≡ 256) (b : (j : ℕ) → j < k → get_or t j 0 ≡ known (get_or xs j 0)) where
  pub known_next : (t' : List ℕ) (s p : ℕ) → k < 256 → s ≡ known_state (get_or xs k 0 / 256) → p ≡ get_or xs k 0 % 256
      → t' ≡ set t k (256 * s + p) → (length t' ≡ 256) × ((j : ℕ) → j < k + 1 → get_or t' j 0 ≡ known (get_or xs j 0))
  unfolding known
  known_next t' s p l e g h =
      rw h (
        length-set t k (256 * s + p) ∙ long,
        λ j i.
            by_eq j k (λ q. rw q (get_or-set_same t k (256 * s + p) 0 (omega (arith, long)) ∙ rw (e, g)))
            (λ q. get_or-set_other t k j (256 * s + p) 0 q ∙ b j (omega arith)),
      )

  pub known_whole : length xs ≡ 256 → 256 ≤ k → t ≡ map known xs
  unfolding known known_state
  known_whole m l =
      ext_get_or 0 t (map known xs) (long ∙ sym (length-map xs known ∙ m))
      (λ j i. b j (omega (arith, long)) ∙ sym (get_or-map known xs j 0))

module _ (t : List ℕ) where
  at_known : (k : ℕ) → get_or (map known t) k 0 ≡ known (get_or t k 0)
  unfolding known known_state
  at_known k = get_or-map known t k 0

  state_known : (k : ℕ) → state_in (map known t) k ≡ known_state (state_in t k)
  unfolding known
  state_known k = rw (at_known k) (omega arith)

  parent_known : (k : ℕ) → parent_in (map known t) k ≡ parent_in t k
  unfolding known
  parent_known k = rw (at_known k) (omega arith)

  above_known : (n f k : ℕ) → above_in (map known t) n f k ≡ above_in t n f k
  unfolding above_in
  above_known zero f k = refl
  above_known (suc n) f k = rw (above_in, parent_known k, above_known n f (parent_in t k))

  pub beneath_known : (n f k : ℕ) (t₀ : List ℕ) (r : Bool) → t₀ ≡ map known t → r ≡ above_in t₀ n f k → r ≡ above_in t n f k
  beneath_known n f k t₀ r e h = rw e at h ∙ above_known n f k

  climbs_known : {k : ℕ} → Climbs (map known t) k → Climbs t k
  climbs_known top = top
  climbs_known (up k c) = up k (rw (parent_known k) at (climbs_known c))

  pub unsettled_known : (N : ℕ) (t₀ : List ℕ) → t₀ ≡ map known t → Unsettled N t → Unsettled N t₀
  unsettled_known N t₀ e u =
      rw e (record {
        root = state_known 0 ∙ says (state_in t 0) 6 (omega arith) u.root;
        alone = λ k a b e. u.alone k a b (said (state_in t k) 6 (omega arith) (sym (state_known k) ∙ e));
        parents = λ k l. rw (parent_known k) (u.parents k l);
        long = length-map t known ∙ u.long;
      })

  -- `settle_all`
  module _ (N : ℕ) (t₀ t₁ : List ℕ) (g : t₀ ≡ map known t) where
    was : (k x : ℕ) → 0 < x → state_in (map known t) k ≡ x → state_in t k ≡ x
    was k x p e = said (state_in t k) x p (sym (state_known k) ∙ e)

    is : (k x : ℕ) → x < 7 → state_in t k ≡ x → state_in (map known t) k ≡ x
    is k x p e = state_known k ∙ says (state_in t k) x p e

    pub numbers_stop : (t' : List ℕ) → SettlesAll N t₀ false t₁ → SettlesAll N t false t'
    numbers_stop t' w =
        let s : SettlesAll N (map known t) false t₁ = rw g at w in
        record {
          named = λ y. no y;
          reached = λ y. no y;
          list = λ y. no y;
          bad = λ y.
              let b = s.bad refl in (
                b.0,
                b.1,
                ⊎_elim (λ e. inl (was b.0 1 (omega arith) e))
                    (⊎_elim (λ e. inr (inl (was b.0 4 (omega arith) e)))
                    (λ e. inr (inr (was b.0 5 (omega arith) e.0, sym (above_known N 0 b.0) ∙ e.1)))) b.2,
              );
        }

    reached_at : (k : ℕ) → k < N → N ≤ length t
        → get_or (map reached (take N t) ++ drop N t) k 0 ≡ cond (eqb (state_in t k) 5) (256 * 6 + parent_in t k) (get_or t k 0)
    unfolding reached
    reached_at k l few =
        let m : get_or (map reached (take N t)) k 0 ≡ reached (get_or (take N t) k 0) = get_or-map reached (take N t) k 0 in
        let o : k < length (map reached (take N t)) = rw (length-map (take N t) reached, length-take-le N t few) l in
        get_or_append_left (map reached (take N t)) (drop N t) 0 k o ∙ m ∙ rw (get_or-take N t k 0 l)
        (by_eq (state_in t k) 5 (λ e. rw (eq-eqb (state_in t k) 5 e) (omega arith)) (λ e. rw (ne_eqb (state_in t k) 5 e)))

    pub numbers_pass : (ns : List ℕ) → SettlesAll N t₀ true t₁ → N ≤ length t → ns ≡ map reached (take N t)
        → SettlesAll N t true (ns ++ drop N t)
    numbers_pass ns w few e =
        let s : SettlesAll N (map known t) true t₁ = rw g at w in
        record {
          named = λ y k l.
              let n = s.named refl k l in (λ q. n.0 (is k 1 (omega arith) q), λ q. n.1 (is k 4 (omega arith) q));
          reached = λ y k l q. climbs_known (s.reached refl k l (is k 5 (omega arith) q));
          list = λ y k l. rw e (reached_at k l few);
          bad = λ y. no (sym y);
        }
