-- From bytes to memories: what the power leaves of a store list, word by word, is what lands of its groups, store by store.
-- A group's words ascend below the fence's index, so a list's fences are the groups' ends; then by induction over the groups.
use Rattle.model.proofs.Prelude.{◌≡◌, refl, sym, ◌∙◌, ap, fun_ext, ◌⊎◌, inl, inr, ⊎_elim, ℕ, zero, suc, ◌+◌, ◌-◌, ◌*◌, ◌/◌, ◌%◌, ◌^◌, ◌≤◌, ◌<◌, Bool, true, cond, List, [], ◌∷◌, ◌++◌, Option, none, some, arith, length, get_or, length-append, take-append_seam, get_or-append_seam, get_or-append-add, eqb, leb-true, eqb-true, eq-eqb, ne_eqb, lt-ltb, le-ltb}
use Rattle.model.specs.Words.{Mem, word, put_word}
use Rattle.model.specs.Layout.{sizes_ok}
use Rattle.model.specs.Stores.{Stores, over, landed, pair_of, listed, fence, store_list, carried}
use Rattle.model.specs.Power.{Power, held, cut, before, group, leaves}
use Rattle.model.specs.Answer.{done}
use Rattle.model.specs.Public.{is_volume, pairs_ok, ends_in_fence, list_checks, carry_out}
use Rattle.model.specs.Claim.{Bytes}
use Rattle.model.proofs.Tests.{by_bool, by_eq, by_lt, ands}
use Rattle.model.proofs.Words.{length_put_word, put_word_bytes, word_other, word_put}
use Rattle.model.proofs.Power.{length_mixed, mixed_at, word_mixed}
use Rattle.model.proofs.Crash.Stores.{over_none, over_some, part, Each, only_not, only_part}

-- Any list: lengths and bytes.

pub length_carried : (v l : List ℕ) → length (carried v l) ≡ length v
unfolding carried
length_carried v [] = refl
length_carried v (i ∷ []) = refl
length_carried v (i ∷ x ∷ r) =
    length_carried (cond (eqb i fence) v (put_word v i x)) r ∙ by_bool (eqb i fence) (λ e. rw e) (λ e. rw e (length_put_word v i x))

pub length_leaves : (size : ℕ) (p : Power) (v l : List ℕ) → length (leaves size p v l) ≡ length v
unfolding leaves
length_leaves size held v l = length_carried v l
length_leaves size (cut g kept) v l = length_mixed size kept 0 (carried v (before g l)) _ ∙ length_carried v (before g l)

pub carried_bytes : (v l : List ℕ) → Bytes v → Bytes (carried v l)
unfolding carried
carried_bytes v [] b = b
carried_bytes v (i ∷ []) b = b
carried_bytes v (i ∷ x ∷ r) b =
    carried_bytes (cond (eqb i fence) v (put_word v i x)) r (by_bool (eqb i fence) (λ e. rw e b) (λ e. rw e (put_word_bytes v i x b)))

pub leaves_bytes : (size : ℕ) (p : Power) (v l : List ℕ) → Bytes v → Bytes (leaves size p v l)
unfolding leaves
leaves_bytes size held v l b i = carried_bytes v l b i
leaves_bytes size (cut g kept) v l b i =
    let old = carried v (before g l) in
    let new = carried old (group g l) in
    let o = carried_bytes v (before g l) b in
    let n = carried_bytes old (group g l) o in
    rw (mixed_at size kept 0 old new i (sym (length_carried old (group g l))))
    (by_bool (kept ((0 + i) / size)) (λ e. rw e (n i)) (λ e. rw e (o i)))

-- A group's text ascends, each word once: pairs of which the indices rise from a on, below b.
pub data Rising : ℕ → ℕ → List ℕ → Type 0 where
  rising_end : {a b : ℕ} → Rising a b []
  rising : {a b i x : ℕ} {r : List ℕ} → a ≤ i → i < b → Rising (i + 1) b r → Rising a b (i ∷ x ∷ r)

rising_from : {a b c : ℕ} {l : List ℕ} → Rising b c l → a ≤ b → Rising a c l
rising_from rising_end h = rising_end
rising_from {a = a} (rising {i = i} g k r) h = rising {a = a} {i = i} (omega arith) k r

pub listed_rising : (s : Stores) (n w b : ℕ) → w + n ≤ b → Rising w b (listed s n w)
unfolding listed
listed_rising s zero w b h = rising_end
listed_rising s (suc n) w b h = go (s w) (listed_rising s n (w + 1) b (omega arith))
  where
    go : (o : Option ℕ) → Rising (w + 1) b (listed s n (w + 1)) → Rising w b (pair_of w o (listed s n (w + 1)))
    go none r = rising_from r (omega arith)
    go (some x) r = rising {a = w} {b = b} {i = w} (omega arith) (omega arith) r

-- The rest of a list behind such a group and its fence.

carried_pair : (v : List ℕ) (i x : ℕ) (r : List ℕ) → (i ≡ fence → ⊥) → carried v (i ∷ x ∷ r) ≡ carried (put_word v i x) r
unfolding carried
carried_pair v i x r h = ap (λ (b : Bool). carried (cond b v (put_word v i x)) r) (ne_eqb i fence h)

carried_append : {a b : ℕ} {l : List ℕ} (v r : List ℕ) → Rising a b l → carried v (l ++ r) ≡ carried (carried v l) r
unfolding carried
carried_append v r rising_end = refl
carried_append v r (rising {i = i} {x = x} g h k) = carried_append (cond (eqb i fence) v (put_word v i x)) r k

rising_even : {a b : ℕ} {l : List ℕ} → Rising a b l → length l % 2 ≡ 0
rising_even rising_end = refl
rising_even (rising h k r) = let e = rising_even r in omega arith

module _ {b : ℕ} (short : b ≤ fence) where
  before_next : {a : ℕ} {l : List ℕ} (g : ℕ) (r : List ℕ) → Rising a b l
      → before (suc g) (l ++ fence ∷ 0 ∷ r) ≡ l ++ fence ∷ 0 ∷ before g r
  unfolding before
  before_next g r rising_end = refl
  before_next g r (rising {i = i} h k s) = rw (ne_eqb i fence (omega arith), before_next g r s)

  group_first : {a : ℕ} {l : List ℕ} (r : List ℕ) → Rising a b l → group zero (l ++ fence ∷ 0 ∷ r) ≡ l
  unfolding group
  group_first r rising_end = refl
  group_first r (rising {i = i} h k s) = rw (ne_eqb i fence (omega arith), group_first r s)

  group_next : {a : ℕ} {l : List ℕ} (g : ℕ) (r : List ℕ) → Rising a b l → group (suc g) (l ++ fence ∷ 0 ∷ r) ≡ group g r
  unfolding group
  group_next g r rising_end = refl
  group_next g r (rising {i = i} h k s) = rw (ne_eqb i fence (omega arith), group_next g r s)

  pairs_next : {a : ℕ} {l : List ℕ} (r : List ℕ) → Rising a b l → pairs_ok b (l ++ fence ∷ 0 ∷ r) ≡ pairs_ok b r
  unfolding pairs_ok
  pairs_next r rising_end = refl
  pairs_next r (rising {i = i} h k s) = rw (ne_eqb i fence (omega arith), lt-ltb i b k, pairs_next r s)

-- a list's last pair, if it has one, is a fence
abbrev Last : List ℕ → Type 0
Last l = (length l ≡ 0) ⊎ ((2 ≤ length l) × (get_or l (length l - 2) 0 ≡ fence))

fence_last : (a r : List ℕ) → Last r → Last (a ++ fence ∷ 0 ∷ r)
fence_last a r h =
    let l = a ++ fence ∷ 0 ∷ r in
    let n : length l ≡ length a + (2 + length r) = length-append a (fence ∷ 0 ∷ r) ∙ omega arith in
    inr (
      omega arith,
      ⊎_elim (λ e. let z : length l - 2 ≡ length a = omega arith in rw z (get_or-append_seam a fence (0 ∷ r) 0))
          (λ e. let z : length l - 2 ≡ length a + suc (suc (length r - 2)) = omega arith in
          rw z (get_or-append-add a (fence ∷ 0 ∷ r) (suc (suc (length r - 2))) 0 ∙ e.1)) h,
    )

-- A store list as carry out asks for it, of a volume of W words.
module _ (W : ℕ) where
  rises : (s : Stores) → Rising 0 W (listed s W 0)
  rises s = listed_rising s W 0 W (omega arith)

  pub list_even : (gs : List Stores) → length (store_list W gs) % 2 ≡ 0
  unfolding store_list
  list_even [] = refl
  list_even (s ∷ gs) = let e = rising_even (rises s) in let f = list_even gs in simp length-append (omega arith)

  list_last : (gs : List Stores) → Last (store_list W gs)
  unfolding store_list
  list_last [] = inl refl
  list_last (s ∷ gs) = fence_last (listed s W 0) (store_list W gs) (list_last gs)

  pub list_ends : (gs : List Stores) → ends_in_fence (store_list W gs) ≡ true
  unfolding ends_in_fence
  list_ends gs =
      let l = store_list W gs in
      ⊎_elim (λ e. rw (eq-eqb (length l) 0 e)) (λ e. rw (ne_eqb (length l) 0 (omega arith)) (eq-eqb _ fence e.1)) (list_last gs)

  module _ (short : W ≤ fence) where
    -- "in ascending index, each word once": every group
    pub group_rising : (gs : List Stores) (g : ℕ) → Rising 0 W (group g (store_list W gs))
    unfolding store_list group
    group_rising [] zero = rising_end
    group_rising [] (suc g) = rising_end
    group_rising (s ∷ gs) zero = rw (group_first short (store_list W gs) (rises s)) (rises s)
    group_rising (s ∷ gs) (suc g) = rw (group_next short g (store_list W gs) (rises s)) (group_rising gs g)

    pub list_pairs : (gs : List Stores) → pairs_ok W (store_list W gs) ≡ true
    unfolding store_list pairs_ok
    list_pairs [] = refl
    list_pairs (s ∷ gs) = pairs_next short (store_list W gs) (rises s) ∙ list_pairs gs

-- What a store may be: past the words that say a volume's sizes, inside a volume of W words, of 64 bits.
abbrev pub Fit : ℕ → ℕ → ℕ → Type 0
Fit W w x = (8 ≤ w) × (w < W) × (x < 2 ^ 64)

abbrev pub Fits : ℕ → List Stores → Type 0
Fits W [] = Unit {0}
Fits W (s ∷ gs) = Each (Fit W) s × Fits W gs

-- The memory that the power leaves of a call's groups: those before group g landed, of group g the words that `kept` names, and nothing after.
unfoldable pub left : List Stores → Power → Mem → Mem
left gs held m = landed gs m
left [] (cut g kept) m = m
left (s ∷ gs) (cut zero kept) m = over (part s kept) m
left (s ∷ gs) (cut (suc g) kept) m = left gs (cut g kept) (over s m)

module _ (W : ℕ) where
  kept_header : (s : Stores) → Each (Fit W) s → (m : Mem) (k : ℕ) → k < 8 → over s m k ≡ m k
  kept_header s f m k h = over_none s m k (only_not f k (λ x q. omega arith))

  -- the words that say a volume's sizes stay
  pub left_header : (gs : List Stores) → Fits W gs → (p : Power) (m : Mem) (k : ℕ) → k < 8 → left gs p m k ≡ m k
  unfolding left landed
  left_header [] f held m k h = refl
  left_header [] f (cut g kept) m k h = refl
  left_header (s ∷ gs) f held m k h = left_header gs f.1 held (over s m) k h ∙ kept_header s f.0 m k h
  left_header (s ∷ gs) f (cut zero kept) m k h = kept_header (part s kept) (only_part kept f.0) m k h
  left_header (s ∷ gs) f (cut (suc g) kept) m k h = left_header gs f.1 (cut g kept) (over s m) k h ∙ kept_header s f.0 m k h

module _ (W : ℕ) (short : W ≤ fence) where
  -- One group: below word w its pairs have landed, n words from w on are still to come.
  lands_from : (s : Stores) (m : Mem) → Each (Fit W) s → (n w : ℕ) (v : List ℕ) → w + n ≡ W → length v ≡ 8 * W
      → ((k : ℕ) → k < w → word v k ≡ over s m k) → ((k : ℕ) → w ≤ k → word v k ≡ m k)
      → (k : ℕ) → word (carried v (listed s n w)) k ≡ over s m k
  unfolding listed carried
  lands_from s m f zero w v e l a b k =
      by_lt k w (a k) (λ h. b k h ∙ sym (over_none s m k (only_not f k (λ x q. omega arith))))
  lands_from s m f (suc n) w v e l a b k = go (s w) refl (λ v. lands_from s m f n (w + 1) v (omega arith))
    where
      go : (o : Option ℕ) → s w ≡ o
          → ((v : List ℕ) → length v ≡ 8 * W → ((k : ℕ) → k < w + 1 → word v k ≡ over s m k) → ((k : ℕ) → w + 1 ≤ k → word v k ≡ m k)
          → (k : ℕ) → word (carried v (listed s n (w + 1))) k ≡ over s m k)
          → word (carried v (pair_of w o (listed s n (w + 1)))) k ≡ over s m k
      go none q r =
          r v l (λ j h. by_eq j w (λ d. rw d (b w (omega arith) ∙ sym (over_none s m w q))) (λ d. a j (omega arith)))
          (λ j h. b j (omega arith)) k
      go (some x) q r =
          let z = f w x q in
          rw (carried_pair v w x (listed s n (w + 1)) (omega arith))
          (r (put_word v w x) (length_put_word v w x ∙ l)
          (λ j h. by_eq j w (λ d. rw d (word_put v w x w (omega arith) z.2 ∙ rw (eq-eqb w w refl) (sym (over_some s m w x q))))
          (λ d. word_other v w x j d ∙ a j (omega arith)))
          (λ j h. word_other v w x j (omega arith) ∙ b j (omega arith)) k)

  group_lands : (s : Stores) (v : List ℕ) → Each (Fit W) s → length v ≡ 8 * W → word (carried v (listed s W 0)) ≡ over s (word v)
  group_lands s v f l = fun_ext (lands_from s (word v) f W 0 v (omega arith) l (λ k h. absurd (omega arith)) (λ k h. refl))

  -- a cut past the first group: that group landed, and the cut falls in the rest
  leaves_next : (s : Stores) (gs : List Stores) (g : ℕ) (kept : ℕ → Bool) (v : List ℕ)
      → leaves 8 (cut (suc g) kept) v (store_list W (s ∷ gs)) ≡ leaves 8 (cut g kept) (carried v (listed s W 0)) (store_list W gs)
  unfolding leaves store_list carried
  leaves_next s gs g kept v =
      let r = store_list W gs in
      let o : carried v (listed s W 0 ++ fence ∷ 0 ∷ before g r) ≡ carried (carried v (listed s W 0)) (before g r) =
      carried_append v (fence ∷ 0 ∷ before g r) (rises W s) in
      rw (before_next short g r (rises W s), group_next short g r (rises W s), o)

  -- The words of what the power leaves of a list.
  pub leaves_left : (gs : List Stores) → Fits W gs → (p : Power) (v : List ℕ) → length v ≡ 8 * W
      → word (leaves 8 p v (store_list W gs)) ≡ left gs p (word v)
  unfolding leaves left landed carried store_list before group part over
  leaves_left [] f held v l = refl
  leaves_left [] f (cut zero kept) v l = fun_ext (λ k. word_mixed kept v v k refl ∙ by_bool (kept k) (λ e. rw e) (λ e. rw e))
  leaves_left [] f (cut (suc g) kept) v l = fun_ext (λ k. word_mixed kept v v k refl ∙ by_bool (kept k) (λ e. rw e) (λ e. rw e))
  leaves_left (s ∷ gs) f held v l =
      ap word (carried_append v (fence ∷ 0 ∷ store_list W gs) (rises W s))
      ∙ leaves_left gs f.1 held (carried v (listed s W 0)) (length_carried v (listed s W 0) ∙ l)
      ∙ ap (landed gs) (group_lands s v f.0 l)
  leaves_left (s ∷ gs) f (cut zero kept) v l =
      rw (group_first short (store_list W gs) (rises W s))
      (fun_ext (λ k. word_mixed kept v (carried v (listed s W 0)) k (sym (length_carried v (listed s W 0)))
      ∙ by_bool (kept k) (λ e. rw e (ap (λ (m : Mem). m k) (group_lands s v f.0 l))) (λ e. rw e)))
  leaves_left (s ∷ gs) f (cut (suc g) kept) v l =
      ap word (leaves_next s gs g kept v)
      ∙ leaves_left gs f.1 (cut g kept) (carried v (listed s W 0)) (length_carried v (listed s W 0) ∙ l)
      ∙ ap (left gs (cut g kept)) (group_lands s v f.0 l)

-- Volumes.

pub record Sizes (P N : ℕ) : Type 0 where
  pub most_pages : P ≤ 4096
  pub some_inodes : 8 ≤ N
  pub most_inodes : N ≤ 256
  pub whole : N % 8 ≡ 0
  pub room : N / 8 + 4 ≤ P

pub sizes_parts : (P N : ℕ) → sizes_ok P N ≡ true → Sizes P N
unfolding sizes_ok
sizes_parts P N h =
    record {
      most_pages = leb-true P 4096 (search ands);
      some_inodes = leb-true 8 N (search ands);
      most_inodes = leb-true N 256 (search ands);
      whole = eqb-true (N % 8) 0 (search ands);
      room = leb-true (N / 8 + 4) P (search ands);
    }

pub record Volume (len : ℕ) (m : Mem) : Type 0 where
  pub sizes : sizes_ok (m 0) (m 1) ≡ true
  pub kind : m 2 ≡ 1
  pub bytes : len ≡ 512 * m 0

pub volume_parts : (len : ℕ) (m : Mem) → is_volume len m ≡ true → Volume len m
unfolding is_volume
volume_parts len m h =
    record { sizes = search ands; kind = eqb-true (m 2) 1 (search ands); bytes = eqb-true len (512 * m 0) (search ands) }

pub volume_short : (len : ℕ) (m : Mem) → is_volume len m ≡ true → 64 * m 0 ≤ fence
volume_short len m h = let s = sizes_parts (m 0) (m 1) (volume_parts len m h).sizes in omega arith

-- Landed whole, a list leaves what carry out leaves, whatever the lent memory holds after it.
pub carry_leaves : (v : List ℕ) (gs : List Stores) (rest : List ℕ) → is_volume (length v) (word v) ≡ true
    → (let l = store_list (64 * word v 0) gs in carry_out v (l ++ rest) (length l) ≡ done (leaves 8 held v l))
unfolding carry_out list_checks leaves
carry_leaves v gs rest h =
    let W = 64 * word v 0 in
    let l = store_list W gs in
    let n : length l ≤ length (l ++ rest) = simp length-append (omega arith) in
    rw (
      h,
      eq-eqb (length l % 2) 0 (list_even W gs),
      le-ltb _ (length l) n,
      take-append_seam l rest,
      list_pairs W (volume_short (length v) (word v) h) gs,
      list_ends W gs,
    )
