-- Every store list that a call fills is one that carry out takes and that lands as it stands: from the shape of a list of groups (Crash/Landing) and
-- from what each call's groups store (ThirdDemand).
use Rattle.model.proofs.Prelude.{◌≡◌, refl, ℕ, zero, suc, ◌+◌, ◌*◌, ◌^◌, ◌≤◌, true, List, [], ◌∷◌, ◌++◌, Option, none, some, arith, length, drop, le-leb, lt-ltb}
use Rattle.model.specs.Words.{word}
use Rattle.model.specs.Stores.{Stores, fence, pair_of, listed, store_list}
use Rattle.model.specs.Answer.{refused, done, Checks, first_refusal}
use Rattle.model.specs.Calls.{groups}
use Rattle.model.specs.Public.{is_volume, is_accepted, volume_checks, call_checks, fills}
use Rattle.model.specs.Accept.{accepted}
use Rattle.model.specs.Promises.{ascending, storable, NoneOutside, ListsFine}
use Rattle.model.proofs.Tests.{by_bool, ands}
use Rattle.model.proofs.Words.{word_lt}
use Rattle.model.proofs.Crash.Stores.{Each}
use Rattle.model.proofs.Crash.Landing.{Rising, rising_end, rising, group_rising, list_pairs, list_ends, Fit, Fits, volume_parts, volume_short, carry_leaves}
use Rattle.model.proofs.Crash.History.{Passed}
use Rattle.model.proofs.ThirdDemand.{every_call_safe}
use Rattle.model.proofs.Lengths.{list_most, most_fits}

-- a list that ascends
rising_ascends : {a b : ℕ} {l : List ℕ} → Rising a b l → ascending a l ≡ true
unfolding ascending
rising_ascends rising_end = refl
rising_ascends (rising {a = a} {i = i} h g r) = rw (le-leb a i h) (rising_ascends r)

-- what is stored is storable, and so is a fence
group_storable : (W : ℕ) (s : Stores) (r : List ℕ) → Each (Fit W) s → storable r ≡ true → (n w : ℕ) → storable (listed s n w ++ r) ≡ true
unfolding listed storable
group_storable W s r f h zero w = h
group_storable W s r f h (suc n) w = go (s w) refl (group_storable W s r f h n (w + 1))
  where
    go : (o : Option ℕ) → s w ≡ o → storable (listed s n (w + 1) ++ r) ≡ true → storable (pair_of w o (listed s n (w + 1)) ++ r) ≡ true
    go none e i = i
    go (some x) e i = let b = f w x e in rw (lt-ltb 2 w (omega arith), lt-ltb x (2 ^ 64) b.2) i

list_storable : (W : ℕ) (gs : List Stores) → Fits W gs → storable (store_list W gs) ≡ true
unfolding store_list storable
list_storable W [] f = refl
list_storable W (s ∷ gs) f = group_storable W s (fence ∷ 0 ∷ store_list W gs) f.0 (list_storable W gs f.1) W 0

-- what stores only inside the volume stores nothing past it
none_outside : (W : ℕ) (gs : List Stores) → Fits W gs → NoneOutside W gs
none_outside W [] f = tt
none_outside W (s ∷ gs) f = (λ w h. go w h (s w) refl, none_outside W gs f.1)
  where
    go : (w : ℕ) → W ≤ w → (o : Option ℕ) → s w ≡ o → o ≡ none
    go w h none e = refl
    go w h (some x) e = let b = f.0 w x e in absurd (omega arith)

-- an answer that is done passed every check
passed : {A : Type 0} (ts : Checks) (a b : A) → first_refusal ts (done a) ≡ done b → Passed ts × (a ≡ b)
passed [] a b e = (tt, cc)
passed (t ∷ ts) a b e =
    by_bool t.0 (λ h. let z : refused t.1 ≡ done b = rw h at e in let y : ◌≡◌ {A = ℕ} 0 1 = cc in absurd (omega arith))
    (λ h. let r = passed ts a b (rw h at e) in ((h, r.0), r.1))

pub lists_fine : ListsFine
unfolding fills call_checks volume_checks is_accepted
lists_fine v b a c n list ws e =
    let m = word v in
    let is_volume_lem : is_volume (length v) m ≡ true = search ands in
    let acc : accepted m (m 0) (m 1) ≡ true = search ands in
    let sizes = (volume_parts (length v) m is_volume_lem).sizes in
    let short = volume_short (length v) m is_volume_lem in
    let p = passed (call_checks (length v) m (length list) c) (store_list (64 * m 0) (groups m (m 0) (m 1) c)) ws e in
    let gs = groups m (m 0) (m 1) c in
    let most = list_most c (m 0) (m 1) (64 * m 0) m acc p.0.1.1.1.1 in
    let s = every_call_safe c (m 0) (m 1) m sizes acc (λ w. word_lt v w b) n p.0.1.1.1.0 p.0.1.1.1.1 in
    rw (← p.1) (record {
      short = most;
      fits = let f = most_fits c in omega arith;
      groups_ascend = λ g. rising_ascends (group_rising (64 * m 0) short gs g);
      words_storable = list_storable (64 * m 0) gs s.fits;
      none_outside = none_outside (64 * m 0) gs s.fits;
      indices_inside = list_pairs (64 * m 0) short gs;
      last_fence = list_ends (64 * m 0) gs;
      carried_out = carry_leaves v gs (drop (length (store_list (64 * m 0) gs)) list) is_volume_lem;
    })
