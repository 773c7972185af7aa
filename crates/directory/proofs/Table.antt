-- A table of places, read one place after another.
use Rattle.model.proofs.Prelude.{ℕ, zero, suc, ◌+◌, ◌*◌, ◌-◌, ◌≤◌, ◌<◌, ◌≡◌, sym, ◌∙◌, true, List, ◌∷◌, arith, sub-one, length, take, get_or, length-map, length-take, ext_get_or, get_or-take, leb-true}
use Rattle.model.specs.Lists.{all, values_from}
use Rattle.model.specs.Words.{Mem}
use Rattle.model.proofs.Tests.{ands}
use Rattle.model.proofs.Lists.{all_cons, all_has, has_get_or, length_values, values_at}
use Rattle.directory.specs.Fields.{name_at}
use Rattle.directory.specs.Places.{places_from, standing, place_ok, Filled}

-- a table's first places
take_places : (t : List ℕ) (n : ℕ) → n ≤ length t → take n t ≡ places_from t 0 n
unfolding places_from
take_places t n h =
    let f : ℕ → ℕ = λ j. get_or t j 0 in
    let e : length (take n t) ≡ n = rw length-take (omega arith) in
    ext_get_or 0 (take n t) (values_from f 0 n) (e ∙ sym (length_values f 0 n))
    (λ i l.
    let k : i < n = rw e at l in
    let z : 0 + i ≡ i = omega arith in
    get_or-take n t i 0 k ∙ sym (rw z at (values_at f 0 n i k)))

pub places_first : (t : List ℕ) (i n : ℕ) → 0 < n → places_from t i n ≡ get_or t i 0 ∷ places_from t (i + 1) (n - 1)
unfolding places_from values_from
places_first t i zero l = absurd (omega arith)
places_first t i (suc n) l = rw sub-one

-- The places that are left, n from the i-th on; p is the one that the code read.

module _ (m : Mem) (L : ℕ) (t : List ℕ) (n i p : ℕ) (a : all (place_ok m L) (places_from t i n) ≡ true) (l : 0 < n)
    (e : p ≡ get_or t i 0) where
  first_ok : (place_ok m L p ≡ true) × (all (place_ok m L) (places_from t (i + 1) (n - 1)) ≡ true)
  first_ok = rw e (all_cons (place_ok m L) (get_or t i 0) (places_from t (i + 1) (n - 1)) (rw (places_first t i n l) at a))

  pub place_in : 8 * (8 * p) + 64 ≤ L
  place_in = let k = first_ok.0 in let h : 64 * p + 64 ≤ L = leb-true (64 * p + 64) L (search ands) in omega arith

  pub places_skip : all (place_ok m L) (places_from t (i + 1) (n - 1)) ≡ true
  places_skip = first_ok.1

-- A table as a whole.

module _ (m : Mem) (L : ℕ) (t : List ℕ) (n : ℕ) (f : Filled m L n t) where
  pub standing_length : length (standing m (take n t)) ≡ n
  unfolding standing
  standing_length =
      let h = f.few in
      let g = f.long in
      length-map (take n t) (λ (p : ℕ). (name_at m (8 * p), m (8 * p + 1))) ∙ length-take n t ∙ omega arith

  pub first_places : take n t ≡ places_from t 0 n
  first_places = let h = f.few in let g = f.long in take_places t n (omega arith)

  pub places_start : all (place_ok m L) (places_from t 0 n) ≡ true
  places_start = rw first_places at f.oks

  -- p is the i-th of the first n places, as the code read it
  module _ (i p : ℕ) (l : i < length (take n t)) (e : p ≡ get_or (take n t) i 0) where
    pub next_ok : place_ok m L p ≡ true
    next_ok = rw e (all_has (place_ok m L) (get_or (take n t) i 0) (take n t) f.oks (has_get_or (take n t) i l))

    pub next_in : 8 * (8 * p) + 64 ≤ L
    next_in = let k = next_ok in let h : 64 * p + 64 ≤ L = leb-true (64 * p + 64) L (search ands) in omega arith
