-- The cases that need more than the tests' values: a slice without a whole header, a product that fits, and the order of the tests.
use Rattle.model.proofs.Prelude.{ℕ, ◌*◌, ◌≤◌, ◌<◌, ◌≡◌, refl, sym, ◌∙◌, Bool, true, false, ◌&&◌, List, arith, eqb, length}
use mir.Syntax.{w64}
use mir.Val.{Fits}
use Rattle.model.specs.Words.{word}
use Rattle.model.specs.Layout.{sizes_ok}
use Rattle.model.specs.Public.{is_volume}
use Rattle.model.proofs.Tests.{not_true_false}
use Rattle.model.proofs.Crash.Landing.{sizes_parts, volume_parts}

-- `sizes_ok`: v is the value of the tests so far, t in the definition; a and b are the next tests, x the value with them.

module _ (t v a x : Bool) (h : v ≡ t) where
  pub one_goes : v ≡ true → x ≡ a → x ≡ t && a
  one_goes e f = rw (← h, e) f

  pub one_stays : v ≡ false → x ≡ v → x ≡ t && a
  one_stays e f = rw (← h, e) (f ∙ e)

module _ (t v a b x : Bool) (h : v ≡ t) where
  pub two_go : v ≡ true → x ≡ a && b → x ≡ t && a && b
  two_go e f = rw (← h, e) f

  pub two_stay : v ≡ false → x ≡ v → x ≡ t && a && b
  two_stay e f = rw (← h, e) (f ∙ e)

-- a volume has more than 4 pages, which are 2,048 bytes: a slice of fewer is none
pub too_short : (v : List ℕ) (n : ℕ) → n ≤ 2048 → length v < n → false ≡ is_volume (length v) (word v)
too_short v n l h =
    sym (not_true_false (is_volume (length v) (word v)) (λ e.
    let p = volume_parts (length v) (word v) e in
    let s = sizes_parts (word v 0) (word v 1) p.sizes in omega arith))

-- f is what `sizes_ok` answered: with good sizes the count of bytes is a number of 64 bits
pub bytes_fit : (P N : ℕ) (f : Bool) → f ≡ sizes_ok P N → f ≡ true → Fits w64 (512 * P)
bytes_fit P N f g h = let s = sizes_parts P N (sym g ∙ h) in record { fits = omega arith }

last_first : (a b c : Bool) → (a && b) && c ≡ (a && c) && b
last_first true true true = refl
last_first true true false = refl
last_first true false true = refl
last_first true false false = refl
last_first false b c = refl

-- f is what `sizes_fit` answered of the words p and i that were read; the code then looks at word 2, k
module _ (v : List ℕ) (p i : ℕ) (f : Bool) (hp : p ≡ word v 0) (hi : i ≡ word v 1) (g : f ≡ sizes_ok p i && eqb (length v) (512 * p)) where
  is_volume_lem : is_volume (length v) (word v) ≡ f && eqb (word v 2) 1
  unfolding is_volume
  is_volume_lem = rw (g, hp, hi) (last_first (sizes_ok (word v 0) (word v 1)) (eqb (word v 2) 1) (eqb (length v) (512 * word v 0)))

  pub sizes_wrong : f ≡ false → f ≡ is_volume (length v) (word v)
  sizes_wrong h = h ∙ sym (is_volume_lem ∙ rw h)

  pub kind_decides : (k : ℕ) → k ≡ word v 2 → f ≡ true → eqb k 1 ≡ is_volume (length v) (word v)
  kind_decides k e h = sym (is_volume_lem ∙ rw (h, e))
