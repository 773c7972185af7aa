-- How often a page serves a file after an append: no more than before, but for the pages of its data, which serve once more each.
use Rattle.model.proofs.Prelude.{◌≡◌, refl, sym, ℕ, suc, ◌+◌, ◌-◌, ◌*◌, ◌≤◌, ◌&&◌, List, [], ◌∷◌, arith, sub_self, length, get_or, leb, eqb, eq-eqb, ne_eqb}
use Rattle.model.specs.Lists.{bit, count, sum_below}
use Rattle.model.specs.Entry.{size_entry}
use Rattle.model.specs.State.{File, file_step}
use Rattle.model.specs.Accept.{mapped_to}
use Rattle.model.proofs.Tests.{by_bool, by_eq, within, inside, outside, by_range}
use Rattle.model.proofs.Lists.{sum_below_add, sum_below_le, sum_below_once}
use Rattle.model.proofs.State.Append.{mapping}

-- whether number i is one of those from a on that stand on the pages ds, and stands on page p
abbrev on_page : ℕ → List ℕ → ℕ → ℕ → ℕ
on_page a ds p i = bit (within a (a + length ds) i && eqb (get_or ds (i - a) 0) p)

on_none : (a p i : ℕ) → on_page a [] p i ≡ 0
unfolding bit
on_none a p i = rw (outside a (a + 0) i (λ x y. omega arith))

on_more : (a d : ℕ) (ds : List ℕ) (p i : ℕ) → on_page a (d ∷ ds) p i ≤ bit (eqb i a && eqb p d) + on_page (a + 1) ds p i
unfolding bit
on_more a d ds p i =
    by_eq i a
    (λ q. rw (q, eq-eqb a a refl, inside a (a + suc (length ds)) a (omega arith) (omega arith), sub_self a)
    (by_eq p d (λ e. rw (eq-eqb p d e, eq-eqb d p (sym e)) (omega arith)) (λ e. rw (ne_eqb d p (λ x. e (sym x))) (omega arith))))
    (λ q. by_range (a + 1) (a + 1 + length ds) i
    (λ t x y. let k : i - a ≡ suc (i - (a + 1)) = omega arith in rw (t, inside a (a + suc (length ds)) i (omega arith) (omega arith), k) (omega arith))
    (λ t x. rw (outside a (a + suc (length ds)) i (λ u v. x (omega arith) (omega arith))) (omega arith)))

on_pages : (n a : ℕ) (ds : List ℕ) (p : ℕ) → sum_below n (on_page a ds p) ≤ count p ds
unfolding count bit
on_pages n a [] p =
    let z = (sum_below_once n 0 (eqb 0 1) (on_page a [] p) (λ i. rw (on_none a p i) (omega arith)) (λ i q. on_none a p i)).0 in
    let b : bit (eqb 0 1) ≡ 0 = refl in omega arith
on_pages n a (d ∷ ds) p =
    let r = on_pages n (a + 1) ds p in
    let first : ℕ → ℕ = λ i. bit (eqb i a && eqb p d) in
    let s = sum_below_add n (on_page a (d ∷ ds) p) first (on_page (a + 1) ds p) (λ i l. on_more a d ds p i) in
    let o = (sum_below_once n a (eqb p d) first (λ i. by_bool (eqb i a) (λ t. rw t (omega arith)) (λ t. rw t (omega arith))) (λ i q. rw (ne_eqb i a q))).0 in
    omega arith

-- the pages of data, all c of them
pub mapped_data : (f : File) (a c : ℕ) (ds : List ℕ) (z p : ℕ) → length ds ≡ c → mapped_to (mapping f a c ds z) p ≤ mapped_to f p + count p ds
unfolding mapped_to bit
mapped_data f a c ds z p n =
    let x = on_pages 128 a ds p in
    let y = sum_below_add 128 (λ i. bit (eqb ((mapping f a c ds z).page i) p)) (λ i. bit (eqb (f.page i) p)) (on_page a ds p)
    (λ i _. rw n (by_range a (a + c) i (λ t l h. rw t (omega arith)) (λ t h. rw t (omega arith)))) in
    omega arith

-- a set size
pub mapped_size : (f : File) (s p : ℕ) → (p ≡ 0 → ⊥) → mapped_to (file_step f (size_entry s)) p ≤ mapped_to f p
unfolding mapped_to file_step bit
mapped_size f s p n =
    sum_below_le 128 (λ i. bit (eqb ((file_step f (size_entry s)).page i) p)) (λ i. bit (eqb (f.page i) p))
    (λ i _. by_bool (leb s (512 * i)) (λ t. rw (t, ne_eqb 0 p (λ e. n (sym e))) (omega arith)) (λ t. rw t (omega arith)))
