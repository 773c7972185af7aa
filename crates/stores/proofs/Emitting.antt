-- Laws of words put into a list one after the other: two runs are one run, and what is left to put gives what there was to put.
use Rattle.model.proofs.Prelude.{ℕ, suc, ◌+◌, ◌≤◌, ◌≡◌, refl, sym, ap, ◌∙◌, List, [], ◌∷◌, ◌++◌, arith, add-zero, length, set, take, drop, length-append, sets, length-sets, sets-eq}
use Rattle.stores.specs.Emitted.{Emitted}

pub sets_append : (xs ys l : List ℕ) (i : ℕ) → sets l i (xs ++ ys) ≡ sets (sets l i xs) (i + length xs) ys
sets_append [] ys l i = rw add-zero
sets_append (x ∷ xs) ys l i =
    sets_append xs ys (set l i x) (suc i) ∙ ap (λ (k : ℕ). sets (sets (set l i x) (suc i) xs) k ys) (omega arith)

module _ {l : List ℕ} {at : ℕ} {xs : List ℕ} {r : ℕ} {m : List ℕ} (e : Emitted l at xs r m) where
  -- the list keeps its length
  pub same_length : length m ≡ length l
  same_length = rw e.list (length-sets l at xs)

  -- what an emission leaves, by parts
  pub emitted_parts : at + length xs ≤ length l → m ≡ take at l ++ xs ++ drop r l
  emitted_parts h = rw e.end (e.list ∙ sets-eq xs l at h)

  -- words that are put in two runs
  put_rest : (ys : List ℕ) → sets m r ys ≡ sets l at (xs ++ ys)
  put_rest ys = rw (e.list, e.end) (sym (sets_append xs ys l at))

  -- one emission, and another behind it
  pub emitted_both : {ys : List ℕ} {s : ℕ} {p : List ℕ} → Emitted m r ys s p → Emitted l at (xs ++ ys) s p
  emitted_both {ys} f = record { end = rw length-append (omega (arith, e.end, f.end)); list = f.list ∙ put_rest ys }

-- The state of a loop that is to put the words xs into the list l from index `at` on: the list is m by now, and the words ys
-- are left to put, from index a on.
pub record Rest (l : List ℕ) (at : ℕ) (xs : List ℕ) (m : List ℕ) (a : ℕ) (ys : List ℕ) : Type 0 where
  pub long : length m ≡ length l
  pub end : a + length ys ≡ at + length xs
  pub list : sets m a ys ≡ sets l at xs

pub rest_all : (l : List ℕ) (at : ℕ) (xs : List ℕ) → Rest l at xs l at xs
rest_all l at xs = record { long = refl; end = refl; list = refl }

module _ {l : List ℕ} {at : ℕ} {xs m : List ℕ} {a : ℕ} where
  pub rest_none : Rest l at xs m a [] → Emitted l at xs a m
  rest_none q = record { end = omega (arith, q.end); list = q.list }

  module _ (ys zs : List ℕ) (q : Rest l at xs m a (ys ++ zs)) where
    -- a turn that puts ys
    pub rest_next : {b : ℕ} {n : List ℕ} → Emitted m a ys b n → Rest l at xs n b zs
    rest_next e =
        record {
          long = same_length e ∙ q.long;
          end = omega (arith, q.end, e.end, length-append ys zs);
          list = put_rest e zs ∙ q.list;
        }
