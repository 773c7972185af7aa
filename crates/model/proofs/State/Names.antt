-- Lists of names: what stands in a list, and in one with a name put in or taken out; where names are distinct, how long it is and how often
-- it leads to an inode. By induction on the list.
use Rattle.model.proofs.Prelude.{◌≡◌, refl, sym, ◌∙◌, subst, ℕ, ◌+◌, ◌≤◌, Bool, true, false, cond, List, [], ◌∷◌, ◌++◌, map-append, arith, length, take, length-append, eqb}
use Rattle.model.specs.Lists.{bit, filter, foldl, count}
use Rattle.model.specs.Entry.{Entry, write_entry, size_entry, add_entry, remove_entry, no_entry}
use Rattle.model.specs.State.{Names, is_named, without, with_name, name_step, inode_of, inodes}
use Rattle.model.proofs.Tests.{by_bool, no, cond_neither, bit_same, bit_other}
use Rattle.model.proofs.Lists.{same_true, same_refl, same_ne, same_sym, count_append, count_one}

-- whether a name stands in a list
unfoldable pub stands_in : List ℕ → Names → Bool
stands_in n [] = false
stands_in n (p ∷ ps) = let r = stands_in n ps in cond (is_named n p) true r

abbrev pub DistinctNames : Names → Type 0
DistinctNames [] = Unit {0}
DistinctNames (p ∷ ps) = (stands_in p.0 ps ≡ false) × DistinctNames ps

-- Taking out, one name at a time.

module _ (n : List ℕ) (p : List ℕ × ℕ) (ps : Names) where
  pub without_same : is_named n p ≡ true → without n (p ∷ ps) ≡ without n ps
  unfolding without filter
  without_same e = rw (filter, e)

  pub without_other : is_named n p ≡ false → without n (p ∷ ps) ≡ p ∷ without n ps
  unfolding without filter
  without_other e = rw (filter, e)

  pub not_in : stands_in n (p ∷ ps) ≡ false → (is_named n p ≡ false) × (stands_in n ps ≡ false)
  unfolding stands_in
  not_in e = cond_neither (is_named n p) (stands_in n ps) e

pub without_absent : (n : List ℕ) (ns : Names) → stands_in n ns ≡ false → without n ns ≡ ns
unfolding without filter
without_absent n [] e = refl
without_absent n (p ∷ ps) e = let c = not_in n p ps e in rw (without_other n p ps c.0, without_absent n ps c.1)

-- What stands, and what is distinct, after it.

absent_without : (n a : List ℕ) (ns : Names) → stands_in n ns ≡ false → stands_in n (without a ns) ≡ false
unfolding without filter stands_in
absent_without n a [] e = refl
absent_without n a (p ∷ ps) e =
    let c = not_in n p ps e in
    let r = absent_without n a ps c.1 in
    by_bool (is_named a p) (λ t. rw (without_same a p ps t) r) (λ t. rw (without_other a p ps t, stands_in, c.0) r)

gone_without : (n : List ℕ) (ns : Names) → stands_in n (without n ns) ≡ false
unfolding without filter stands_in
gone_without n [] = refl
gone_without n (p ∷ ps) =
    by_bool (is_named n p) (λ t. rw (without_same n p ps t) (gone_without n ps))
    (λ t. rw (without_other n p ps t, stands_in, t) (gone_without n ps))

absent_snoc : (n a : List ℕ) (i : ℕ) (ns : Names) → stands_in n ns ≡ false → is_named n (a, i) ≡ false
    → stands_in n (ns ++ (a, i) ∷ []) ≡ false
unfolding stands_in
absent_snoc n a i [] e d = rw d
absent_snoc n a i (p ∷ ps) e d = let c = not_in n p ps e in rw (stands_in, c.0) (absent_snoc n a i ps c.1 d)

pub distinct_without : (n : List ℕ) (ns : Names) → DistinctNames ns → DistinctNames (without n ns)
unfolding without filter
distinct_without n [] d = d
distinct_without n (p ∷ ps) d =
    let r = distinct_without n ps d.1 in
    by_bool (is_named n p) (λ t. rw (without_same n p ps t) r) (λ t. rw (without_other n p ps t) (absent_without p.0 n ps d.0, r))

distinct_snoc : (n : List ℕ) (i : ℕ) (ns : Names) → stands_in n ns ≡ false → DistinctNames ns → DistinctNames (ns ++ (n, i) ∷ [])
unfolding stands_in
distinct_snoc n i [] e d = (refl, tt)
distinct_snoc n i (p ∷ ps) e d =
    let c = not_in n p ps e in
    (absent_snoc p.0 n i ps d.0 (same_sym n p.0 ∙ c.0), distinct_snoc n i ps c.1 d.1)

pub distinct_with : (n : List ℕ) (i : ℕ) (ns : Names) → DistinctNames ns → DistinctNames (with_name n i ns)
unfolding with_name
distinct_with n i ns d = distinct_snoc n i (without n ns) (gone_without n ns) (distinct_without n ns d)

-- entries come to distinct names
pub distinct_fold : (es : List Entry) (ns : Names) → DistinctNames ns → DistinctNames (foldl name_step ns es)
unfolding foldl name_step
distinct_fold [] ns h = h
distinct_fold (e ∷ es) ns h = distinct_fold es (name_step ns e) (distinct_step e)
  where
    distinct_step : (e : Entry) → DistinctNames (name_step ns e)
    distinct_step (write_entry f d c z) = h
    distinct_step (size_entry z) = h
    distinct_step (add_entry i l f) = distinct_with (take l f) i ns h
    distinct_step (remove_entry l f) = distinct_without (take l f) ns h
    distinct_step no_entry = h

-- The inode that a name leads to.

pub inode_of_absent : (ns : Names) (n : List ℕ) → stands_in n ns ≡ false → inode_of ns n ≡ 0
unfolding inode_of
inode_of_absent [] n e = refl
inode_of_absent (p ∷ ps) n e = let c = not_in n p ps e in rw (inode_of, c.0) (inode_of_absent ps n c.1)

pub inode_of_stands : (ns : Names) (n : List ℕ) → stands_in n ns ≡ true → 1 ≤ count (inode_of ns n) (inodes ns)
unfolding inode_of stands_in count
inode_of_stands [] n e = no e
inode_of_stands (p ∷ ps) n e =
    by_bool (is_named n p)
    (λ t. rw (inode_of, t) (let b = bit_same p.1 p.1 refl in omega arith))
    (λ t. let r = inode_of_stands ps n (rw (stands_in, t) at e) in
    let s : inode_of (p ∷ ps) n ≡ inode_of ps n = rw (inode_of, t) in
    subst (λ x. 1 ≤ count x (inodes (p ∷ ps))) (sym s) (omega arith))

pub inode_of_without : (ns : Names) (a b : List ℕ) → (a ≡ b → ⊥) → inode_of (without a ns) b ≡ inode_of ns b
unfolding inode_of without filter
inode_of_without [] a b d = refl
inode_of_without (p ∷ ps) a b d =
    let r = inode_of_without ps a b d in
    by_bool (is_named a p)
    (λ t. rw (without_same a p ps t, r, inode_of, same_ne p.0 b (λ e. d (sym (same_true p.0 a t) ∙ e))))
    (λ t. rw (without_other a p ps t) (by_bool (is_named b p) (λ s. rw (inode_of, s)) (λ s. rw (inode_of, s) r)))

pub inode_of_gone : (ns : Names) (n : List ℕ) → inode_of (without n ns) n ≡ 0
inode_of_gone ns n = inode_of_absent (without n ns) n (gone_without n ns)

inode_of_snoc : (ns : Names) (a : List ℕ) (i : ℕ) (b : List ℕ) → (a ≡ b → ⊥) → inode_of (ns ++ (a, i) ∷ []) b ≡ inode_of ns b
unfolding inode_of
inode_of_snoc [] a i b d = rw (same_ne a b d)
inode_of_snoc (p ∷ ps) a i b d = by_bool (is_named b p) (λ s. rw (inode_of, s)) (λ s. rw (inode_of, s) (inode_of_snoc ps a i b d))

pub inode_of_with : (ns : Names) (a : List ℕ) (i : ℕ) (b : List ℕ) → (a ≡ b → ⊥) → inode_of (with_name a i ns) b ≡ inode_of ns b
unfolding with_name
inode_of_with ns a i b d = inode_of_snoc (without a ns) a i b d ∙ inode_of_without ns a b d

inode_of_end : (ns : Names) (n : List ℕ) (i : ℕ) → stands_in n ns ≡ false → inode_of (ns ++ (n, i) ∷ []) n ≡ i
unfolding inode_of
inode_of_end [] n i e = rw (same_refl n)
inode_of_end (p ∷ ps) n i e = let c = not_in n p ps e in rw (inode_of, c.0) (inode_of_end ps n i c.1)

pub inode_of_put : (ns : Names) (n : List ℕ) (i : ℕ) → inode_of (with_name n i ns) n ≡ i
unfolding with_name
inode_of_put ns n i = inode_of_end (without n ns) n i (gone_without n ns)

-- Lengths.

pub length_without : (n : List ℕ) (ns : Names) → DistinctNames ns → length (without n ns) + bit (stands_in n ns) ≡ length ns
unfolding stands_in bit without filter
length_without n [] d = refl
length_without n (p ∷ ps) d =
    by_bool (is_named n p)
    (λ t. rw (without_same n p ps t, stands_in, t, without_absent n ps (rw (same_true p.0 n t) at d.0)) (omega arith))
    (λ t. let r = length_without n ps d.1 in rw (without_other n p ps t, stands_in, t) (omega arith))

pub length_with : (n : List ℕ) (i : ℕ) (ns : Names) → length (with_name n i ns) ≡ length (without n ns) + 1
unfolding with_name
length_with n i ns = rw length-append

-- How often a list leads to inode j.

pub count_without : (j : ℕ) (n : List ℕ) (ns : Names) → DistinctNames ns → 1 ≤ j
    → count j (inodes (without n ns)) + bit (eqb j (inode_of ns n)) ≡ count j (inodes ns)
unfolding count inode_of without filter
count_without j n [] d l = rw (bit_other j 0 (omega arith))
count_without j n (p ∷ ps) d l =
    by_bool (is_named n p)
    (λ t. rw (without_same n p ps t, inode_of, t, without_absent n ps (rw (same_true p.0 n t) at d.0)) (omega arith))
    (λ t. let r = count_without j n ps d.1 l in rw (without_other n p ps t, inode_of, t) (omega arith))

pub count_less : (j : ℕ) (n : List ℕ) (ns : Names) → count j (inodes (without n ns)) ≤ count j (inodes ns)
unfolding count without filter
count_less j n [] = omega arith
count_less j n (p ∷ ps) =
    let r = count_less j n ps in
    by_bool (is_named n p) (λ t. rw (without_same n p ps t) (omega arith)) (λ t. rw (without_other n p ps t) (omega arith))

pub count_with : (j : ℕ) (n : List ℕ) (i : ℕ) (ns : Names)
    → count j (inodes (with_name n i ns)) ≡ count j (inodes (without n ns)) + bit (eqb j i)
unfolding with_name
count_with j n i ns = simp (map-append, count_append, count_one)
