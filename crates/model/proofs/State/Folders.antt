-- Folders that an accepted volume may hold, and that they are so after each call: said of lists of names, valid inodes and types alone.
use Rattle.model.proofs.Prelude.{◌≡◌, refl, sym, ◌∙◌, ap, ◌⊎◌, inl, inr, ⊎_elim, ℕ, ◌+◌, ◌≤◌, ◌<◌, Bool, true, false, List, arith, length, eqb}
use Rattle.model.specs.Lists.{bit, has, count}
use Rattle.model.specs.State.{Names, inodes, inode_of, without, with_name}
use Rattle.model.specs.Tree.{Folders, name_count, parent_of, is_beneath}
use Rattle.model.proofs.Tests.{by_bool, by_eq, clash, bit_same, bit_other}
use Rattle.model.proofs.Lists.{sum_below_one, has_count, count_has}
use Rattle.model.proofs.Tree.{with_folder, Reaches, up, reaches_above, reaches_kept, reaches_moved, parent_is, parent_holds, parent_same, with_here, with_other, count_changed}
use Rattle.model.proofs.State.Names.{stands_in, DistinctNames, distinct_without, distinct_with, inode_of_absent, inode_of_stands, inode_of_without, length_without, length_with, count_without, count_less, count_with}

-- how often folder d leads to inode k
abbrev pub holds : Folders → ℕ → ℕ → ℕ
holds F d k = count k (inodes (F d))

pub record FoldersFine (N : ℕ) (valid dir : ℕ → Bool) (F : Folders) : Type 0 where
  pub distinct : (d : ℕ) → DistinctNames (F d)
  pub short : (d : ℕ) → length (F d) ≤ 224
  pub child : (d k : ℕ) → 1 ≤ holds F d k → (1 ≤ k) × (k < N) × (valid k ≡ true)
  pub folder : (d k : ℕ) → 1 ≤ holds F d k → (d < N) × (valid d ≡ true) × (dir d ≡ true)
  pub named : (k : ℕ) → k < N → 1 ≤ k → valid k ≡ true → 1 ≤ name_count N F k
  pub once : (k : ℕ) → k < N → 1 ≤ k → valid k ≡ true → dir k ≡ true → name_count N F k ≡ 1
  pub reached : (k : ℕ) → k < N → valid k ≡ true → dir k ≡ true → Reaches N F k

-- a valid folder
abbrev pub Is : ℕ → (ℕ → Bool) → (ℕ → Bool) → ℕ → Type 0
Is N valid dir k = (k < N) × (valid k ≡ true) × (dir k ≡ true)

-- parents are the same where each folder leads to k as often
pub parent_kept : (N : ℕ) (F F' : Folders) (k : ℕ) → ((d : ℕ) → holds F' d k ≡ holds F d k) → parent_of N F' k ≡ parent_of N F k
parent_kept N F F' k h =
    parent_same N F F' k (λ d l. let e = h d in
    by_bool (has k (inodes (F d)))
    (λ t. let c = has_count k (inodes (F d)) t in rw t (count_has k (inodes (F' d)) (omega arith)))
    (λ t. rw t (by_bool (has k (inodes (F' d)))
    (λ s. let c = has_count k (inodes (F' d)) s in absurd (clash (has k (inodes (F d))) (count_has k (inodes (F d)) (omega arith)) t))
    (λ s. s))))

pub count_some : (N : ℕ) (G : Folders) (x k : ℕ) → x < N → 1 ≤ holds G x k → 1 ≤ name_count N G k
unfolding name_count
count_some N G x k l h = let s = sum_below_one N x (λ d. count k (inodes (G d))) l in omega arith

-- One folder's names change from F d to ns.
module _ (F : Folders) (d : ℕ) (ns : Names) where
  pub holds_there : (k : ℕ) → holds (with_folder d ns F) d k ≡ count k (inodes ns)
  holds_there k = rw (with_here 0 F d ns)

  pub holds_else : (x k : ℕ) → (x ≡ d → ⊥) → holds (with_folder d ns F) x k ≡ holds F x k
  holds_else x k n = rw (with_other 0 F d ns x n)

  -- what holds of ns and of every folder holds of every folder after it
  pub each_folder : (Q : ℕ → Names → Type 0) → Q d ns → ((x : ℕ) → Q x (F x)) → (x : ℕ) → Q x (with_folder d ns F x)
  each_folder Q a b x = by_eq x d (λ e. rw (e, with_here 0 F d ns) a) (λ e. rw (with_other 0 F d ns x e) (b x))

module _ (N : ℕ) (valid dir : ℕ → Bool) (F : Folders) (fine : FoldersFine N valid dir F) where
  pub parent_folder : 0 < N → (k : ℕ) → Is N valid dir k → (k ≡ 0 → ⊥) → Is N valid dir (parent_of N F k)
  parent_folder g k i z =
      fine.folder (parent_of N F k) k
      (has_count k (inodes (F (parent_of N F k))) (parent_holds N F k (fine.named k i.0 (omega arith) i.1)))

  stood_in : (ns : Names) (n : List ℕ) → (inode_of ns n ≡ 0 → ⊥) → bit (stands_in n ns) ≡ 1
  unfolding bit
  stood_in ns n z = by_bool (stands_in n ns) (λ t. rw t) (λ t. absurd (z (inode_of_absent ns n t)))

  stood : (n : List ℕ) (d : ℕ) → (inode_of (F d) n ≡ 0 → ⊥) → bit (stands_in n (F d)) ≡ 1
  stood n d z = stood_in (F d) n z

  -- a name that leads somewhere
  pub leads_to_lem : (d : ℕ) (n : List ℕ) → (inode_of (F d) n ≡ 0 → ⊥) → 1 ≤ holds F d (inode_of (F d) n)
  leads_to_lem d n z = by_bool (stands_in n (F d)) (λ t. inode_of_stands (F d) n t) (λ t. absurd (z (inode_of_absent (F d) n t)))

  -- A new name of inode i in folder e: link, and with a new inode create.
  module _ (e : ℕ) (b : List ℕ) (i : ℕ) (some : 1 ≤ i) (new : inode_of (F e) b ≡ 0) where
    abbrev added : Folders
    added = with_folder e (with_name b i (F e)) F

    pub added_there : (k : ℕ) → 1 ≤ k → holds added e k ≡ holds F e k + bit (eqb k i)
    added_there k l =
        let h = holds_there F e (with_name b i (F e)) k in
        let w = count_with k b i (F e) in
        let o = count_without k b (F e) (fine.distinct e) l in
        let z = bit_other k (inode_of (F e) b) (omega arith) in omega arith

    pub added_else : (x k : ℕ) → 1 ≤ k → (k ≡ i → ⊥) → holds added x k ≡ holds F x k
    added_else x k l n =
        by_eq x e (λ q. rw q (let h = added_there k l in let o = bit_other k i n in omega arith))
        (λ q. holds_else F e (with_name b i (F e)) x k q)

    pub added_count : e < N → (k : ℕ) → 1 ≤ k → name_count N added k ≡ name_count N F k + bit (eqb k i)
    added_count g k l =
        let c = count_changed N F e (with_name b i (F e)) g k in
        let h = added_there k l in
        let t = holds_there F e (with_name b i (F e)) k in omega arith

    pub added_cases : (x k : ℕ) → 1 ≤ holds added x k → ((x ≡ e) × (k ≡ i)) ⊎ (1 ≤ holds F x k)
    added_cases x k h =
        by_eq x e
        (λ q. by_eq k i (λ p. inl (q, p))
        (λ p.
        let t = holds_there F e (with_name b i (F e)) k in
        let h' : 1 ≤ holds added e k = rw q at h in
        let w = count_with k b i (F e) in
        let l = count_less k b (F e) in
        let o = bit_other k i p in inr (rw q (omega arith))))
        (λ q. let t = holds_else F e (with_name b i (F e)) x k q in inr (omega arith))

    added_short : length (F e) < 224 → (x : ℕ) → length (added x) ≤ 224
    added_short r =
        each_folder F e (with_name b i (F e)) (λ x ns. length ns ≤ 224)
        (let a = length_with b i (F e) in let c = length_without b (F e) (fine.distinct e) in omega arith) fine.short

    added_distinct : (x : ℕ) → DistinctNames (added x)
    added_distinct =
        each_folder F e (with_name b i (F e)) (λ x ns. DistinctNames ns) (distinct_with b i (F e) (fine.distinct e)) fine.distinct

    module _ (is : Is N valid dir e) (room : length (F e) < 224) (below : i < N) where
      -- the ways up of the folders other than i
      added_reached : (k : ℕ) → (k ≡ i → ⊥) → ((x : ℕ) → holds F i x ≡ 0) → Is N valid dir k → Reaches N added k
      added_reached k n empty s =
          reaches_kept N F added (λ x. Is N valid dir x × (x ≡ i → ⊥))
          (λ x p z. (
            parent_folder (omega (arith, is.0)) x p.0 z,
            λ q.
                let c = has_count x (inodes (F (parent_of N F x))) (parent_holds N F x (fine.named x p.0.0 (omega arith) p.0.1)) in
                let o : holds F (parent_of N F x) x ≡ 0 = rw q (empty x) in omega arith,
          ))
          (λ x p z. inl (parent_kept N F added x (λ d. added_else d x (omega arith) p.1)))
          (fine.reached k s.0 s.1 s.2) (s, n)

      pub link_fine : valid i ≡ true → dir i ≡ false → FoldersFine N valid dir added
      link_fine v t = record {
        distinct = added_distinct;
        short = added_short room;
        child = λ x k h. ⊎_elim (λ q. rw q.1 (some, below, v)) (fine.child x k) (added_cases x k h);
        folder = λ x k h. ⊎_elim (λ q. rw q.0 is) (fine.folder x k) (added_cases x k h);
        named = λ k l g w. let c = added_count is.0 k g in let f = fine.named k l g w in omega arith;
        once = λ k l g w f.
            let c = added_count is.0 k g in
            let o = bit_other k i (λ q. clash (dir i) (rw q at f) t) in
            let z = fine.once k l g w f in omega arith;
        reached = λ k l w f.
            added_reached k (λ q. clash (dir i) (rw q at f) t)
            (λ x. by_eq (holds F i x) 0 (λ z. z) (λ z. clash (dir i) (fine.folder i x (omega arith)).2 t)) (l, w, f);
      }

      -- inode i becomes valid, as a file or a folder
      module _ (valid' dir' : ℕ → Bool) (was : valid i ≡ false) (set : valid' i ≡ true)
          (valids : (k : ℕ) → (k ≡ i → ⊥) → valid' k ≡ valid k) (dirs : (k : ℕ) → (k ≡ i → ⊥) → dir' k ≡ dir k) where
        unnamed_yet : (x : ℕ) → holds F x i ≡ 0
        unnamed_yet x = by_eq (holds F x i) 0 (λ z. z) (λ z. clash (valid i) (fine.child x i (omega arith)).2 was)

        empty_yet : (x : ℕ) → holds F i x ≡ 0
        empty_yet x = by_eq (holds F i x) 0 (λ z. z) (λ z. clash (valid i) (fine.folder i x (omega arith)).1 was)

        not_yet : name_count N F i ≡ 0
        not_yet =
            by_eq (name_count N F i) 0 (λ z. z)
            (λ z. let h = has_count i (inodes (F (parent_of N F i))) (parent_holds N F i (omega arith)) in
            let o = unnamed_yet (parent_of N F i) in absurd (omega arith))

        e_other : e ≡ i → ⊥
        e_other q = clash (valid i) (rw q at is.1) was

        pub create_fine : FoldersFine N valid' dir' added
        create_fine = record {
          distinct = added_distinct;
          short = added_short room;
          child = λ x k h. ⊎_elim (λ q. rw q.1 (some, below, set))
              (λ g. let f = fine.child x k g in
              (f.0, f.1, valids k (λ q. clash (valid i) (rw q at f.2) was) ∙ f.2)) (added_cases x k h);
          folder = λ x k h. ⊎_elim (λ q. rw q.0 (is.0, valids e e_other ∙ is.1, dirs e e_other ∙ is.2))
              (λ g. let f = fine.folder x k g in
              let n : x ≡ i → ⊥ = λ q. clash (valid i) (rw q at f.1) was in
              (f.0, valids x n ∙ f.1, dirs x n ∙ f.2)) (added_cases x k h);
          named = λ k l g w.
              let c = added_count is.0 k g in
              by_eq k i (λ q. let o = bit_same k i q in omega arith) (λ q. let f = fine.named k l g (sym (valids k q) ∙ w) in omega arith);
          once = λ k l g w f.
              let c = added_count is.0 k g in
              by_eq k i (λ q. let o = bit_same k i q in let z = ap (name_count N F) q ∙ not_yet in omega arith)
              (λ q. let o = bit_other k i q in let z = fine.once k l g (sym (valids k q) ∙ w) (sym (dirs k q) ∙ f) in omega arith);
          reached = λ k l w f.
              by_eq k i
              (λ q.
              let c = added_count is.0 i some in
              let o = bit_same i i refl in
              let h = added_there i some in
              let p = parent_is N added i e (omega (arith, not_yet)) is.0 (count_has i (inodes (added e)) (omega arith)) in
              rw q (up i (rw p (added_reached e e_other empty_yet is))))
              (λ q. added_reached k q empty_yet (l, sym (valids k q) ∙ w, sym (dirs k q) ∙ f));
        }

  pub no_zero : name_count N F 0 ≡ 0
  no_zero =
      by_eq (name_count N F 0) 0 (λ z. z)
      (λ z. let c = fine.child (parent_of N F 0) 0 (has_count 0 (inodes (F (parent_of N F 0))) (parent_holds N F 0 (omega arith))) in
      absurd (omega (arith, c.0)))

  -- A name less of inode j, which goes with its last one; j is 0 where no name goes. Nothing lies in j.
  module _ (j : ℕ) (valid' : ℕ → Bool) (keeps : (k : ℕ) → (k ≡ j → ⊥) → valid' k ≡ valid k)
      (more : (name_count N F j ≡ 1 → ⊥) → valid' j ≡ valid j) (clears : name_count N F j ≡ 1 → valid' j ≡ false) where
    was_valid : (k : ℕ) → valid' k ≡ true → valid k ≡ true
    was_valid k w =
        by_eq k j
        (λ q. by_eq (name_count N F j) 1 (λ c. absurd (clash (valid' k) w (rw q (clears c)))) (λ c. rw q (sym (more c) ∙ (rw q at w))))
        (λ q. sym (keeps k q) ∙ w)

    -- a folder that goes had one name
    not_gone : (k : ℕ) → k < N → 1 ≤ k → valid' k ≡ true → dir k ≡ true → k ≡ j → ⊥
    not_gone k l g w f q = clash (valid' j) (rw q at w) (clears (rw q at (fine.once k l g (was_valid k w) f)))

    pub less_fine : (F' : Folders) → ((d : ℕ) → DistinctNames (F' d)) → ((d : ℕ) → length (F' d) ≤ 224)
        → ((k : ℕ) → 1 ≤ k → name_count N F' k + bit (eqb k j) ≡ name_count N F k)
        → ((x k : ℕ) → 1 ≤ holds F' x k → Is N valid dir x × (1 ≤ k) × (k < N) × (valid k ≡ true))
        → ((j ≡ 0 → ⊥) → (x : ℕ) → holds F' j x ≡ 0)
        → ((k : ℕ) → Is N valid dir k → ((j ≡ 0 → ⊥) → k ≡ j → ⊥) → Reaches N F' k) → FoldersFine N valid' dir F'
    less_fine F' distinct' short' less cases empty reach = record {
      distinct = distinct';
      short = short';
      child = λ x k h.
          let c = cases x k h in (
            c.1,
            c.2,
            by_eq k j
                (λ q.
                let s = count_some N F' x k c.0.0 h in
                let t = less k c.1 in
                let o = bit_same k j q in
                rw q (more (λ z. let y : name_count N F k ≡ 1 = rw q z in omega arith) ∙ (rw q at c.3)))
                (λ q. keeps k q ∙ c.3),
          );
      folder = λ x k h.
          let c = (cases x k h).0 in (
            c.0,
            by_eq x j
                (λ q. by_eq j 0
                (λ z. rw q (more (λ y. let n = no_zero in let y' : name_count N F 0 ≡ 1 = rw z at y in omega arith) ∙ (rw q at c.1)))
                (λ z. let o = empty z k in let h' : 1 ≤ holds F' j k = rw q at h in absurd (omega arith)))
                (λ q. keeps x q ∙ c.1),
            c.2,
          );
      named = λ k l g w.
          let t = less k g in
          let f = fine.named k l g (was_valid k w) in
          by_eq k j
          (λ q. let o = bit_same k j q in
          by_eq (name_count N F j) 1 (λ c. absurd (clash (valid' k) w (rw q (clears c)))) (λ c. let y = ap (name_count N F) q in omega arith))
          (λ q. let o = bit_other k j q in omega arith);
      once = λ k l g w f.
          let t = less k g in
          let o = bit_other k j (not_gone k l g w f) in
          let z = fine.once k l g (was_valid k w) f in omega arith;
      reached = λ k l w f. reach k (l, was_valid k w, f) (λ z q. not_gone k l (omega (arith, q, z)) w f q);
    }

    -- Unlink: name n of folder d, which leads to j.
    module _ (d : ℕ) (n : List ℕ) (is : Is N valid dir d) (leads : inode_of (F d) n ≡ j) (there : j ≡ 0 → ⊥)
        (empty : (x : ℕ) → holds F j x ≡ 0) where
      abbrev removed : Folders
      removed = with_folder d (without n (F d)) F

      pub removed_count : (k : ℕ) → 1 ≤ k → name_count N removed k + bit (eqb k j) ≡ name_count N F k
      removed_count k l =
          let c = count_changed N F d (without n (F d)) is.0 k in
          let w : count k (inodes (without n (F d))) + bit (eqb k j) ≡ holds F d k =
          rw leads at (count_without k n (F d) (fine.distinct d) l) in
          omega arith

      removed_less : (x k : ℕ) → holds removed x k ≤ holds F x k
      removed_less x k =
          by_eq x d (λ q. rw q (let h = holds_there F d (without n (F d)) k in let l = count_less k n (F d) in omega arith))
          (λ q. let h = holds_else F d (without n (F d)) x k q in omega arith)

      removed_else : (x k : ℕ) → 1 ≤ k → (k ≡ j → ⊥) → holds removed x k ≡ holds F x k
      removed_else x k l z =
          by_eq x d
          (λ q. rw q (let h = holds_there F d (without n (F d)) k in
          let w : count k (inodes (without n (F d))) + bit (eqb k j) ≡ holds F d k =
          rw leads at (count_without k n (F d) (fine.distinct d) l) in
          let o = bit_other k j z in omega arith))
          (λ q. holds_else F d (without n (F d)) x k q)

      pub unlink_fine : FoldersFine N valid' dir removed
      unlink_fine =
          less_fine removed
          (each_folder F d (without n (F d)) (λ x ns. DistinctNames ns) (distinct_without n (F d) (fine.distinct d)) fine.distinct)
          (each_folder F d (without n (F d)) (λ x ns. length ns ≤ 224)
          (let c = length_without n (F d) (fine.distinct d) in let s = fine.short d in omega arith) fine.short)
          removed_count
          (λ x k h. let l = removed_less x k in let a = fine.folder x k (omega arith) in let b = fine.child x k
          (omega arith) in (a, b.0, b.1, b.2))
          (λ z x. let l = removed_less j x in let o = empty x in omega arith)
          (λ k s z.
          reaches_kept N F removed (λ x. Is N valid dir x × (x ≡ j → ⊥))
          (λ x p t. (
            parent_folder (omega (arith, is.0)) x p.0 t,
            λ q.
                let c = has_count x (inodes (F (parent_of N F x))) (parent_holds N F x (fine.named x p.0.0 (omega arith) p.0.1)) in
                let o : holds F (parent_of N F x) x ≡ 0 = rw q (empty x) in omega arith,
          ))
          (λ x p t. inl (parent_kept N F removed x (λ y. removed_else y x (omega arith) p.1)))
          (fine.reached k s.0 s.1 s.2) (s, z there))

    -- Rename and move: name a of folder d, which leads to i, becomes name b of folder e, which led to j (0: it is new). d and e may be one
    -- folder.
    module _ (d : ℕ) (a : List ℕ) (e : ℕ) (b : List ℕ) (i : ℕ) (from : Is N valid dir d) (to : Is N valid dir e)
        (leads : inode_of (F d) a ≡ i) (onto : inode_of (F e) b ≡ j) (there : i ≡ 0 → ⊥) (other : i ≡ j → ⊥)
        (files : (j ≡ 0 → ⊥) → (dir i ≡ false) × (dir j ≡ false)) (beside : dir i ≡ true → is_beneath N F i e ≡ false)
        (room : (d ≡ e → ⊥) → j ≡ 0 → length (F e) < 224) where
      abbrev taken : Folders
      taken = with_folder d (without a (F d)) F

      abbrev moved : Folders
      moved = with_folder e (with_name b i (taken e)) taken

      taken_distinct : (x : ℕ) → DistinctNames (taken x)
      taken_distinct =
          each_folder F d (without a (F d)) (λ x ns. DistinctNames ns) (distinct_without a (F d) (fine.distinct d)) fine.distinct

      -- the name b stands in e as before
      still_onto : inode_of (taken e) b ≡ j
      still_onto =
          by_eq e d
          (λ q. ap (λ x. inode_of (taken x) b) q ∙ rw (with_here 0 F d (without a (F d)))
          (inode_of_without (F d) a b (λ p. other (sym leads ∙ ap (inode_of (F d)) p ∙ ap (λ x. inode_of (F x) b) (sym q) ∙ onto))
          ∙ ap (λ x. inode_of (F x) b) (sym q) ∙ onto))
          (λ q. rw (with_other 0 F d (without a (F d)) e q) onto)

      taken_less : (x k : ℕ) → holds taken x k ≤ holds F x k
      taken_less x k =
          by_eq x d (λ q. rw q (let h = holds_there F d (without a (F d)) k in let l = count_less k a (F d) in omega arith))
          (λ q. let h = holds_else F d (without a (F d)) x k q in omega arith)

      taken_else : (x k : ℕ) → 1 ≤ k → (k ≡ i → ⊥) → holds taken x k ≡ holds F x k
      taken_else x k l z =
          by_eq x d
          (λ q. rw q (let h = holds_there F d (without a (F d)) k in
          let w : count k (inodes (without a (F d))) + bit (eqb k i) ≡ holds F d k =
          rw leads at (count_without k a (F d) (fine.distinct d) l) in
          let o = bit_other k i z in omega arith))
          (λ q. holds_else F d (without a (F d)) x k q)

      taken_count : (k : ℕ) → 1 ≤ k → name_count N taken k + bit (eqb k i) ≡ name_count N F k
      taken_count k l =
          let c = count_changed N F d (without a (F d)) from.0 k in
          let w : count k (inodes (without a (F d))) + bit (eqb k i) ≡ holds F d k =
          rw leads at (count_without k a (F d) (fine.distinct d) l) in
          omega arith

      moved_there : (k : ℕ) → 1 ≤ k → holds moved e k + bit (eqb k j) ≡ holds taken e k + bit (eqb k i)
      moved_there k l =
          let h = holds_there taken e (with_name b i (taken e)) k in
          let w = count_with k b i (taken e) in
          let o : count k (inodes (without b (taken e))) + bit (eqb k j) ≡ holds taken e k =
          rw still_onto at (count_without k b (taken e) (taken_distinct e) l) in
          omega arith

      pub moved_count : (k : ℕ) → 1 ≤ k → name_count N moved k + bit (eqb k j) ≡ name_count N F k
      moved_count k l =
          let c = count_changed N taken e (with_name b i (taken e)) to.0 k in
          let h = holds_there taken e (with_name b i (taken e)) k in
          let t = moved_there k l in
          let u = taken_count k l in omega arith

      moved_else : (x k : ℕ) → 1 ≤ k → (k ≡ i → ⊥) → (k ≡ j → ⊥) → holds moved x k ≡ holds F x k
      moved_else x k l z y =
          let t = taken_else x k l z in
          by_eq x e
          (λ q. let m = moved_there k l in let o = bit_other k i z in let p = bit_other k j y in
          let t' = taken_else e k l z in ap (λ x. holds moved x k) q ∙ (let r : holds moved e k ≡ holds F e k = omega arith in r)
          ∙ ap (λ x. holds F x k) (sym q))
          (λ q. holds_else taken e (with_name b i (taken e)) x k q ∙ t)

      moved_cases : (x k : ℕ) → 1 ≤ holds moved x k → ((x ≡ e) × (k ≡ i)) ⊎ (1 ≤ holds F x k)
      moved_cases x k h =
          let t = taken_less x k in
          by_eq x e
          (λ q. by_eq k i (λ p. inl (q, p))
          (λ p.
          let h' : 1 ≤ holds moved e k = rw q at h in
          let s = holds_there taken e (with_name b i (taken e)) k in
          let w = count_with k b i (taken e) in
          let l = count_less k b (taken e) in
          let o = bit_other k i p in
          let t' = taken_less e k in inr (rw q (omega arith))))
          (λ q. let s = holds_else taken e (with_name b i (taken e)) x k q in inr (omega arith))

      held : 1 ≤ holds F d i
      held = rw leads at (leads_to_lem d a (λ z. there (sym leads ∙ z)))

      i_first : 1 ≤ i
      i_first = (fine.child d i held).0

      moved_short : length (moved e) ≤ 224
      moved_short =
          let w = length_with b i (taken e) in
          let c = length_without b (taken e) (taken_distinct e) in
          let s = fine.short e in
          rw (with_here 0 taken e (with_name b i (taken e))) (by_eq e d
          (λ q. let c' = length_without a (F d) (fine.distinct d) in
          let g : length (taken e) ≡ length (without a (F d)) = ap (λ x. length (taken x)) q ∙ rw (with_here 0 F d (without a (F d))) in
          let s' = fine.short d in
          let o : bit (stands_in a (F d)) ≡ 1 = stood a d (λ z. there (sym leads ∙ z)) in omega arith)
          (λ q. let g : length (taken e) ≡ length (F e) = rw (with_other 0 F d (without a (F d)) e q) in
          by_eq j 0 (λ z. let r = room (λ p. q (sym p)) z in omega arith)
          (λ z. let o : bit (stands_in b (taken e)) ≡ 1 = stood_in (taken e) b (λ y. z (sym still_onto ∙ y)) in omega arith)))

      moved_reached : (k : ℕ) → Is N valid dir k → Reaches N moved k
      moved_reached k s =
          by_bool (dir i)
          (λ t.
          let z : j ≡ 0 = by_eq j 0 (λ z. z) (λ z. clash (dir i) t (files z).0) in
          let c = moved_count i i_first in
          let m = moved_there i i_first in
          let o = bit_same i i refl in
          let o' = bit_other i j other in
          let y = fine.once i (fine.child d i held).1 i_first (fine.child d i held).2 t in
          reaches_moved N F moved (Is N valid dir) (parent_folder (omega (arith, from.0))) i e to
          (λ x p n q. parent_kept N F moved x (λ w. moved_else w x (omega arith) q (λ r. n (r ∙ z))))
          (parent_is N moved i e (omega arith) to.0 (count_has i (inodes (moved e)) (omega arith)))
          (beside t) (reaches_above N F (omega (arith, from.0)) e to.0 (fine.reached e to.0 to.1 to.2))
          (fine.reached k s.0 s.1 s.2) s)
          (λ t. reaches_kept N F moved (Is N valid dir) (parent_folder (omega (arith, from.0)))
          (λ x p n. inl (parent_kept N F moved x (λ w. moved_else w x (omega arith) (λ q. clash (dir i) (rw q at p.2) t)
          (λ q. by_eq j 0 (λ z. n (q ∙ z)) (λ z. clash (dir j) (rw q at p.2) (files z).1)))))
          (fine.reached k s.0 s.1 s.2) s)

      pub rename_fine : FoldersFine N valid' dir moved
      rename_fine =
          less_fine moved
          (each_folder taken e (with_name b i (taken e))
          (λ x ns. DistinctNames ns) (distinct_with b i (taken e) (taken_distinct e)) taken_distinct)
          (λ x. by_eq x e (λ q. rw q moved_short) (λ q. rw (with_other 0 taken e (with_name b i (taken e)) x q) (taken_short x)))
          moved_count
          (λ x k h. ⊎_elim (λ q. let c = fine.child d i held in rw (q.0, q.1) (to, c.0, c.1, c.2))
          (λ g. let c = fine.child x k g in (fine.folder x k g, c.0, c.1, c.2)) (moved_cases x k h))
          (λ z x. by_eq (holds moved j x) 0 (λ y. y)
          (λ y. ⊎_elim (λ q. clash (dir j) (rw q.0 to.2) (files z).1) (λ g. clash (dir j) (fine.folder j x g).2 (files z).1)
          (moved_cases j x (omega arith))))
          (λ k s z. moved_reached k s)
        where
          taken_short : (x : ℕ) → length (taken x) ≤ 224
          taken_short =
              each_folder F d (without a (F d)) (λ x ns. length ns ≤ 224)
              (let c = length_without a (F d) (fine.distinct d) in let s = fine.short d in omega arith) fine.short

-- Folders are fine also where the valid inodes and the types of these are given otherwise.
pub fine_same : (N : ℕ) (valid dir valid' dir' : ℕ → Bool) (F : Folders) → ((k : ℕ) → k < N → valid' k ≡ valid k)
    → ((k : ℕ) → k < N → valid k ≡ true → dir' k ≡ dir k) → FoldersFine N valid dir F → FoldersFine N valid' dir' F
fine_same N valid dir valid' dir' F vs ds f = record {
  distinct = f.distinct;
  short = f.short;
  child = λ d k h. let c = f.child d k h in (c.0, c.1, vs k c.1 ∙ c.2);
  folder = λ d k h. let c = f.folder d k h in (c.0, vs d c.0 ∙ c.1, ds d c.0 c.1 ∙ c.2);
  named = λ k l g v. f.named k l g (sym (vs k l) ∙ v);
  once = λ k l g v t. let w = sym (vs k l) ∙ v in f.once k l g w (sym (ds k l w) ∙ t);
  reached = λ k l v t. let w = sym (vs k l) ∙ v in f.reached k l w (sym (ds k l w) ∙ t);
}
