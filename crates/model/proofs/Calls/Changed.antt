-- What a call changes: one inode or two get a longer or another log, the others read as before, or are let go, or are new and empty. So the
-- uses of a page grow by what the call takes, and no page serves twice.
use Rattle.model.proofs.Prelude.{◌≡◌, refl, sym, ◌∙◌, ⊎_elim, ℕ, zero, suc, ◌+◌, ◌≤◌, ◌<◌, true, false, cond, List, [], arith, le_of_eq, le-leb, eqb, eqb-true, eq-eqb, ne_eqb}
use Rattle.model.specs.Lists.{bit, all_below, sum_below, all, count, foldl}
use Rattle.model.specs.Words.{Mem}
use Rattle.model.specs.Layout.{valid_word, tail_word, type_word, is_directory}
use Rattle.model.specs.Log.{pages}
use Rattle.model.specs.State.{empty_file, file_of, names_of}
use Rattle.model.specs.Accept.{is_valid, folders_of, mapped_to, uses_by, uses, free, free_count, valid_ok, type_ok, log_ok, end_ok, inode_ok, view_ok}
use Rattle.model.proofs.Tests.{by_bool, by_eq}
use Rattle.model.proofs.Lists.{sum_below_le, sum_below_add}
use Rattle.model.proofs.Log.Extend.{empty_log}
use Rattle.model.proofs.Frame.Inode.{Agree, same_uses_by, same_inode_ok}
use Rattle.model.proofs.Frame.View.{fine_inode, view_fine, fine_view, file_is, inode_ok_lem, log_ok_lem}
use Rattle.model.proofs.State.Folders.{FoldersFine}
use Rattle.model.proofs.State.FoldersOk.{fine_folders}
use Rattle.model.proofs.Calls.Room.{free_in_lem, free_bounds, Lone}

-- a sum of which only the summand at k grows, by e
sum_grow : (n k : ℕ) (f g : ℕ → ℕ) (e : ℕ) → ((i : ℕ) → i < n → (i ≡ k → ⊥) → g i ≤ f i) → g k ≤ f k + e → sum_below n g ≤ sum_below n f + e
unfolding sum_below
sum_grow zero k f g e h o = omega arith
sum_grow (suc n) k f g e h o =
    by_eq n k
    (λ q. let r = sum_below_le n g f (λ i l. h i (omega arith) (omega arith)) in let t : g n ≤ f n + e = rw q o in omega arith)
    (λ q. let r = sum_grow n k f g e (λ i l. h i (omega arith)) o in let t = h n (omega arith) q in omega arith)

-- two summands grow
sum_grow_two : (n j k : ℕ) (f g : ℕ → ℕ) (d e : ℕ) → (j ≡ k → ⊥) → ((i : ℕ) → i < n → (i ≡ j → ⊥) → (i ≡ k → ⊥) → g i ≤ f i)
    → g j ≤ f j + d → g k ≤ f k + e → sum_below n g ≤ sum_below n f + (d + e)
sum_grow_two n j k f g d e apart h a b =
    let t : ℕ → ℕ = λ i. cond (eqb i k) (f i) (g i) in
    let first : sum_below n t ≤ sum_below n f + d =
    sum_grow n j f t d (λ i l q. by_eq i k (λ z. rw (eq-eqb i k z) (omega arith)) (λ z. rw (ne_eqb i k z) (h i l q z)))
    (rw (ne_eqb j k apart) a) in
    let second : sum_below n g ≤ sum_below n t + e =
    sum_grow n k t g e (λ i l z. rw (ne_eqb i k z) (omega arith)) (rw (eq-eqb k k refl) b) in omega arith

-- An inode whose tail is 0: it has no pages, and its file is empty.
module _ (u : Mem) (P N i : ℕ) (t : u (tail_word i) ≡ 0) where
  new_pages : pages u P N i ≡ []
  unfolding pages
  new_pages = rw (empty_log u P N i t).0

  pub new_file : file_of u P N i ≡ empty_file
  unfolding file_of foldl
  new_file = rw (empty_log u P N i t).1

  pub new_names : names_of u P N i ≡ []
  unfolding names_of foldl
  new_names = rw (empty_log u P N i t).1

  new_log_ok : log_ok u P N i ≡ true
  unfolding log_ok all
  new_log_ok = rw ((empty_log u P N i t).0, (empty_log u P N i t).1) (by_bool (is_directory u i) (λ e. rw e) (λ e. rw e))

empty_mapped : (p : ℕ) → (p ≡ 0 → ⊥) → mapped_to empty_file p ≡ 0
unfolding mapped_to empty_file bit sum_below
empty_mapped p n = simp (ne_eqb 0 p (λ e. n (sym e)))

empty_end : (u : Mem) → end_ok u empty_file ≡ true
unfolding end_ok empty_file all_below
empty_end u = refl

-- An inode beside those that change: valid and kept word for word, not valid before and after, let go, or new and empty.
pub data After (m u : Mem) (P N i : ℕ) : Type 0 where
  kept : is_valid m i ≡ true → Agree m u P N i → After m u P N i
  idle : is_valid m i ≡ false → u (valid_word i) ≡ m (valid_word i) → After m u P N i
  gone : (i ≡ 0 → ⊥) → u (valid_word i) ≡ 0 → After m u P N i
  made : is_valid m i ≡ false → (i ≡ 0 → ⊥) → u (valid_word i) ≡ 1 → u (tail_word i) ≡ 0 → u (type_word i) ≤ 1 → After m u P N i

module _ (m u : Mem) (P N : ℕ) (ok : view_ok m P N ≡ true) (i : ℕ) (l : i < N) where
  -- such an inode uses no page more than before
  uses_after : (p : ℕ) → (p ≡ 0 → ⊥) → After m u P N i → uses_by u P N p i ≤ uses_by m P N p i
  unfolding uses_by count
  uses_after p n (kept v a) = le_of_eq (same_uses_by m u P N i (log_ok_lem m P N ok i l v) a p)
  uses_after p n (idle v e) = rw (e, v) (omega arith)
  uses_after p n (gone c e) = rw e (omega arith)
  uses_after p n (made v c e t y) =
      rw (e, new_pages u P N i t, new_file u P N i t, empty_mapped p n)
      (by_bool (is_directory u i) (λ b. rw b (omega arith)) (λ b. rw b (omega arith)))

  -- such an inode is as it should be
  inode_after : After m u P N i → inode_ok u P N i ≡ true
  unfolding inode_ok valid_ok type_ok
  inode_after (kept v a) = same_inode_ok m u P N i (log_ok_lem m P N ok i l v) a ∙ inode_ok_lem m P N ok i l
  inode_after (idle v e) = rw (e, v) (rw v at (inode_ok_lem m P N ok i l))
  inode_after (gone n e) = rw (e, ne_eqb i 0 n)
  inode_after (made v n e t y) =
      rw (e, ne_eqb i 0 n, le-leb _ 1 y, new_log_ok u P N i t, new_file u P N i t, empty_end u)
      (by_bool (eqb (u (type_word i)) 1) (λ b. rw b) (λ b. rw b))

-- Inode k with a longer log, or with another one: ls are its fresh pages, and e p is how often page p is a fresh data page.
pub record Grew (m u : Mem) (P N k : ℕ) (ls : List ℕ) (e : ℕ → ℕ) : Type 0 where
  pub below : k < N
  pub was_valid : is_valid m k ≡ true
  pub is_valid_lem : is_valid u k ≡ true
  pub same_type : is_directory u k ≡ is_directory m k
  pub type_fine : type_ok u k ≡ true
  pub log_fine : log_ok u P N k ≡ true
  pub longer : (p : ℕ) → count p (pages u P N k) ≤ count p (pages m P N k) + count p ls
  pub maps : is_directory m k ≡ false → (p : ℕ) → (p ≡ 0 → ⊥) → mapped_to (file_of u P N k) p ≤ mapped_to (file_of m P N k) p + e p
  pub ends : is_directory m k ≡ false → end_ok u (file_of u P N k) ≡ true

module _ {m u : Mem} {P N k : ℕ} {ls : List ℕ} {e : ℕ → ℕ} (c : Grew m u P N k ls e) where
  -- what it uses
  own_uses : (p : ℕ) → (p ≡ 0 → ⊥) → uses_by u P N p k ≤ uses_by m P N p k + (count p ls + e p)
  unfolding uses_by
  own_uses p n =
      let h = c.longer p in
      rw (c.was_valid, c.is_valid_lem, c.same_type)
      (by_bool (is_directory m k) (λ q. rw q (omega arith)) (λ q. let g = c.maps q p n in rw q (omega arith)))

  -- it is as it should be
  own_ok : inode_ok u P N k ≡ true
  unfolding valid_ok
  own_ok =
      fine_inode u P N k (record {
        valid_word_lem = by_bool (eqb k 0) (λ d. rw d c.is_valid_lem) (λ d. rw (d, eqb-true (u (valid_word k)) 1 c.is_valid_lem));
        type_word_lem = λ v. c.type_fine;
        log = λ v. c.log_fine;
        end = λ f. c.ends (sym c.same_type ∙ (file_is u k f).0);
      })

-- u comes from m by a call that takes page p `taken p` times
pub record Changed (m u : Mem) (P N : ℕ) (taken : ℕ → ℕ) : Type 0 where
  pub some_inode : 0 < N
  pub was_fine : view_ok m P N ≡ true
  pub inodes : (i : ℕ) → i < N → inode_ok u P N i ≡ true
  pub grows : (p : ℕ) → (p ≡ 0 → ⊥) → uses u P N p ≤ uses m P N p + taken p
  pub lone : Lone m P N taken
  pub folders : FoldersFine N (is_valid u) (is_directory u) (folders_of u P N)

module _ {m u : Mem} {P N : ℕ} (some : 0 < N) (ok : view_ok m P N ≡ true)
    (fine : FoldersFine N (is_valid u) (is_directory u) (folders_of u P N)) where
  -- one inode has another log
  pub changed_one : {k : ℕ} {ls : List ℕ} {e : ℕ → ℕ} → Grew m u P N k ls e → Lone m P N (λ p. count p ls + e p)
      → ((i : ℕ) → i < N → (i ≡ k → ⊥) → After m u P N i) → Changed m u P N (λ p. count p ls + e p)
  unfolding uses
  changed_one {k} {ls} {e} c lone others = record {
    some_inode = some;
    was_fine = ok;
    inodes = λ i l. by_eq i k (λ q. rw q (own_ok c)) (λ q. inode_after m u P N ok i l (others i l q));
    grows = λ p n.
        sum_grow N k (uses_by m P N p) (uses_by u P N p) (count p ls + e p)
        (λ i b q. uses_after m u P N ok i b p n (others i b q)) (own_uses c p n);
    lone = lone;
    folders = fine;
  }

  -- two have
  pub changed_two : {j k : ℕ} {ls ks : List ℕ} {d e : ℕ → ℕ} → (j ≡ k → ⊥) → Grew m u P N j ls d → Grew m u P N k ks e
      → Lone m P N (λ p. count p ls + d p + (count p ks + e p))
      → ((i : ℕ) → i < N → (i ≡ j → ⊥) → (i ≡ k → ⊥) → After m u P N i) → Changed m u P N (λ p. count p ls + d p + (count p ks + e p))
  unfolding uses
  changed_two {j} {k} {ls} {ks} {d} {e} apart a b lone others = record {
    some_inode = some;
    was_fine = ok;
    inodes = λ i l. by_eq i j (λ q. rw q (own_ok a))
        (λ q. by_eq i k (λ z. rw z (own_ok b)) (λ z. inode_after m u P N ok i l (others i l q z)));
    grows = λ p n.
        sum_grow_two N j k (uses_by m P N p) (uses_by u P N p) (count p ls + d p) (count p ks + e p) apart
        (λ i l q z. uses_after m u P N ok i l p n (others i l q z)) (own_uses a p n) (own_uses b p n);
    lone = lone;
    folders = fine;
  }

module _ {m u : Mem} {P N : ℕ} {taken : ℕ → ℕ} (c : Changed m u P N taken) where
  -- no page serves twice
  once_after : (p : ℕ) → p < P → (p ≡ 0 → ⊥) → uses u P N p ≤ 1
  once_after p l n =
      let was = view_fine m P N c.was_fine in
      let g = c.grows p n in
      ⊎_elim (λ z. let a = was.once p l n in omega arith)
      (λ z. let a = (free_in_lem m P N p z.0).1 in let b = z.1 in omega arith) (c.lone p)

  -- a page that was free and that the call does not take is free
  still_free : (p : ℕ) → bit (free m P N p) ≤ bit (free u P N p) + taken p
  unfolding free bit
  still_free p =
      by_bool (free m P N p)
      (λ f.
      let i = free_in_lem m P N p f in
      let g = c.grows p (λ z. let b = free_bounds m P N p f in omega arith) in
      by_eq (taken p) 0 (λ z. rw (f, i.0, eq-eqb (uses u P N p) 0 (omega (arith, i.1))) (omega arith)) (λ z. rw f (omega arith)))
      (λ f. rw f (omega arith))

  -- the view after the call
  pub changed_fine : view_ok u P N ≡ true
  changed_fine =
      let f = fine_folders u P N c.some_inode c.folders in
      fine_view u P N (record { inodes = c.inodes; folders = λ d l. f.0 d; named = f.1; once = once_after })

  -- all free pages are still free, but for those that the call takes
  pub changed_free : free_count m P N ≤ free_count u P N + sum_below P taken
  unfolding free_count
  changed_free = sum_below_add P (λ p. bit (free m P N p)) (λ p. bit (free u P N p)) taken (λ p l. still_free p)
