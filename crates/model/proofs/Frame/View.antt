-- A whole view: its checks as parts and back, and that it reads the same where every valid inode does.
use Rattle.model.proofs.Prelude.{◌≡◌, sym, ◌∙◌, ap, fun_ext, ℕ, ◌≤◌, ◌<◌, true, false, ◌&&◌, and-false, [], Option, arith, ltb, eq-eqb, ne_eqb, ltb-true, leb-true, le-leb, not-true}
use Rattle.model.specs.Lists.{all, or_else}
use Rattle.model.specs.Words.{Mem}
use Rattle.model.specs.Layout.{valid_word, is_directory, in_pages, root}
use Rattle.model.specs.State.{Names, file_of}
use Rattle.model.specs.Accept.{is_valid, is_file, is_folder, folders_of, uses_by, uses, valid_ok, type_ok, log_ok, folder_ok, named_ok, serves_once, end_ok}
use Rattle.model.specs.Accept.{inode_ok, view_ok}
use Rattle.model.specs.FileMap.{map_of}
use Rattle.model.proofs.Tests.{by_bool, by_eq, ands}
use Rattle.model.proofs.Lists.{all_below_at, all_below_by, all_below_same, sum_below_same}
use Rattle.model.proofs.Frame.Placed.{in_bounds, leads_in, all_inodes}
use Rattle.model.proofs.Frame.Inode.{names_lead, Agree, same_directory, same_names, same_bytes, same_uses_by, same_inode_ok}

pub file_is : (u : Mem) (k : ℕ) → is_file u k ≡ true → (is_directory u k ≡ false) × (is_valid u k ≡ true)
file_is u k e = (not-true _ (search ands), search ands)

-- the parts of inode_ok
pub record InodeFine (u : Mem) (P N k : ℕ) : Type 0 where
  pub valid_word_lem : valid_ok u k ≡ true
  pub type_word_lem : is_valid u k ≡ true → type_ok u k ≡ true
  pub log : is_valid u k ≡ true → log_ok u P N k ≡ true
  pub end : is_file u k ≡ true → end_ok u (file_of u P N k) ≡ true

pub inode_fine : (u : Mem) (P N k : ℕ) → inode_ok u P N k ≡ true → InodeFine u P N k
unfolding inode_ok
inode_fine u P N k ok =
    record {
      valid_word_lem = search ands;
      type_word_lem = λ v. let h = rw v at ok in search ands;
      log = λ v. let h = rw v at ok in search ands;
      end = λ f. let g = file_is u k f in let h = rw (g.1, g.0) at ok in search ands;
    }

pub fine_inode : (u : Mem) (P N k : ℕ) → InodeFine u P N k → inode_ok u P N k ≡ true
unfolding inode_ok
fine_inode u P N k f =
    rw f.valid_word_lem (by_bool (is_valid u k)
    (λ v. rw (v, f.type_word_lem v, f.log v) (by_bool (is_directory u k) (λ c. rw c) (λ c. rw c (f.end (rw c v)))))
    (λ v. rw v))

-- the parts of view_ok
pub record Fine (u : Mem) (P N : ℕ) : Type 0 where
  pub inodes : (k : ℕ) → k < N → inode_ok u P N k ≡ true
  pub folders : (d : ℕ) → d < N → folder_ok u (folders_of u P N d) ≡ true
  pub named : (k : ℕ) → k < N → named_ok u N (folders_of u P N) k ≡ true
  pub once : (p : ℕ) → p < P → (p ≡ 0 → ⊥) → uses u P N p ≤ 1

pub view_fine : (u : Mem) (P N : ℕ) → view_ok u P N ≡ true → Fine u P N
unfolding view_ok serves_once
view_fine u P N ok =
    record {
      inodes = λ k l. all_below_at N k (inode_ok u P N) (search ands) l;
      folders = λ d l. all_below_at N d (λ d. folder_ok u (folders_of u P N d)) (search ands) l;
      named = λ k l. all_below_at N k (named_ok u N (folders_of u P N)) (search ands) l;
      once = λ p l n. leb-true (uses u P N p) 1 (rw (ne_eqb p 0 n) at (all_below_at P p (serves_once u P N) (search ands) l));
    }

pub fine_view : (u : Mem) (P N : ℕ) → Fine u P N → view_ok u P N ≡ true
unfolding view_ok serves_once
fine_view u P N f =
    let o : (p : ℕ) → p < P → serves_once u P N p ≡ true =
    λ p l. by_eq p 0 (λ c. rw (eq-eqb p 0 c)) (λ c. rw (ne_eqb p 0 c) (le-leb (uses u P N p) 1 (f.once p l c))) in
    rw (
      all_below_by N (inode_ok u P N) f.inodes,
      all_below_by N (λ d. folder_ok u (folders_of u P N d)) f.folders,
      all_below_by N (named_ok u N (folders_of u P N)) f.named,
      all_below_by P (serves_once u P N) o,
    )

-- the names of a folder, as the map has them
pub names_of_map : (u : Mem) (P N k : ℕ) → folders_of u P N k ≡ or_else ((map_of u P N).folders k) []
unfolding folders_of map_of
names_of_map u P N k = by_bool (ltb k N && is_folder u k) (λ t. rw t) (λ t. rw t)

module _ (u : Mem) (P N : ℕ) (ok : view_ok u P N ≡ true) where
  pub inode_ok_lem : (k : ℕ) → k < N → inode_ok u P N k ≡ true
  inode_ok_lem k l = (view_fine u P N ok).inodes k l

  pub log_ok_lem : (k : ℕ) → k < N → is_valid u k ≡ true → log_ok u P N k ≡ true
  log_ok_lem k l v = (inode_fine u P N k (inode_ok_lem k l)).log v

  pub root_valid : 0 < N → is_valid u root ≡ true
  unfolding valid_ok
  root_valid l = (inode_fine u P N root (inode_ok_lem root l)).valid_word_lem

  pub once : (p : ℕ) → in_pages P N p ≡ true → uses u P N p ≤ 1
  once p e = let b = in_bounds P N p e in (view_fine u P N ok).once p b.1 (λ c. omega arith)

  pub folders_lead : (d : ℕ) → all (leads_in N) (folders_of u P N d) ≡ true
  unfolding folders_of all
  folders_lead d =
      by_bool (ltb d N && is_folder u d)
      (λ t.
      let l : ltb d N ≡ true = search ands in
      let c : is_directory u d ≡ true = search ands in
      let v : is_valid u d ≡ true = search ands in rw t (names_lead u P N d (log_ok_lem d (ltb-true d N l) v) c))
      (λ t. rw t)

  -- a view in which the valid words and every valid inode are as in u
  module _ (u' : Mem) (valids : (k : ℕ) → k < N → u' (valid_word k) ≡ u (valid_word k))
      (agrees : (k : ℕ) → k < N → is_valid u k ≡ true → Agree u u' P N k) where
    uses_by_at : (p k : ℕ) → k < N → uses_by u' P N p k ≡ uses_by u P N p k
    unfolding uses_by
    uses_by_at p k l =
        by_bool (is_valid u k) (λ v. same_uses_by u u' P N k (log_ok_lem k l v) (agrees k l v) p) (λ v. rw (valids k l, v))

    pub same_uses : (p : ℕ) → uses u' P N p ≡ uses u P N p
    unfolding uses
    same_uses p = sum_below_same N (uses_by u' P N p) (uses_by u P N p) (uses_by_at p)

    inode_ok_at : (k : ℕ) → k < N → inode_ok u' P N k ≡ inode_ok u P N k
    unfolding inode_ok valid_ok
    inode_ok_at k l =
        by_bool (is_valid u k) (λ v. same_inode_ok u u' P N k (log_ok_lem k l v) (agrees k l v)) (λ v. rw (valids k l, v))

    directory_at : (k : ℕ) → k < N → is_valid u k ≡ true → is_directory u' k ≡ is_directory u k
    directory_at k l v = same_directory u u' P N k (log_ok_lem k l v) (agrees k l v)

    file_at : (k : ℕ) → (map_of u' P N).files k ≡ (map_of u P N).files k
    unfolding map_of
    file_at k =
        by_bool (ltb k N)
        (λ t.
        let l = ltb-true k N t in
        rw (t, valids k l) (by_bool (is_valid u k)
        (λ v. rw (directory_at k l v, v) (by_bool (is_directory u k)
        (λ c. rw c) (λ c. rw (c, same_bytes u u' P N k (log_ok_lem k l v) (agrees k l v) c)))) (λ v. rw (v, and-false, and-false))))
        (λ t. rw t)

    folder_at : (k : ℕ) → (map_of u' P N).folders k ≡ (map_of u P N).folders k
    unfolding map_of
    folder_at k =
        by_bool (ltb k N)
        (λ t.
        let l = ltb-true k N t in
        rw (t, valids k l) (by_bool (is_valid u k)
        (λ v. rw (directory_at k l v, v, same_names u u' P N k (log_ok_lem k l v) (agrees k l v))) (λ v. rw (v, and-false, and-false))))
        (λ t. rw t)

    -- the names of every folder
    pub same_folders : folders_of u' P N ≡ folders_of u P N
    same_folders = fun_ext (λ k. folder_names u' k ∙ ap (λ (o : Option Names). or_else o []) (folder_at k) ∙ sym (folder_names u k))
      where
        folder_names : (w : Mem) (k : ℕ) → folders_of w P N k ≡ or_else ((map_of w P N).folders k) []
        folder_names w k = names_of_map w P N k

    named_at : (k : ℕ) → k < N → named_ok u' N (folders_of u P N) k ≡ named_ok u N (folders_of u P N) k
    unfolding named_ok
    named_at k l = by_bool (is_valid u k) (λ v. rw (valids k l, directory_at k l v)) (λ v. rw (valids k l, v))

    folder_ok_at : (d : ℕ) → folder_ok u' (folders_of u P N d) ≡ folder_ok u (folders_of u P N d)
    unfolding folder_ok
    folder_ok_at d =
        rw (all_inodes N (is_valid u') (is_valid u) (folders_of u P N d) (folders_lead d) (λ k l. rw (valids k l)))

    pub same_view_ok : view_ok u' P N ≡ view_ok u P N
    unfolding view_ok serves_once
    same_view_ok =
        rw (
          all_below_same N (inode_ok u' P N) (inode_ok u P N) inode_ok_at,
          same_folders,
          all_below_same N (λ d. folder_ok u' (folders_of u P N d)) (λ d. folder_ok u (folders_of u P N d)) (λ d l. folder_ok_at d),
          all_below_same N (named_ok u' N (folders_of u P N)) (named_ok u N (folders_of u P N)) named_at,
          all_below_same P (serves_once u' P N) (serves_once u P N) (λ p l. rw (same_uses p)),
        )

    pub same_map : map_of u' P N ≡ map_of u P N
    unfolding map_of
    same_map = λ i. record { folders = λ k. folder_at k i; files = λ k. file_at k i }
