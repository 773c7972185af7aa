-- The bytes beneath a folder of an accepted volume are few: their sum has room in 64 bits, whatever is left of the unvisited inodes.
use Rattle.model.proofs.Prelude.{◌≡◌, refl, sym, ℕ, ◌≤◌, ◌<◌, true, false, cond, ◌&&◌, arith, length-map, ltb, lt-ltb, ltb-true}
use Rattle.model.specs.Lists.{has}
use Rattle.model.specs.Words.{Mem}
use Rattle.model.specs.Layout.{is_directory}
use Rattle.model.specs.Log.{entries}
use Rattle.model.specs.State.{file_of, inodes}
use Rattle.model.specs.Tree.{name_count}
use Rattle.model.specs.Accept.{is_valid, is_file, is_folder, folders_of, log_ok, view_ok}
use Rattle.model.specs.Public.{beneath}
use Rattle.model.proofs.Tests.{by_bool, by_eq, no, ands}
use Rattle.model.proofs.Lists.{has_count}
use Rattle.model.proofs.Frame.View.{file_is, log_ok_lem}
use Rattle.model.proofs.Tree.{parent_holds, total_same, total_small}
use Rattle.model.proofs.State.Bytes.{small_file}
use Rattle.model.proofs.State.Folders.{FoldersFine}
use Rattle.model.proofs.State.FoldersOk.{folders_fine}

module _ (u : Mem) (P N : ℕ) (ok : view_ok u P N ≡ true) (few : N ≤ 256) where
  fine : FoldersFine N (is_valid u) (is_directory u) (folders_of u P N)
  fine = folders_fine u P N ok

  -- the size of a valid file; of anything else 0
  abbrev size_of : ℕ → ℕ
  size_of k = cond (ltb k N && is_file u k) (file_of u P N k).size 0

  size_small : (k : ℕ) → size_of k ≤ 65536
  unfolding file_of log_ok
  size_small k =
      by_bool (ltb k N && is_file u k)
      (λ t.
      let l : ltb k N ≡ true = search ands in
      let f : is_file u k ≡ true = search ands in
      let v = file_is u k f in
      let o = rw v.0 at (log_ok_lem u P N ok k (ltb-true k N l) v.1) in
      rw t (small_file P N (entries u P N k) (search ands)))
      (λ t. rw t (omega arith))

  size_is_lem : (d x : ℕ) → has x (inodes (folders_of u P N d)) ≡ true
      → (is_folder u x ≡ is_folder u x) × (is_folder u x ≡ false → (file_of u P N x).size ≡ size_of x)
  size_is_lem d x h =
      let c = fine.child d x (has_count x (inodes (folders_of u P N d)) h) in
      (refl, λ e. by_bool (is_directory u x) (λ q. no (sym (rw (q, c.2) at e))) (λ q. rw (lt-ltb x N c.1, q, c.2)))

  named_once : (x : ℕ) → is_folder u x ≡ true → name_count N (folders_of u P N) x ≤ 1
  named_once x f =
      by_eq (name_count N (folders_of u P N) x) 0 (λ z. omega arith)
      (λ z.
      let h = parent_holds N (folders_of u P N) x (omega arith) in
      let c = fine.child _ x (has_count x (inodes (folders_of u P N _)) h) in
      let q : is_directory u x ≡ true = search ands in
      omega (arith, fine.once x c.1 c.0 c.2 q))

  pub beneath_small : (n d : ℕ) → d < N → n ≤ 256 → beneath u P N n d ≤ 962072674304
  unfolding beneath
  beneath_small n d l m =
      rw (total_same (folders_of u P N) (is_folder u) (is_folder u) size_of (λ k. (file_of u P N k).size) size_is_lem n d)
      (total_small N (folders_of u P N) (is_folder u) size_of few (λ d. rw length-map (fine.short d))
      (λ d x h. (fine.child d x (has_count x (inodes (folders_of u P N d)) h)).1) named_once size_small n d l m)
