-- No page serves twice: pages of good inodes are log and data pages, so that marking each once is the model's test of uses.
use Rattle.model.proofs.Prelude.{ℕ, zero, suc, ◌≤◌, ◌<◌, ◌≡◌, refl, sym, ◌∙◌, Bool, true, ◌&&◌, List, arith}
use Rattle.model.specs.Lists.{all, all_below, is_some}
use Rattle.model.specs.Words.{Mem}
use Rattle.model.specs.Layout.{in_pages, is_directory}
use Rattle.model.specs.Log.{log_pages, pages}
use Rattle.model.specs.State.{file_of}
use Rattle.model.specs.Accept.{is_valid, valid_ok, type_ok, free, free_count, log_ok, serves_once, inode_ok}
use Rattle.model.proofs.Tests.{by_bool, ands}
use Rattle.model.proofs.Lists.{all_below_at, all_below_by, sum_below_same, all_append, all_by}
use Rattle.model.proofs.Frame.Inode.{page_in, mapped_in}
use Rattle.marks.specs.Marks.{fresh, unmarked, used_by, used_below}
use Rattle.marks.proofs.Counts.{fresh_uses, unmarked_free}
use Rattle.inodes.specs.Judged.{no_marks, shape_ok, AllJudged, Served, unmarked_count}
use Rattle.inodes.proofs.Cases.{mapped_all}

-- The pages that serve good inodes are log and data pages.

module _ (u : Mem) (P N : ℕ) (ok : all_below N (inode_ok u P N) ≡ true) where
  valid_log : (k : ℕ) → k < N → is_valid u k ≡ true → log_ok u P N k ≡ true
  unfolding inode_ok
  valid_log k l v = let h = rw v at (all_below_at N k (inode_ok u P N) ok l) in search ands

  by_in : (k : ℕ) → k < N → all (in_pages P N) (used_by u P N k) ≡ true
  unfolding used_by all
  by_in k l =
      by_bool (is_valid u k)
      (λ v.
      let g = valid_log k l v in
      let a = all_by (in_pages P N) (pages u P N k) (page_in u P N k g) in
      rw (used_by, v)
      (all_append (in_pages P N) (pages u P N k) _ a
      (by_bool (is_directory u k) (λ z. rw z)
      (λ z. rw z (mapped_all (file_of u P N k).page (in_pages P N) (λ i y. (mapped_in u P N k g z i y).1) 128 0)))))
      (λ v. rw (used_by, v))

  below_in : (k : ℕ) → k ≤ N → all (in_pages P N) (used_below u P N k) ≡ true
  unfolding used_below all
  below_in zero l = refl
  below_in (suc k) l = all_append (in_pages P N) (used_below u P N k) (used_by u P N k) (below_in k (omega arith)) (by_in k (omega arith))

-- An inode that is as an accepted volume has it, and what is asked of it before the names are read.

module _ (u : Mem) (P N k : ℕ) where
  pub ok_shape : inode_ok u P N k ≡ true → shape_ok u P N k ≡ true
  unfolding inode_ok shape_ok log_ok
  ok_shape h =
      by_bool (is_valid u k)
      (λ v. by_bool (is_directory u k)
      (λ d. let g = rw (v, d) at h in let a : valid_ok u k ≡ true = search ands in let b : type_ok u k ≡ true = search ands in
      let c : is_some (log_pages u P N k) ≡ true = search ands in rw (v, d, a, b, c))
      (λ d. let g = rw (v, d) at h in let a : valid_ok u k ≡ true = search ands in let b : type_ok u k ≡ true = search ands in
      rw (v, d, a, b) (search ands)))
      (λ v. rw v (rw v at h))

  pub shape_ok_lem : shape_ok u P N k ≡ true → (is_valid u k ≡ true → is_directory u k ≡ true → log_ok u P N k ≡ true) → inode_ok u P N k ≡ true
  unfolding inode_ok shape_ok
  shape_ok_lem h l =
      by_bool (is_valid u k)
      (λ v. by_bool (is_directory u k)
      (λ d. let g = rw (v, d) at h in let a : valid_ok u k ≡ true = search ands in let b : type_ok u k ≡ true = search ands in
      rw (v, d, a, b, l v d))
      (λ d. let g = rw (v, d) at h in let a : valid_ok u k ≡ true = search ands in let b : type_ok u k ≡ true = search ands in
      rw (v, d, a, b) (search ands)))
      (λ v. rw v (rw v at h))

-- What was judged of all inodes, in the words of the acceptance.

module _ (u : Mem) (P N : ℕ) (low : P ≤ 4096) (ok : all_below N (inode_ok u P N) ≡ true) where
  once_same : fresh no_marks (used_below u P N N) ≡ all_below P (serves_once u P N)
  once_same = fresh_uses u P N low (below_in u P N ok N (omega arith))

  pub all_judged : (r : Bool) (b : List ℕ) → AllJudged u P N r b → all_below P (serves_once u P N) ≡ true → r ≡ true
  all_judged r b j e =
      j.answer ∙ rw (all_below_by N (shape_ok u P N) (λ k l. ok_shape u P N k (all_below_at N k (inode_ok u P N) ok l)), once_same) e

  pub served : (b : List ℕ) → AllJudged u P N true b → Served u P N true b
  served b j =
      let z : all_below N (shape_ok u P N) && fresh no_marks (used_below u P N N) ≡ true = sym j.answer in
      let f : fresh no_marks (used_below u P N N) ≡ true = search ands in
      record { answer = rw (ok, ← once_same, f); list = j.list }

-- Where the answer is yes, the pages without a mark are the free ones.

module _ (u : Mem) (P N : ℕ) (r : Bool) (b : List ℕ) (low : P ≤ 4096) (s : Served u P N r b) (yes : r ≡ true) where
  pub free_page : (p : ℕ) → unmarked b P N p ≡ free u P N p
  free_page p =
      let e : all_below N (inode_ok u P N) && all_below P (serves_once u P N) ≡ true = sym s.answer ∙ yes in
      let i = below_in u P N (search ands) N (omega arith) in
      let f : all_below P (serves_once u P N) ≡ true = search ands in
      rw (s.list yes) (unmarked_free u P N low i (fresh_uses u P N low i ∙ f) p)

  -- n is what `free_count` answered
  pub free_count_lem : (n : ℕ) → n ≡ unmarked_count b P N → n ≡ free_count u P N
  unfolding unmarked_count free_count
  free_count_lem n e = e ∙ sum_below_same P _ _ (λ p l. rw (free_page p))
