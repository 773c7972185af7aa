-- What a call needs to know of a log that it continues: it reads as before and then as the new entries, whatever was stored outside of it.
-- The new entries leave the log's live words alone, so this is the law of Extend.
use Rattle.model.proofs.Prelude.{◌≡◌, ℕ, ◌+◌, ◌*◌, ◌/◌, ◌%◌, ◌<◌, true, cond, List, [], ◌++◌, map, none, arith, ne_eqb}
use Rattle.model.specs.Words.{Mem}
use Rattle.model.specs.Lists.{all, foldl, has, count}
use Rattle.model.specs.Layout.{tail_word, is_directory, in_pages}
use Rattle.model.specs.Entry.{file_entry_ok, name_entry_ok}
use Rattle.model.specs.Log.{pages, entries}
use Rattle.model.specs.State.{empty_file, file_step, file_of, name_step, names_of}
use Rattle.model.specs.Accept.{log_ok}
use Rattle.model.specs.Calls.{lay_entries, tail_pages}
use Rattle.model.proofs.Tests.{by_bool, by_eq, not_true_false, ands}
use Rattle.model.proofs.Lists.{count_append, all_append, foldl_append}
use Rattle.model.proofs.Log.Chain.{chain_last}
use Rattle.model.proofs.Log.Decode.{decode}
use Rattle.model.proofs.Log.Pages.{Reads, log_chain}
use Rattle.model.proofs.Log.Distinct.{inside_at}
use Rattle.model.proofs.Log.Live.{lay_page}
use Rattle.model.proofs.Log.Extend.{Fits}

-- nothing is laid in page 0 or the inode table
pub lay_low : (P N : ℕ) (ps : List ℕ) (i : ℕ) (es : List (List ℕ)) → N % 8 ≡ 0 → all (in_pages P N) ps ≡ true
    → (w : ℕ) → w < 64 + 8 * N → lay_entries ps i es w ≡ none
lay_low P N ps i es z a w l =
    lay_page ps i es w (not_true_false (has (w / 64) ps) (λ h. let b = inside_at P N (w / 64) ps a h in omega arith))

module _ {u : Mem} {P N k : ℕ} {old ls : List ℕ} {es : List (List ℕ)} (f : Fits u P N k old ls es) where
  -- the pages that the entries are laid into
  pub tail_inside : all (in_pages P N) (tail_pages u k ++ ls) ≡ true
  unfolding tail_pages all
  tail_inside =
      by_eq (u (tail_word k)) 0 (λ z. rw (tail_pages, z) f.inside)
      (λ z. rw (tail_pages, ne_eqb (u (tail_word k)) 0 z, all, (chain_last u P N _ old (log_chain u P N k old f.was z).0).1) f.inside)

  module _ (u' : Mem) where
    -- what the longer log comes to
    module _ (now : Reads u' P N k (old ++ ls) (entries u P N k ++ map decode es)) where
      pub file_after_lem : file_of u' P N k ≡ foldl file_step (file_of u P N k) (map decode es)
      unfolding file_of
      file_after_lem = rw (file_of, now.1) (foldl_append file_step empty_file (entries u P N k) (map decode es))

      pub names_after : names_of u' P N k ≡ foldl name_step (names_of u P N k) (map decode es)
      unfolding names_of
      names_after = rw (names_of, now.1) (foldl_append name_step [] (entries u P N k) (map decode es))

      pub count_after : (p : ℕ) → count p (pages u' P N k) ≡ count p (pages u P N k) + count p ls
      unfolding pages
      count_after p = rw (pages, now.0, f.was) (count_append p old ls)

      pub ok_after : is_directory u' k ≡ is_directory u k → log_ok u P N k ≡ true
          → cond (is_directory u k) (all (name_entry_ok N) (map decode es)) (all (file_entry_ok P N) (map decode es)) ≡ true
          → log_ok u' P N k ≡ true
      unfolding log_ok
      ok_after i a b =
          let g : cond (is_directory u k) (all (name_entry_ok N) (entries u P N k)) (all (file_entry_ok P N) (entries u P N k)) ≡ true =
          search ands in
          rw (log_ok, now.0, now.1, i) (by_bool (is_directory u k)
          (λ d. rw d (all_append (name_entry_ok N) (entries u P N k) (map decode es) (rw d at g) (rw d at b)))
          (λ d. rw d (all_append (file_entry_ok P N) (entries u P N k) (map decode es) (rw d at g) (rw d at b))))
