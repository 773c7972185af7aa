-- One inode: what its log and its file are made of, and that they read the same in a memory with the same words there.
use Rattle.model.proofs.Prelude.{◌≡◌, ⊎_elim, ℕ, ◌/◌, ◌%◌, ◌≤◌, ◌<◌, true, false, some, arith, length, get_or, eq-eqb}
use Rattle.model.specs.Lists.{all, has}
use Rattle.model.specs.Words.{Mem}
use Rattle.model.specs.Layout.{valid_word, head_word, tail_word, type_word, is_directory, in_pages, file_pages}
use Rattle.model.specs.Log.{tail_ok, log_pages, pages, tail_slots, entries}
use Rattle.model.specs.State.{file_of, file_byte, bytes_of, names_of}
use Rattle.model.specs.Accept.{uses_by, valid_ok, type_ok, log_ok, end_ok, inode_ok}
use Rattle.model.proofs.Tests.{by_bool, by_eq, no, ands, some_is}
use Rattle.model.proofs.Lists.{values_same, all_has}
use Rattle.model.proofs.Log.Chain.{Chain, chain_last, chain_inside}
use Rattle.model.proofs.Log.Pages.{Reads, log_chain, log_empty, SameLive, log_same}
use Rattle.model.proofs.Frame.Placed.{Placed, placed, leads_in, named, SamePages, file_byte_same}

module _ (u : Mem) (P N k : ℕ) (ok : log_ok u P N k ≡ true) where
  pub log_is_lem : log_pages u P N k ≡ some (pages u P N k)
  unfolding log_ok pages
  log_is_lem = let s = some_is (log_pages u P N k) (search ands) in rw s.1

  -- a log with a tail
  pub full : (u (tail_word k) ≡ 0 → ⊥)
      → Chain u P N (u (tail_word k) / 512) (pages u P N k) × (get_or (pages u P N k) 0 0 ≡ u (head_word k)) × (length (pages u P N k) ≤ P)
      × (tail_ok (u (tail_word k)) ≡ true)
  full t = log_chain u P N k (pages u P N k) log_is_lem t

  pub page_in : (x : ℕ) → has x (pages u P N k) ≡ true → in_pages P N x ≡ true
  unfolding has
  page_in x h =
      by_eq (u (tail_word k)) 0 (λ t. no (rw (← (log_empty u P N k (pages u P N k) log_is_lem t)) at h))
      (λ t. all_has (in_pages P N) x (pages u P N k) (chain_inside u P N (u (tail_word k) / 512) (pages u P N k) (full t).0) h)

  pub tail_page : (u (tail_word k) ≡ 0 → ⊥) → has (u (tail_word k) / 512) (pages u P N k) ≡ true
  tail_page t = (chain_last u P N (u (tail_word k) / 512) (pages u P N k) (full t).0).0

  pub file_placed : is_directory u k ≡ false → Placed P N (file_of u P N k)
  unfolding log_ok file_of
  file_placed c = let h = rw c at ok in placed P N (entries u P N k) (search ands)

  -- a data page of its file
  pub mapped_in : is_directory u k ≡ false → (i : ℕ) → ((file_of u P N k).page i ≡ 0 → ⊥)
      → (i < file_pages) × (in_pages P N ((file_of u P N k).page i) ≡ true)
  mapped_in c i n = ⊎_elim (λ e. absurd (n e)) (λ h. h) (file_placed c i)

  pub names_lead : is_directory u k ≡ true → all (leads_in N) (names_of u P N k) ≡ true
  unfolding log_ok names_of
  names_lead c = let h = rw c at ok in named N (entries u P N k) (search ands)

-- u' has the words of u that inode k, valid in u, is made of
pub record Agree (u u' : Mem) (P N k : ℕ) : Type 0 where
  pub valid : u' (valid_word k) ≡ u (valid_word k)
  pub tail : u' (tail_word k) ≡ u (tail_word k)
  pub head : (u (tail_word k) ≡ 0 → ⊥) → u' (head_word k) ≡ u (head_word k)
  pub log : SameLive u u' (pages u P N k) (u (tail_word k) / 512) (tail_slots u k)
  pub type : (k ≡ 0 → ⊥) → u' (type_word k) ≡ u (type_word k)
  pub file : is_directory u k ≡ false → SamePages u u' (file_of u P N k)

module _ (u u' : Mem) (P N k : ℕ) (ok : log_ok u P N k ≡ true) (a : Agree u u' P N k) where
  pub same_log : Reads u' P N k (pages u P N k) (entries u P N k)
  same_log = log_same u u' P N k a.tail (pages u P N k) (log_is_lem u P N k ok) a.head a.log

  pub same_directory : is_directory u' k ≡ is_directory u k
  same_directory = by_eq k 0 (λ c. rw (eq-eqb k 0 c)) (λ c. rw (a.type c))

  same_type : type_ok u' k ≡ type_ok u k
  unfolding type_ok
  same_type = by_eq k 0 (λ c. rw (eq-eqb k 0 c)) (λ c. rw (a.type c))

  pub same_pages : pages u' P N k ≡ pages u P N k
  unfolding pages
  same_pages = rw same_log.0

  pub same_file : file_of u' P N k ≡ file_of u P N k
  unfolding file_of
  same_file = rw same_log.1

  pub same_names : names_of u' P N k ≡ names_of u P N k
  unfolding names_of
  same_names = rw same_log.1

  -- the bytes of a file
  module _ (c : is_directory u k ≡ false) where
    same_byte : (x : ℕ) → file_byte u' (file_of u P N k) x ≡ file_byte u (file_of u P N k) x
    same_byte x = file_byte_same u u' (file_of u P N k) x (a.file c (x / 512) (x % 512 / 8) (omega arith))

    pub same_bytes : bytes_of u' (file_of u' P N k) ≡ bytes_of u (file_of u P N k)
    unfolding bytes_of
    same_bytes =
        let f = file_of u P N k in rw same_file (values_same (file_byte u' f) (file_byte u f) 0 f.size (λ x g l. same_byte x))

    same_end : end_ok u' (file_of u P N k) ≡ end_ok u (file_of u P N k)
    unfolding end_ok
    same_end = simp same_byte

  pub same_uses_by : (p : ℕ) → uses_by u' P N p k ≡ uses_by u P N p k
  unfolding uses_by
  same_uses_by p = rw (a.valid, same_pages, same_file, same_directory)

  pub same_inode_ok : inode_ok u' P N k ≡ inode_ok u P N k
  unfolding inode_ok valid_ok log_ok
  same_inode_ok =
      rw (a.valid, same_type, same_directory, same_log.0, log_is_lem u P N k ok, same_log.1)
      (by_bool (is_directory u k) (λ c. rw c) (λ c. rw (c, same_file, same_end c)))
