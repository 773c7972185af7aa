-- A file after set size, with the copy of a cut page or without: each byte below the size is the file's own and all others are 0.
use Rattle.model.proofs.Prelude.{◌≡◌, sym, ◌∙◌, ℕ, ◌+◌, ◌*◌, ◌/◌, ◌%◌, ◌≤◌, ◌<◌, true, false, cond, List, map, arith, get_or, leb, ltb, eqb, leb-false, eqb-false, ltb-true, not-true, lt-ltb, le-ltb, le-leb, lt-leb, ne_eqb}
use Rattle.model.specs.Lists.{bit, all, foldl, count as times}
use Rattle.model.specs.Words.{Mem}
use Rattle.model.specs.Entry.{size_entry, file_entry_ok}
use Rattle.model.specs.State.{File, file_step, file_of, file_byte, bytes_of}
use Rattle.model.specs.Accept.{mapped_to, end_ok}
use Rattle.model.specs.FileMap.{sized}
use Rattle.model.specs.Calls.{cuts_page, kept_byte, size_append}
use Rattle.model.proofs.Tests.{by_bool, by_eq, by_lt, no, ands, by_range}
use Rattle.model.proofs.Log.Decode.{decode, decode_size, size_ok}
use Rattle.model.proofs.Frame.Placed.{Placed, SamePages}
use Rattle.model.proofs.State.Bytes.{length_sized, get_or_sized, file_byte_lt, unmapped, Ended, ended_end, get_or_bytes, bytes_are_lem, placed_ended}
use Rattle.model.proofs.State.Mapped.{mapped_data, mapped_size}
use Rattle.model.proofs.State.Append.{Filled, file_after, entries_on, mapping, mapping_byte, after_append, data_fits}

-- the size entry alone
shrunk_byte : (u : Mem) (f : File) (s x : ℕ) → file_byte u (file_step f (size_entry s)) x ≡ cond (leb s (512 * (x / 512))) 0 (file_byte u f x)
unfolding file_step file_byte
shrunk_byte u f s x = by_bool (leb s (512 * (x / 512))) (λ e. rw e) (λ e. rw e)

shrunk_page : (f : File) (s i : ℕ) → ((file_step f (size_entry s)).page i ≡ 0 → ⊥) → (512 * i < s) × ((file_step f (size_entry s)).page i ≡ f.page i)
unfolding file_step
shrunk_page f s i h = by_bool (leb s (512 * i)) (λ e. absurd (h (rw e))) (λ e. (leb-false s (512 * i) e, rw e))

module _ (u : Mem) (P N k s : ℕ) where
  abbrev old : File
  old = file_of u P N k

  -- the file after the set size, before the copy
  abbrev shrunk : File
  shrunk = file_step old (size_entry s)

  -- how many pages are copied
  abbrev count : ℕ
  count = bit (cuts_page u P N k s)

  -- what is kept are bytes
  pub kept_lt : (x : ℕ) → kept_byte u P N k s x < 256
  unfolding kept_byte
  kept_lt x = by_bool (ltb x s) (λ e. rw e (file_byte_lt u old x)) (λ e. rw e (omega arith))

  cuts_inside : cuts_page u P N k s ≡ true → (s < old.size) × (s % 512 ≡ 0 → ⊥)
  unfolding cuts_page
  cuts_inside t = (ltb-true s old.size (search ands), eqb-false (s % 512) 0 (not-true (eqb (s % 512) 0) (search ands)))

  pub resize_run : s ≤ 65536 → old.size ≤ 65536 → s / 512 + count ≤ 128
  unfolding bit
  resize_run l h = by_bool (cuts_page u P N k s) (λ t. let c = cuts_inside t in rw t (omega arith)) (λ t. rw t (omega arith))

  module _ (u' : Mem) (ds : List ℕ) (filled : Filled u u' P N (size_append u P N k s) ds) where
    open filled use {places, stored, kept}

    some : (j : ℕ) → j < count → 1 ≤ get_or ds j 0
    unfolding size_append
    some j l = let p = places j l in omega arith

    resize_file : file_after u P N (size_append u P N k s) ds ≡ mapping shrunk (s / 512) count ds s
    unfolding size_append foldl
    resize_file = after_append u P N (size_append u P N k s) ds some ∙ rw decode_size

    resize_size : (mapping shrunk (s / 512) count ds s).size ≡ s
    unfolding file_step
    resize_size = by_bool (eqb count 0) (λ t. rw t) (λ t. rw t)

    pub resize_entries : s ≤ 65536 → old.size ≤ 65536 → all (file_entry_ok P N) (map decode (entries_on (size_append u P N k s) ds)) ≡ true
    unfolding size_append all
    resize_entries l h = rw (decode_size, size_ok P N s l) (data_fits P N (s / 512) count ds s filled.number places (resize_run l h) l)

    pub resize_mapped : (p : ℕ) → (p ≡ 0 → ⊥) → mapped_to (file_after u P N (size_append u P N k s) ds) p ≤ mapped_to old p + times p ds
    unfolding size_append
    resize_mapped p n =
        let a = mapped_size old s p n in
        let b = mapped_data shrunk (s / 512) count ds s p filled.number in
        rw resize_file (omega arith)

    module _ (placed : Placed P N old) (fine : end_ok u old ≡ true) where
      was_ended : Ended u old
      was_ended = placed_ended u P N old placed fine

      shrunk_kept : SamePages u u' shrunk
      unfolding size_append
      shrunk_kept i o l h = rw (shrunk_page old s i h).1 (kept i o l (rw (shrunk_page old s i h).1 at h))

      -- where no mapped page is cut, the file has zeros from the size on up to the next page
      gap_zero : cuts_page u P N k s ≡ false → (x : ℕ) → 512 * (x / 512) < s → s ≤ x → file_byte u old x ≡ 0
      unfolding cuts_page
      gap_zero t x h g =
          by_lt s old.size
          (λ l. by_eq (old.page (s / 512)) 0 (λ e. let q : x / 512 ≡ s / 512 = omega arith in unmapped u old x (rw q e))
          (λ e. no (sym t ∙ rw (lt-ltb s old.size l, ne_eqb (s % 512) 0 (omega arith), ne_eqb _ _ e))))
          (λ l. was_ended.zeros x (omega arith))

      -- outside of the copy
      other_byte : (x : ℕ) → (s / 512 ≤ x / 512 → x / 512 < s / 512 + count → ⊥) → file_byte u shrunk x ≡ kept_byte u P N k s x
      unfolding kept_byte bit
      other_byte x out =
          shrunk_byte u old s x
          ∙ by_lt x s (λ l. rw (lt-ltb x s l, lt-leb s (512 * (x / 512)) (omega arith)))
          (λ l. rw (le-ltb x s l) (by_lt (512 * (x / 512)) s
          (λ h. rw (lt-leb s (512 * (x / 512)) h) (by_bool (cuts_page u P N k s)
          (λ t. absurd (out (omega arith) (rw t (omega arith)))) (λ t. gap_zero t x h l)))
          (λ h. rw (le-leb s (512 * (x / 512)) h))))

      resize_byte : (x : ℕ) → file_byte u' (mapping shrunk (s / 512) count ds s) x ≡ kept_byte u P N k s x
      unfolding size_append
      resize_byte x =
          mapping_byte (s / 512) count ds some u' (kept_byte u P N k s) kept_lt stored u shrunk s shrunk_kept x
          ∙ by_range (s / 512) (s / 512 + count) (x / 512) (λ t a b. rw t) (λ t a. rw t (other_byte x a))

      resize_ended : Ended u' (mapping shrunk (s / 512) count ds s)
      unfolding kept_byte bit
      resize_ended =
          record {
            starts = λ i h. rw resize_size (by_range (s / 512) (s / 512 + count) i
                (λ t a b. by_bool (cuts_page u P N k s) (λ e. let c = cuts_inside e in let d = rw e at b in omega arith)
                (λ e. let d = rw e at b in absurd (omega arith)))
                (λ t a. (shrunk_page old s i (rw t at h)).0));
            zeros = λ x h. resize_byte x ∙ rw (le-ltb x s (rw resize_size at h));
          }

      pub resize_end : end_ok u' (file_after u P N (size_append u P N k s) ds) ≡ true
      resize_end = rw resize_file (ended_end u' _ resize_ended)

      pub resize_bytes : bytes_of u' (file_after u P N (size_append u P N k s) ds) ≡ sized s (bytes_of u old)
      unfolding kept_byte
      resize_bytes =
          rw resize_file (bytes_are_lem u' _ resize_ended _ (length_sized s (bytes_of u old) ∙ sym resize_size)
          (λ x. resize_byte x ∙ rw (get_or_sized, get_or_bytes u old was_ended x)))
