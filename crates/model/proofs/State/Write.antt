-- A file after a write: each byte is one of those written or the file's own, so the end is as accepted and the whole is the file laid over.
use Rattle.model.proofs.Prelude.{◌≡◌, ◌∙◌, ℕ, ◌+◌, ◌-◌, ◌/◌, ◌≤◌, ◌<◌, max, true, List, map, arith, length, get_or, ne_eqb}
use Rattle.model.specs.Lists.{all, foldl, count as times}
use Rattle.model.specs.Words.{Mem}
use Rattle.model.specs.Entry.{file_entry_ok}
use Rattle.model.specs.State.{File, file_of, file_byte, bytes_of}
use Rattle.model.specs.Accept.{mapped_to, end_ok}
use Rattle.model.specs.FileMap.{laid_over}
use Rattle.model.specs.Calls.{written_byte, pages_covered, write_append}
use Rattle.model.specs.Claim.{Bytes}
use Rattle.model.proofs.Tests.{by_bool, within, outside, by_range}
use Rattle.model.proofs.Log.Decode.{decode}
use Rattle.model.proofs.Frame.Placed.{Placed}
use Rattle.model.proofs.State.Bytes.{length_laid_over, get_or_laid_over, file_byte_lt, Ended, ended_end, length_bytes, get_or_bytes, bytes_are_lem, placed_ended}
use Rattle.model.proofs.State.Mapped.{mapped_data}
use Rattle.model.proofs.State.Append.{Filled, file_after, entries_on, mapping, mapping_byte, after_append, data_fits}

module _ (u : Mem) (P N k o : ℕ) (bs : List ℕ) where
  abbrev old : File
  old = file_of u P N k

  abbrev end : ℕ
  end = o + length bs

  abbrev count : ℕ
  count = pages_covered o end

  -- the file pages that are written
  pub write_run : 0 < length bs → length bs ≤ 4096 → end ≤ 65536 → (1 ≤ count) × (count ≤ 9) × (o / 512 + count ≤ 128)
  write_run h l e = omega arith

  -- what is written are bytes
  pub written_lt : Bytes bs → (x : ℕ) → written_byte u P N k o bs x < 256
  unfolding written_byte
  written_lt small x = by_bool (within o end x) (λ e. rw e (small (x - o))) (λ e. rw e (file_byte_lt u old x))

  module _ (some_bytes : 0 < length bs) (u' : Mem) (ds : List ℕ) (filled : Filled u u' P N (write_append u P N k o bs) ds) where
    open filled use {places, stored, kept}

    some : (j : ℕ) → j < count → 1 ≤ get_or ds j 0
    unfolding write_append
    some j l = let p = places j l in omega arith

    write_file : file_after u P N (write_append u P N k o bs) ds ≡ mapping old (o / 512) count ds (max old.size end)
    unfolding write_append foldl
    write_file = after_append u P N (write_append u P N k o bs) ds some

    write_size : (mapping old (o / 512) count ds (max old.size end)).size ≡ max old.size end
    write_size = rw (ne_eqb count 0 (omega arith))

    pub write_entries : length bs ≤ 4096 → end ≤ 65536 → old.size ≤ 65536
        → all (file_entry_ok P N) (map decode (entries_on (write_append u P N k o bs) ds)) ≡ true
    unfolding write_append all
    write_entries l e s =
        let c = write_run some_bytes l e in data_fits P N (o / 512) count ds (max old.size end) filled.number places c.2 (omega arith)

    pub write_mapped : (p : ℕ) → mapped_to (file_after u P N (write_append u P N k o bs) ds) p ≤ mapped_to old p + times p ds
    unfolding write_append
    write_mapped p = rw write_file (mapped_data old (o / 512) count ds (max old.size end) p filled.number)

    module _ (placed : Placed P N old) (fine : end_ok u old ≡ true) (small : Bytes bs) where
      was_ended : Ended u old
      was_ended = placed_ended u P N old placed fine

      write_byte : (x : ℕ) → file_byte u' (mapping old (o / 512) count ds (max old.size end)) x ≡ written_byte u P N k o bs x
      unfolding write_append written_byte
      write_byte x =
          mapping_byte (o / 512) count ds some u' (written_byte u P N k o bs) (written_lt small) stored u old (max old.size end) kept x
          ∙ by_range (o / 512) (o / 512 + count) (x / 512) (λ t h k. rw t)
          (λ t h. rw (t, outside o end x (λ p q. h (omega arith) (omega arith))))

      write_ended : Ended u' (mapping old (o / 512) count ds (max old.size end))
      unfolding written_byte
      write_ended =
          record {
            starts = λ i h. rw write_size (by_range (o / 512) (o / 512 + count) i (λ t p q. omega arith)
                (λ t p. let s = was_ended.starts i (rw t at h) in omega arith));
            zeros = λ x h. let g = rw write_size at h in
                write_byte x ∙ rw (outside o end x (λ p q. omega arith)) (was_ended.zeros x (omega arith));
          }

      pub write_end : end_ok u' (file_after u P N (write_append u P N k o bs) ds) ≡ true
      write_end = rw write_file (ended_end u' _ write_ended)

      pub write_bytes_lem : bytes_of u' (file_after u P N (write_append u P N k o bs) ds) ≡ laid_over (bytes_of u old) o bs
      unfolding written_byte
      write_bytes_lem =
          rw write_file (bytes_are_lem u' _ write_ended _ (length_laid_over (bytes_of u old) o bs ∙ rw (length_bytes, write_size))
          (λ x. write_byte x ∙ rw (get_or_laid_over, get_or_bytes u old was_ended x)))
