-- One entry: whether a file's log may hold it, and what it does. Each kind is a case.
use Rattle.model.proofs.Prelude.{ℕ, ◌+◌, ◌*◌, ◌-◌, ◌/◌, ◌≤◌, ◌<◌, ◌≡◌, refl, sym, ◌∙◌, ap, fun_ext, Bool, true, false, cond, not, List, arith, leb, length, get_or, get_or-eq_default, le-leb, lt-leb, leb-true, ltb-true, not-false}
use Rattle.model.specs.Entry.{Entry as Full, write_entry, size_entry, add_entry, remove_entry, no_entry, file_entry_ok}
use Rattle.model.specs.State.{File, file_step}
use Rattle.model.proofs.Tests.{within, inside, outside, by_lt, ands}
use Rattle.model.proofs.Log.Decode.{write_ok}
use Rattle.inode_log.specs.Entries.{meant}
use Rattle.inode_log.specs.declared.Entry.{Entry}
use Rattle.inode_log.specs.declared.Entry.TheVariants.{Write, SetSize}
use Rattle.files.specs.State.{file_from, filled, Applied}
use Rattle.files.proofs.Runs.{length_filled, filled_at}

-- A sum that could be too big for its type is tested part by part.

module _ (a b c : ℕ) where
  pub part_over : c < a → leb (a + b) c ≡ false
  part_over h = lt-leb (a + b) c (omega arith)

  pub sum_over_lem : a ≤ c → c - a < b → leb (a + b) c ≡ false
  sum_over_lem h g = lt-leb (a + b) c (omega arith)

  pub sum_under : a ≤ c → b ≤ c - a → leb (a + b) c ≡ true
  sum_under h g = le-leb (a + b) c (omega arith)

-- an entry that passed on a volume would pass on one of the most pages
larger : (P N : ℕ) (e : Full) → P ≤ 4096 → file_entry_ok P N e ≡ true → file_entry_ok 4096 0 e ≡ true
unfolding file_entry_ok
larger P N (write_entry f d c s) l ok =
    let h1 = leb-true 1 c (search ands) in
    let h2 = leb-true (f + c) 128 (search ands) in
    let h3 = ltb-true (N / 8) d (search ands) in
    let h4 = leb-true (d + c) P (search ands) in
    let h5 = leb-true s 65536 (search ands) in
    write_ok 4096 0 f d c s h1 h2 (omega arith) (omega arith) h5
larger P N (size_entry s) l ok = ok
larger P N (add_entry i k f) l ok = ok
larger P N (remove_entry k f) l ok = ok
larger P N no_entry l ok = ok

pub passed : (r : Bool) (P N : ℕ) (e : Full) → r ≡ file_entry_ok P N e → not r ≡ false → P ≤ 4096 → file_entry_ok 4096 0 e ≡ true
passed r P N e g n l = larger P N e l (sym g ∙ not-false r n)

-- What an entry does.

module _ (e : Entry) (ok : file_entry_ok 4096 0 (meant e) ≡ true) where
  write_was : (f d c z : ℕ) → e ≡ Write f d c z → file_entry_ok 4096 0 (write_entry f d c z) ≡ true
  unfolding meant
  write_was f d c z h = rw h at ok

  pub run_room : (f d c z : ℕ) → e ≡ Write f d c z → f + c ≤ 128
  unfolding file_entry_ok
  run_room f d c z h = let k = write_was f d c z h in leb-true (f + c) 128 (search ands)

  pub run_low : (f d c z : ℕ) → e ≡ Write f d c z → d + c ≤ 4096
  unfolding file_entry_ok
  run_low f d c z h = let k = write_was f d c z h in leb-true (d + c) 4096 (search ands)

  pub size_low : (z : ℕ) → e ≡ SetSize z → z ≤ 65536
  unfolding meant file_entry_ok
  size_low z h = leb-true z 65536 (rw h at ok)

  module _ (s : ℕ) (t u : List ℕ) (long : length t ≡ 128) where
    -- a table that is filled as the entry says stands for the file after it
    filled_file : (z i n : ℕ) (g p : ℕ → ℕ) → u ≡ filled g t i n → i + n ≤ 128
        → ((j : ℕ) → cond (within i (i + n) j) (g j) (get_or t j 0) ≡ p j) → file_from z u ≡ record { size = z; page = p }
    filled_file z i n g p e l h =
        let q : (λ j. get_or u j 0) ≡ p = fun_ext (λ j. rw e (filled_at g n t i j (omega arith) ∙ h j)) in
        let f : (ℕ → ℕ) → File = λ y. record { size = z; page = y } in
        ap f q

    pub did_write : (f d c z : ℕ) → e ≡ Write f d c z → u ≡ filled (λ i. d + (i - f)) t f c → Applied s t e z u
    unfolding meant file_step
    did_write f d c z h g =
        record {
          file = rw h (filled_file z f c (λ i. d + (i - f)) _ g (run_room f d c z h) (λ j. refl));
          long = ap length g ∙ length_filled (λ i. d + (i - f)) c t f ∙ long;
        }

    pub did_size : (z i : ℕ) → e ≡ SetSize z → i ≡ (z + 511) / 512 → u ≡ filled (λ j. 0) t i (128 - i) → Applied s t e z u
    unfolding meant file_step
    did_size z i h d g =
        let b = size_low z h in
        let n = 128 - i in
        let p : (j : ℕ) → cond (within i (i + n) j) 0 (get_or t j 0) ≡ cond (leb z (512 * j)) 0 (get_or t j 0) =
        λ j. by_lt j i (λ l. rw (outside i (i + n) j (λ x y. omega arith), lt-leb z (512 * j) (omega arith)))
        (λ l. rw (le-leb z (512 * j) (omega arith))
        (by_lt j 128 (λ k. rw (inside i (i + n) j l (omega arith)))
        (λ k. rw (outside i (i + n) j (λ x y. omega arith)) (get_or-eq_default t 0 {n = j} (omega arith))))) in
        record {
          file = rw h (filled_file z i n (λ i. 0) _ g (omega arith) p);
          long = ap length g ∙ length_filled (λ i. 0) n t i ∙ long;
        }
