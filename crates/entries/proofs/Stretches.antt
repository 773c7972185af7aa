-- The stretches of a file: each turn of the loop takes the first of those that are left.
use Rattle.model.proofs.Prelude.{ℕ, suc, ◌+◌, ◌-◌, ◌≤◌, ◌<◌, ◌≡◌, sym, ap, ◌∙◌, fun_ext, true, List, [], ◌∷◌, arith, add-zero, sub-zero, length, get_or, eqb, eq-eqb, ne_eqb}
use Rattle.model.specs.Entry.{write_words, size_words}
use Rattle.model.specs.Stretches.{stretches}
use Rattle.model.specs.Calls.{stretch_entries, clean_file}
use Rattle.model.proofs.State.Stretches.{first_stretch}
use Rattle.files.specs.State.{file_from}
use Rattle.entries.specs.Table.{entries_of, Holds, Put, data_page, Runs}
use Rattle.entries.proofs.Entries.{length_entries, put_one}

-- The loop of `run_length`: c elements of the table from element i on are consecutive pages.

pub record Running (t : List ℕ) (i c : ℕ) : Type 0 where
  pub some : 1 ≤ c
  pub to : i + c ≤ length t
  pub on : (j : ℕ) → j < c → get_or t (i + j) 0 ≡ get_or t i 0 + j

-- The loop of `put_stretches`: the entries that are left, those of the stretches from element i on; p is element i. The table has the pages of
-- file pages from k on.

abbrev pub left : List ℕ → ℕ → ℕ → ℕ → List (List ℕ)
left t k z i = stretch_entries z (stretches (data_page t k) (length t - i) (k + i))

module _ (t : List ℕ) (k z i : ℕ) where
  element_is : (j : ℕ) → data_page t k (k + i + j) ≡ get_or t (i + j) 0
  element_is j = let e : k + i + j - k ≡ i + j = omega arith in rw e

  module _ (p : ℕ) (h : i < length t) (e : p ≡ get_or t i 0) where
    page_is : data_page t k (k + i) ≡ get_or t i 0
    page_is = rw (add-zero (k + i), add-zero i) at (element_is 0)

    pub left_same : p ≡ 0 → left t k z i ≡ left t k z (i + 1)
    unfolding stretches
    left_same f =
        let s : length t - i ≡ suc (length t - (i + 1)) = omega arith in
        let n : k + i + 1 ≡ k + (i + 1) = omega arith in
        rw (s, stretches, page_is, eq-eqb (get_or t i 0) 0 (sym e ∙ f), n)

    pub left_next : (c : ℕ) → (p ≡ 0 → ⊥) → Runs t i c → left t k z i ≡ write_words (k + i) p c z ∷ left t k z (i + c)
    unfolding stretch_entries
    left_next c f r =
        let o = r.some in
        let m = r.to in
        let s : length t - i - c ≡ length t - (i + c) = omega arith in
        let n : k + i + c ≡ k + (i + c) = omega arith in
        let first = first_stretch (data_page t k) c (length t - i) (k + i) o (omega arith) (rw page_is (omega arith))
        (λ j l. element_is j ∙ r.on j l ∙ rw page_is) (λ g q. r.longest (omega arith) (sym (element_is c) ∙ q ∙ rw page_is)) in
        rw (first, s, n, page_is, e)

  pub left_none : length t ≤ i → left t k z i ≡ []
  unfolding stretches stretch_entries
  left_none h = let s : length t - i ≡ 0 = omega arith in rw s

-- all of them, of a table for a file
pub left_all : (t : List ℕ) (k z : ℕ) → left t k z 0 ≡ stretch_entries z (stretches (data_page t k) (length t) k)
left_all t k z = rw (sub-zero, add-zero)

-- `clean_file`: the table l is m by now, and has n writes of stretches of the file's pages.

module _ (t l m : List ℕ) (z n : ℕ) (long : length t ≡ 128) (q : Holds l m n (stretch_entries z (stretches (data_page t 0) (length t) 0))) where
  abbrev all : List (List ℕ)
  all = stretch_entries z (stretches (file_from z t).page 128 0)

  held : Holds l m n all
  held =
      let e : data_page t 0 ≡ (file_from z t).page = fun_ext (λ i. ap (λ j. get_or t j 0) (sub-zero i)) in
      let o : Holds l m n (stretch_entries z (stretches (data_page t 0) 128 0)) = rw long at q in
      rw e at o

  count_is : length all ≡ n
  count_is = rw (← held.entries) (length_entries m 0 n)

  pub file_mapped : 0 < n → Holds l m n (clean_file (file_from z t))
  unfolding clean_file
  file_mapped h = rw (clean_file, ne_eqb (length all) 0 (omega (arith, count_is))) held

  module _ (h : n ≤ 0) where
    none : eqb (length all) 0 ≡ true
    none = eq-eqb (length all) 0 (omega (arith, count_is))

    pub file_empty : z ≡ 0 → Holds l m 0 (clean_file (file_from z t))
    unfolding clean_file entries_of
    file_empty e = record { entries = rw (clean_file, none, eq-eqb z 0 e); long = q.long }

    pub file_sized : (z ≡ 0 → ⊥) → (k s : List ℕ) → Put m k 0 s → s ≡ size_words z → Holds l k 1 (clean_file (file_from z t))
    unfolding clean_file
    file_sized e k s u f =
        let p = put_one m k s u in
        rw (clean_file, none, ne_eqb z 0 e, ← f) (record { entries = p.entries; long = p.long ∙ q.long })
