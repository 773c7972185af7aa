-- A file after an append to its log: its fresh data pages are mapped, their bytes are those of the words stored there, and all its other bytes
-- stay.
use Rattle.model.proofs.Prelude.{◌≡◌, ◌∙◌, ap, inl, inr, ℕ, ◌+◌, ◌-◌, ◌*◌, ◌/◌, ◌%◌, ◌≤◌, ◌<◌, true, cond, List, map, map-append, ◌++◌, arith, length, get_or, get_or-eq_default, eqb, ne_eqb}
use Rattle.model.specs.Lists.{all, foldl}
use Rattle.model.specs.Stretches.{stretches}
use Rattle.model.specs.Words.{Mem, le_from, byte_at}
use Rattle.model.specs.Entry.{file_entry_ok}
use Rattle.model.specs.State.{File, file_step, file_of, file_byte}
use Rattle.model.specs.Calls.{Append, stretch_entries}
use Rattle.model.proofs.Tests.{by_eq, by_lt, within, by_range}
use Rattle.model.proofs.Lists.{foldl_append}
use Rattle.model.proofs.Words.{le_from_byte}
use Rattle.model.proofs.Log.Decode.{decode}
use Rattle.model.proofs.Frame.Placed.{SamePages, file_byte_same}
use Rattle.model.proofs.State.Stretches.{same_file, after, after_page, after_some, stretches_some, stretches_fit}

-- the entries of an append whose data stands on the pages ds
abbrev pub entries_on : Append → List ℕ → List (List ℕ)
entries_on a ds = a.entries ++ stretch_entries a.size (stretches (λ i. get_or ds (i - a.file) 0) a.count a.file)

-- the file that a log means with them
abbrev pub file_after : Mem → ℕ → ℕ → Append → List ℕ → File
file_after u P N a ds = foldl file_step (file_of u P N a.log) (map decode (entries_on a ds))

-- .. and with the first of them alone
abbrev pub file_before : Mem → ℕ → ℕ → Append → File
file_before u P N a = foldl file_step (file_of u P N a.log) (map decode a.entries)

-- what stands in u' after an append: its data, on pages for data, and the file's own pages as they were
pub record Filled (u u' : Mem) (P N : ℕ) (a : Append) (ds : List ℕ) : Type 0 where
  pub number : length ds ≡ a.count
  pub places : (j : ℕ) → j < a.count → (N / 8 < get_or ds j 0) × (get_or ds j 0 < P)
  pub stored : (j : ℕ) → j < 64 * a.count → u' (64 * get_or ds (j / 64) 0 + j % 64) ≡ a.words j
  pub kept : SamePages u u' (file_of u P N a.log)

-- the file f with the c file pages from a on mapped to the pages ds, and size z
abbrev pub mapping : File → ℕ → ℕ → List ℕ → ℕ → File
mapping f a c ds z = record { size = cond (eqb c 0) f.size z; page = λ i. cond (within a (a + c) i) (get_or ds (i - a) 0) (f.page i) }

module _ (a c : ℕ) (ds : List ℕ) (some : (j : ℕ) → j < c → 1 ≤ get_or ds j 0) where
  -- entries for the stretches of these pages
  pub after_mapping : (f : File) (z : ℕ) → after z f (stretches (λ i. get_or ds (i - a) 0) c a) ≡ mapping f a c ds z
  unfolding stretches foldl stretch_entries
  after_mapping f z =
      let ss = stretches (λ i. get_or ds (i - a) 0) c a in
      same_file _ _
      (by_eq c 0 (λ e. rw e)
      (λ e. rw (ne_eqb c 0 e) (after_some z ss f (stretches_some (λ i. get_or ds (i - a) 0) c a (omega arith)
      (λ q. let h = some (a - a) (omega arith) in omega arith)))))
      (λ j. after_page z (λ i. get_or ds (i - a) 0) c a f j
      ∙ by_range a (a + c) j (λ t x y. let h = some (j - a) (omega arith) in rw (t, ne_eqb (get_or ds (j - a) 0) 0 (omega arith))) (λ t x. rw t))

  -- the bytes of a file that maps them, in a memory in which the bytes g from file page a on are stored there as words
  module _ (u : Mem) (g : ℕ → ℕ) (small : (x : ℕ) → g x < 256)
      (stored : (j : ℕ) → j < 64 * c → u (64 * get_or ds (j / 64) 0 + j % 64) ≡ le_from g (512 * a + 8 * j) 8) where
    stored_byte : (x : ℕ) → a ≤ x / 512 → x / 512 < a + c → byte_at u (512 * get_or ds (x / 512 - a) 0 + x % 512) ≡ g x
    unfolding byte_at
    stored_byte x l h =
        let p = get_or ds (x / 512 - a) 0 in
        let j = 64 * (x / 512 - a) + x % 512 / 8 in
        let q : (512 * p + x % 512) / 8 ≡ 64 * p + x % 512 / 8 = omega arith in
        let r : (512 * p + x % 512) % 8 ≡ x % 8 = omega arith in
        let i : j / 64 ≡ x / 512 - a = omega arith in
        let o : j % 64 ≡ x % 512 / 8 = omega arith in
        let s = rw (i, o) at (stored j (omega arith)) in
        rw (q, r, s) (le_from_byte 8 g (512 * a + 8 * j) (x % 8) small (omega arith) ∙ ap g (omega arith))

    pub mapping_byte : (u₀ : Mem) (f : File) (z : ℕ) → SamePages u₀ u f
        → (x : ℕ) → file_byte u (mapping f a c ds z) x ≡ cond (within a (a + c) (x / 512)) (g x) (file_byte u₀ f x)
    unfolding file_byte
    mapping_byte u₀ f z kept x =
        by_range a (a + c) (x / 512)
        (λ t l h. let n = some (x / 512 - a) (omega arith) in rw (t, ne_eqb (get_or ds (x / 512 - a) 0) 0 (omega arith)) (stored_byte x l h))
        (λ t h. rw t (file_byte_same u₀ u f x (kept (x / 512) (x % 512 / 8) (omega arith))))

-- the file after an append whose data pages are some
pub after_append : (u : Mem) (P N : ℕ) (a : Append) (ds : List ℕ) → ((j : ℕ) → j < a.count → 1 ≤ get_or ds j 0)
    → file_after u P N a ds ≡ mapping (file_before u P N a) a.file a.count ds a.size
after_append u P N a ds some =
    ap (foldl file_step (file_of u P N a.log)) (map-append decode a.entries _)
    ∙ foldl_append file_step (file_of u P N a.log) (map decode a.entries) _
    ∙ after_mapping a.file a.count ds some (file_before u P N a) a.size

-- the entries of such data are ones that a file's log may hold
pub data_fits : (P N a c : ℕ) (ds : List ℕ) (z : ℕ) → length ds ≡ c → ((j : ℕ) → j < c → (N / 8 < get_or ds j 0) × (get_or ds j 0 < P))
    → a + c ≤ 128 → z ≤ 65536 → all (file_entry_ok P N) (map decode (stretch_entries z (stretches (λ i. get_or ds (i - a) 0) c a))) ≡ true
data_fits P N a c ds z n places short small =
    stretches_fit P N z small (λ i. get_or ds (i - a) 0) c a short
    (λ j. by_lt (j - a) c (λ l. inr (places (j - a) l)) (λ l. inl (get_or-eq_default ds 0 {n = j - a} (omega arith))))
