-- What the checks of sizes and entries give, entry by entry: a file's data pages are pages of the volume, and names lead to inodes.
use Rattle.model.proofs.Prelude.{◌≡◌, refl, ◌⊎◌, inl, inr, ℕ, ◌+◌, ◌-◌, ◌*◌, ◌/◌, ◌%◌, ◌≤◌, ◌<◌, Bool, true, false, List, [], ◌∷◌, arith, take, leb, ltb, eqb, eqb-true, ltb-true, leb-true, lt-ltb, le-ltb, ne_eqb}
use Rattle.model.specs.Lists.{bit, all, foldl}
use Rattle.model.specs.Words.{Mem, byte_at}
use Rattle.model.specs.Layout.{sizes_ok, in_pages, file_pages}
use Rattle.model.specs.Entry.{Entry, write_entry, size_entry, add_entry, remove_entry, no_entry, file_entry_ok, name_entry_ok}
use Rattle.model.specs.State.{File, empty_file, file_step, file_byte, Names, name_step, without, with_name, inodes}
use Rattle.model.specs.Accept.{mapped_to}
use Rattle.model.proofs.Tests.{by_bool, by_eq, by_range, ands, bit_same}
use Rattle.model.proofs.Lists.{sum_below_one, all_cons, all_append, all_filter, fold_keeps}

pub sizes_whole : (P N : ℕ) → sizes_ok P N ≡ true → (N % 8 ≡ 0) × (0 < N)
unfolding sizes_ok
sizes_whole P N s = let g = leb-true 8 N (search ands) in (eqb-true (N % 8) 0 (search ands), omega arith)

pub in_pages_lem : (P N p : ℕ) → N / 8 < p → p < P → in_pages P N p ≡ true
unfolding in_pages
in_pages_lem P N p h g = rw (lt-ltb _ _ h, lt-ltb _ _ g)

pub in_bounds : (P N p : ℕ) → in_pages P N p ≡ true → (N / 8 < p) × (p < P)
unfolding in_pages
in_bounds P N p e = (ltb-true (N / 8) p (search ands), ltb-true p P (search ands))

pub zero_outside : (P N : ℕ) → in_pages P N 0 ≡ false
unfolding in_pages
zero_outside P N = rw (le-ltb (N / 8) 0 (omega arith))

-- each mapped file page is one of the 128, on a page of the volume
abbrev pub Placed : ℕ → ℕ → File → Type 0
Placed P N f = (i : ℕ) → (f.page i ≡ 0) ⊎ ((i < file_pages) × (in_pages P N (f.page i) ≡ true))

placed_step : (P N : ℕ) (f : File) (e : Entry) → file_entry_ok P N e ≡ true → Placed P N f → Placed P N (file_step f e)
unfolding file_step file_entry_ok
placed_step P N f (write_entry a d c z) e h i =
    by_range a (a + c) i
    (λ t p q.
    let h1 = leb-true (a + c) 128 (search ands) in
    let h2 = leb-true (d + c) P (search ands) in
    let h3 = ltb-true (N / 8) d (search ands) in
    inr (omega arith, rw t (in_pages_lem P N (d + (i - a)) (omega arith) (omega arith))))
    (λ t n. rw t (h i))
placed_step P N f (size_entry z) e h i = by_bool (leb z (512 * i)) (λ t. inl (rw t)) (λ t. rw t (h i))
placed_step P N f (add_entry j l n) e h i = h i
placed_step P N f (remove_entry l n) e h i = h i
placed_step P N f no_entry e h i = h i

pub placed : (P N : ℕ) (es : List Entry) → all (file_entry_ok P N) es ≡ true → Placed P N (foldl file_step empty_file es)
unfolding empty_file
placed P N es e = fold_keeps file_step (Placed P N) (file_entry_ok P N) (placed_step P N) es empty_file e (λ i. inl refl)

abbrev pub leads_in : ℕ → List ℕ × ℕ → Bool
leads_in N p = ltb p.1 N

named_step : (N : ℕ) (ns : Names) (e : Entry) → name_entry_ok N e ≡ true → all (leads_in N) ns ≡ true → all (leads_in N) (name_step ns e) ≡ true
unfolding name_step name_entry_ok with_name without all
named_step N ns (write_entry a d c z) e h = h
named_step N ns (size_entry z) e h = h
named_step N ns (add_entry j l n) e h =
    let g : ltb j N ≡ true = search ands in
    all_append (leads_in N) (without (take l n) ns) ((take l n, j) ∷ []) (all_filter (leads_in N) _ ns h) (rw g)
named_step N ns (remove_entry l n) e h = all_filter (leads_in N) _ ns h
named_step N ns no_entry e h = h

pub named : (N : ℕ) (es : List Entry) → all (name_entry_ok N) es ≡ true → all (leads_in N) (foldl name_step [] es) ≡ true
unfolding all
named N es e = fold_keeps name_step (λ ns. all (leads_in N) ns ≡ true) (name_entry_ok N) (named_step N) es [] e refl

-- tests that agree on the volume's inodes agree on those that names lead to
pub all_inodes : (N : ℕ) (f g : ℕ → Bool) (ns : Names) → all (leads_in N) ns ≡ true → ((k : ℕ) → k < N → f k ≡ g k)
    → all f (inodes ns) ≡ all g (inodes ns)
unfolding all
all_inodes N f g [] e h = refl
all_inodes N f g (p ∷ ns) e h =
    let c = all_cons (leads_in N) p ns e in
    rw (h p.1 (ltb-true p.1 N c.0), all_inodes N f g ns c.1 h)

-- a data page of a file serves it
pub mapped_at : (f : File) (i : ℕ) → i < file_pages → 1 ≤ mapped_to f (f.page i)
unfolding mapped_to
mapped_at f i h =
    let a : bit (eqb (f.page i) (f.page i)) ≤ mapped_to f (f.page i) = sum_below_one 128 i (λ j. bit (eqb (f.page j) (f.page i))) h in
    let b = bit_same (f.page i) (f.page i) refl in omega arith

-- m' has the words of m on the data pages of a file
abbrev pub SamePages : Mem → Mem → File → Type 0
SamePages m m' f = (i o : ℕ) → o < 64 → (f.page i ≡ 0 → ⊥) → m' (64 * f.page i + o) ≡ m (64 * f.page i + o)

-- a byte of a file looks at one word
pub file_byte_same : (m m' : Mem) (f : File) (x : ℕ)
    → ((f.page (x / 512) ≡ 0 → ⊥) → m' (64 * f.page (x / 512) + x % 512 / 8) ≡ m (64 * f.page (x / 512) + x % 512 / 8))
    → file_byte m' f x ≡ file_byte m f x
unfolding file_byte byte_at
file_byte_same m m' f x h =
    by_eq (f.page (x / 512)) 0 (λ e. rw e)
    (λ e.
    let w : (512 * f.page (x / 512) + x % 512) / 8 ≡ 64 * f.page (x / 512) + x % 512 / 8 = omega arith in
    rw (ne_eqb _ _ e, w, h e))
