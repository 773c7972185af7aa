-- The names that a directory's entries come to: each is a name of an accepted entry, and the entries that calls write come to the names
-- they should.
use Rattle.model.proofs.Prelude.{◌≡◌, refl, sym, ◌∙◌, ap, ℕ, ◌+◌, ◌≤◌, ◌<◌, true, false, List, [], ◌∷◌, ◌++◌, map, append_assoc, append-nil, take, eqb, leb-true, ltb-true}
use Rattle.model.specs.Lists.{all, filter, foldl}
use Rattle.model.specs.Words.{Mem}
use Rattle.model.specs.Layout.{is_directory}
use Rattle.model.specs.Entry.{Entry, write_entry, size_entry, add_entry, remove_entry, no_entry, entry_at, name_ok, field_ok, name_entry_ok, add_words, remove_words}
use Rattle.model.specs.Log.{pages, tail_slots, entry_words, entries}
use Rattle.model.specs.State.{Names, is_named, without, with_name, name_step, names_of, inode_of}
use Rattle.model.specs.Accept.{log_ok}
use Rattle.model.specs.Calls.{clean_names}
use Rattle.model.specs.Claim.{Bytes}
use Rattle.model.proofs.Tests.{by_bool, ands}
use Rattle.model.proofs.Lists.{all_cons, same_true, same_sym}
use Rattle.model.proofs.Log.Decode.{decode, decode_add, decode_remove, take_padded, name_short, add_ok, remove_ok, bytes_take, bytes_field}
use Rattle.model.proofs.State.Names.{stands_in, DistinctNames, without_same, without_other, not_in, without_absent, distinct_fold}

-- Names of accepted entries.

pub record GoodName (N : ℕ) (p : List ℕ × ℕ) : Type 0 where
  pub fine : name_ok p.0 ≡ true
  pub bytes : Bytes p.0
  pub first : 1 ≤ p.1
  pub below : p.1 < N

abbrev pub GoodNames : ℕ → Names → Type 0
GoodNames N [] = Unit {0}
GoodNames N (p ∷ ps) = GoodName N p × GoodNames N ps

good_without : (N : ℕ) (n : List ℕ) (ns : Names) → GoodNames N ns → GoodNames N (without n ns)
unfolding without filter
good_without N n [] g = g
good_without N n (p ∷ ps) g =
    let r = good_without N n ps g.1 in
    by_bool (is_named n p) (λ t. rw (without_same n p ps t) r) (λ t. rw (without_other n p ps t) (g.0, r))

good_snoc : (N : ℕ) (ns : Names) (p : List ℕ × ℕ) → GoodNames N ns → GoodName N p → GoodNames N (ns ++ p ∷ [])
good_snoc N [] p g h = (h, tt)
good_snoc N (q ∷ ns) p g h = (g.0, good_snoc N ns p g.1 h)

-- an entry whose name is bytes
abbrev ByteEntry : Entry → Type 0
ByteEntry (write_entry f d c z) = Unit {0}
ByteEntry (size_entry z) = Unit {0}
ByteEntry (add_entry i l f) = Bytes f
ByteEntry (remove_entry l f) = Unit {0}
ByteEntry no_entry = Unit {0}

entry_bytes : (u : Mem) (w : ℕ) → ByteEntry (entry_at u w)
unfolding entry_at
entry_bytes u w =
    by_bool (eqb (u w) 1) (λ a. rw a tt) (λ a. by_bool (eqb (u w) 2) (λ b. rw (a, b) tt)
    (λ b. by_bool (eqb (u w) 3) (λ c. rw (a, b, c) (bytes_field u (w + 3)))
    (λ c. by_bool (eqb (u w) 4) (λ d. rw (a, b, c, d) tt) (λ d. rw (a, b, c, d) tt))))

good_step : (N : ℕ) (ns : Names) (e : Entry) → ByteEntry e → name_entry_ok N e ≡ true → GoodNames N ns → GoodNames N (name_step ns e)
unfolding name_step name_entry_ok with_name field_ok
good_step N ns (write_entry f d c z) b e g = g
good_step N ns (size_entry z) b e g = g
good_step N ns (add_entry i l f) b e g =
    good_snoc N (without (take l f) ns) (take l f, i) (good_without N (take l f) ns g)
    (record { fine = search ands; bytes = bytes_take l f b; first = leb-true 1 i (search ands); below = ltb-true i N (search ands) })
good_step N ns (remove_entry l f) b e g = good_without N (take l f) ns g
good_step N ns no_entry b e g = g

good_fold : (u : Mem) (N : ℕ) (ws : List ℕ) (ns : Names) → all (name_entry_ok N) (map (entry_at u) ws) ≡ true → GoodNames N ns
    → GoodNames N (foldl name_step ns (map (entry_at u) ws))
unfolding foldl
good_fold u N [] ns e g = g
good_fold u N (w ∷ ws) ns e g =
    let c = all_cons (name_entry_ok N) (entry_at u w) (map (entry_at u) ws) e in
    good_fold u N ws (name_step ns (entry_at u w)) c.1 (good_step N ns (entry_at u w) (entry_bytes u w) c.0 g)

-- a name that stands is one that may stand
pub standing_ok : (N : ℕ) (ns : Names) → GoodNames N ns → (n : List ℕ) → (inode_of ns n ≡ 0 → ⊥) → name_ok n ≡ true
unfolding inode_of
standing_ok N [] g n h = absurd (h refl)
standing_ok N (p ∷ ps) g n h =
    by_bool (is_named n p) (λ t. let e = same_true p.0 n t in rw (← e) g.0.fine)
    (λ t. standing_ok N ps g.1 n (λ z. h (rw (inode_of, t) z)))

-- the names of a directory whose log is accepted
module _ (u : Mem) (P N d : ℕ) (dir : is_directory u d ≡ true) (ok : log_ok u P N d ≡ true) where
  pub names_good : GoodNames N (names_of u P N d)
  unfolding names_of entries log_ok
  names_good =
      let h = rw dir at ok in
      good_fold u N (entry_words (pages u P N d) (tail_slots u d)) [] (search ands) tt

  pub names_distinct : DistinctNames (names_of u P N d)
  unfolding names_of
  names_distinct = distinct_fold (entries u P N d) [] tt

-- Entries that are appended.

module _ (n : List ℕ) (fine : name_ok n ≡ true) (bytes : Bytes n) where
  add_step : (i : ℕ) (ns : Names) → name_step ns (decode (add_words i n)) ≡ with_name n i ns
  unfolding name_step
  add_step i ns = rw (decode_add n (name_short n fine) bytes i, take_padded)

  remove_step : (ns : Names) → name_step ns (decode (remove_words n)) ≡ without n ns
  unfolding name_step
  remove_step ns = rw (decode_remove n (name_short n fine) bytes, take_padded)

  add_entry_ok : (N i : ℕ) → 1 ≤ i → i < N → name_entry_ok N (decode (add_words i n)) ≡ true
  add_entry_ok N i g h = rw (decode_add n (name_short n fine) bytes i) (add_ok n fine N i g h)

  remove_entry_ok : (N : ℕ) → name_entry_ok N (decode (remove_words n)) ≡ true
  remove_entry_ok N = rw (decode_remove n (name_short n fine) bytes) (remove_ok n fine N)

  pub names_added : (i : ℕ) (ns : Names) → foldl name_step ns (map decode (add_words i n ∷ [])) ≡ with_name n i ns
  unfolding foldl
  names_added i ns = add_step i ns

  pub added_ok : (N i : ℕ) → 1 ≤ i → i < N → all (name_entry_ok N) (map decode (add_words i n ∷ [])) ≡ true
  unfolding all
  added_ok N i g h = rw (add_entry_ok N i g h)

  pub names_removed : (ns : Names) → foldl name_step ns (map decode (remove_words n ∷ [])) ≡ without n ns
  unfolding foldl
  names_removed ns = remove_step ns

  pub removed_ok : (N : ℕ) → all (name_entry_ok N) (map decode (remove_words n ∷ [])) ≡ true
  unfolding all
  removed_ok N = rw (remove_entry_ok N)

module _ (a b : List ℕ) (fine-a : name_ok a ≡ true) (bytes-a : Bytes a) (fine-b : name_ok b ≡ true) (bytes-b : Bytes b) (i : ℕ) where
  pub names_moved : (ns : Names) → foldl name_step ns (map decode (remove_words a ∷ add_words i b ∷ [])) ≡ with_name b i (without a ns)
  unfolding foldl
  names_moved ns = rw (remove_step a fine-a bytes-a ns) (add_step b fine-b bytes-b i (without a ns))

  pub moved_ok : (N : ℕ) → 1 ≤ i → i < N → all (name_entry_ok N) (map decode (remove_words a ∷ add_words i b ∷ [])) ≡ true
  unfolding all
  moved_ok N g h = rw (remove_entry_ok a fine-a bytes-a N, add_entry_ok b fine-b bytes-b N i g h)

-- Entries that clean writes.

stands_split : (n : List ℕ) (ms : Names) (p : List ℕ × ℕ) (ps : Names) → stands_in n (ms ++ (p ∷ ps)) ≡ false → is_named n p ≡ false
stands_split n [] p ps e = (not_in n p ps e).0
stands_split n (q ∷ ms) p ps e = stands_split n ms p ps (not_in n q (ms ++ (p ∷ ps)) e).1

distinct_split : (ms : Names) (p : List ℕ × ℕ) (ps : Names) → DistinctNames (ms ++ (p ∷ ps)) → stands_in p.0 ms ≡ false
unfolding stands_in
distinct_split [] p ps d = refl
distinct_split (q ∷ ms) p ps d = rw (same_sym q.0 p.0, stands_split q.0 ms p ps d.0) (distinct_split ms p ps d.1)

clean_from : (N : ℕ) (ns ms : Names) → GoodNames N ns → DistinctNames (ms ++ ns) → foldl name_step ms (map decode (clean_names ns)) ≡ ms ++ ns
unfolding foldl clean_names with_name
clean_from N [] ms g d = sym (append-nil ms)
clean_from N (p ∷ ps) ms g d =
    let e : (ms ++ (p ∷ [])) ++ ps ≡ ms ++ (p ∷ ps) = append_assoc ms (p ∷ []) ps in
    let a : name_step ms (decode (add_words p.1 p.0)) ≡ ms ++ (p ∷ []) =
    add_step p.0 g.0.fine g.0.bytes p.1 ms ∙ rw (without_absent p.0 ms (distinct_split ms p ps d)) in
    ap (λ (x : Names). foldl name_step x (map decode (clean_names ps))) a ∙ clean_from N ps (ms ++ (p ∷ [])) g.1 (rw e d) ∙ e

pub clean_names_lem : (N : ℕ) (ns : Names) → GoodNames N ns → DistinctNames ns → foldl name_step [] (map decode (clean_names ns)) ≡ ns
clean_names_lem N ns g d = clean_from N ns [] g d

pub clean_names_ok : (N : ℕ) (ns : Names) → GoodNames N ns → all (name_entry_ok N) (map decode (clean_names ns)) ≡ true
unfolding all clean_names
clean_names_ok N [] g = refl
clean_names_ok N (p ∷ ps) g =
    rw (add_entry_ok p.0 g.0.fine g.0.bytes N p.1 g.0.first g.0.below) (clean_names_ok N ps g.1)
