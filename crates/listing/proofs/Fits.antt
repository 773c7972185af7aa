-- Every listing has room: the first line has at most 53 bytes, a refusal fewer, and each of at most 224 names a line of at most 50.
use Rattle.model.proofs.Prelude.{ℕ, ◌+◌, ◌*◌, ◌≤◌, refl, List, [], ◌∷◌, arith, lt-ltb, le-ltb, length, length-append}
use Rattle.model.specs.Words.{word}
use Rattle.model.specs.Layout.{root}
use Rattle.model.specs.Journal.{is_open, view}
use Rattle.model.specs.State.{Names}
use Rattle.model.specs.Accept.{free_count, accepted}
use Rattle.model.specs.Public.{is_volume, volume_checks, closed_checks}
use Rattle.model.specs.Listing.{decimal, first_line, name_line, refusal_line, name_lines, text_of, listing_of, listing}
use Rattle.model.proofs.Tests.{by_bool, by_lt}
use Rattle.model.proofs.Log.Decode.{name_short}
use Rattle.model.proofs.State.NameEntries.{GoodName, GoodNames}
use Rattle.names.specs.Listed.{names_in, Good}
use Rattle.names.proofs.Listing.{few_inodes}
use Rattle.totals.specs.Totals.{counts_in}
use Rattle.totals.proofs.Beneath.{counts_small}
use Rattle.listing.specs.Lines.{GoodInode, GoodInodes, lines_of}
use Rattle.listing.proofs.Decimals.{decimal_most, decimal_length}
use Rattle.listing.proofs.Files.{good_names, few_names, names_inodes}

-- the first line, whatever its numbers
module _ (x y : ℕ) where
  pub first_room : 13 + length (decimal x) + length (decimal y) ≤ 11264
  first_room = let a = decimal_most x in let b = decimal_most y in omega arith

  pub first_most : length (first_line x y) ≤ 53
  unfolding first_line
  first_most = let a = decimal_most x in let b = decimal_most y in simp length-append (omega arith)

-- the line of a refusal, whatever its number
module _ (x : ℕ) where
  pub refusal_room : 9 + length (decimal x) ≤ 11264
  refusal_room = let a = decimal_most x in omega arith

  refusal_fits : length (refusal_line x) ≤ 11264
  unfolding refusal_line
  refusal_fits = let a = decimal_most x in simp length-append (omega arith)

-- the lines of names that lead to valid inodes, of an accepted volume v
module _ (v : List ℕ) (g : Good v) where
  most : word v 1 ≤ 256
  most = few_inodes v (word v 0) (word v 1) g.volume refl refl

  line_short : (n : List ℕ) (k : ℕ) → GoodName (word v 1) (n, k) → GoodInode (view (word v)) (word v 1) k
      → length (name_line k (counts_in v (word v 1) k) n) ≤ 50
  unfolding name_line
  line_short n k h f =
      let small = counts_small v g (word v 1) k most f.below f.valid in
      let a = decimal_length 2 k (omega (arith, most, f.below)) in
      let b = decimal_length 11 (counts_in v (word v 1) k) (omega arith) in
      let c = name_short n h.fine in
      simp length-append (omega arith)

  lines_short : (ns : Names) → GoodNames (word v 1) ns → GoodInodes (view (word v)) (word v 1) ns → length (lines_of v ns) ≤ 50 * length ns
  unfolding name_lines GoodInodes
  lines_short [] h f = omega arith
  lines_short (p ∷ ps) h f =
      let a = line_short p.0 p.1 h.0 f.0 in
      let b = lines_short ps h.1 f.1 in
      rw length-append (omega arith)

  -- 224 times 50 bytes at most, and the whole text
  pub lines_most : length (lines_of v (names_in v root)) ≤ 11200
  lines_most =
      let few = few_names v g in
      let b = lines_short (names_in v root) (good_names v g) (names_inodes v g) in omega arith

  text_fits : length (text_of (view (word v)) (word v 0) (word v 1)) ≤ 11264
  unfolding text_of
  text_fits =
      let a = first_most (length (names_in v root)) (free_count (view (word v)) (word v 0) (word v 1)) in
      let b = lines_most in
      rw length-append (omega arith)

pub listing_fits : (v : List ℕ) → length (listing v) ≤ 11264
unfolding listing listing_of closed_checks volume_checks
listing_fits v =
    by_lt 65536 (length v) (λ l. rw (lt-ltb 65536 (length v) l) (refusal_fits 2))
    (λ l.
    by_bool (is_volume (length v) (word v))
    (λ i.
    by_bool (accepted (word v) (word v 0) (word v 1))
    (λ a.
    by_bool (is_open (word v)) (λ o. rw (le-ltb 65536 (length v) l, i, a, o) (refusal_fits 4))
    (λ o. rw (le-ltb 65536 (length v) l, i, a, o) (text_fits v (record { volume = i; good = a }))))
    (λ a. rw (le-ltb 65536 (length v) l, i, a) (refusal_fits 3)))
    (λ i. rw (le-ltb 65536 (length v) l, i) (refusal_fits 2)))
