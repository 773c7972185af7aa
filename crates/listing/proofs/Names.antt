-- The line of a name, by what the code read of its entry and what its inode counts; and the loop: the lines from the i-th name on are the
-- one there and those after it.
use Rattle.model.proofs.Prelude.{ℕ, ◌+◌, ◌*◌, ◌≤◌, ◌<◌, ◌≡◌, refl, sym, ◌∙◌, ap, true, List, ◌∷◌, ◌++◌, arith, add-one, length, get_or, length-append, drop, drop-cons, drop_of_length-le}
use Rattle.model.specs.Words.{word}
use Rattle.model.specs.Journal.{view}
use Rattle.model.specs.Accept.{is_valid}
use Rattle.model.specs.Listing.{decimal, name_line, name_lines}
use Rattle.model.specs.Lists.{all}
use Rattle.model.proofs.Lists.{has_get_or, all_has}
use Rattle.directory.specs.Fields.{name_at}
use Rattle.directory.specs.Places.{standing, place_ok}
use Rattle.lookup.proofs.Places.{place_in}
use Rattle.names.specs.Listed.{Good}
use Rattle.names.proofs.Listing.{few_inodes}
use Rattle.stores.specs.Emitted.{Emitted}
use Rattle.stores.proofs.Emitting.{Rest, rest_none, rest_next}
use Rattle.totals.specs.Totals.{counts_in}
use Rattle.listing.specs.Lines.{GoodInode, GoodInodes, line_of, lines_of}
use Rattle.listing.proofs.Lines.{line_room}

-- The line of the name of the entry at place p: k is its inode and s what that counts, as the code read them; N is the inode count.

pub entry_in_lem : (v : List ℕ) (p : ℕ) → place_ok (word v) (length v) p ≡ true → 8 * (8 * p) + 64 ≤ length v
entry_in_lem v p ok = let h = place_in (word v) (length v) p ok in omega arith

pub few_left : (v : List ℕ) (N : ℕ) → Good v → N ≡ word v 1 → N ≤ 256
few_left v N g q = few_inodes v (word v 0) N g.volume refl q

module _ (v : List ℕ) (p k : ℕ) (e : k ≡ word v (8 * p + 1)) where
  module _ (f : GoodInode (view (word v)) (word v 1) (word v (8 * p + 1))) where
    pub inode_below : k < word v 1
    inode_below = rw e f.below

    pub inode_valid : is_valid (view (word v)) k ≡ true
    inode_valid = rw e f.valid

  module _ (N s : ℕ) (q : N ≡ word v 1) (f : s ≡ counts_in v N k) where
    same_line : line_of v p ≡ name_line k s (name_at (word v) (8 * p))
    same_line =
        let n = name_at (word v) (8 * p) in
        let z : s ≡ counts_in v (word v 1) (word v (8 * p + 1)) = f ∙ ap (λ i. counts_in v i k) q ∙ ap (counts_in v (word v 1)) e in
        ap (λ i. name_line (word v (8 * p + 1)) i n) (sym z) ∙ ap (λ i. name_line i s n) (sym e)

    pub file_room : (at : ℕ) → at + length (line_of v p) ≤ 11264
        → at + 3 + length (decimal k) + length (decimal s) + length (name_at (word v) (8 * p)) ≤ 11264
    file_room at h = line_room at k s (name_at (word v) (8 * p)) (rw same_line at h)

    pub file_put : (l : List ℕ) (at r : ℕ) (n : List ℕ) → Emitted l at (name_line k s (name_at (word v) (8 * p))) r n
        → Emitted l at (line_of v p) r n
    file_put l at r n h = rw same_line h

-- The loop: the places are ps, and those from the i-th on are left; all lines are ls, put into the text l from index `at` on, and the text is
-- x by now.

module _ (v ps : List ℕ) (i : ℕ) where
  module _ (p : ℕ) (h : i < length ps) (e : p ≡ get_or ps i 0) where
    pub here_ok : all (place_ok (word v) (length v)) ps ≡ true → place_ok (word v) (length v) p ≡ true
    here_ok a = rw e (all_has (place_ok (word v) (length v)) (get_or ps i 0) ps a (has_get_or ps i h))

    from : standing (word v) (drop i ps) ≡ (name_at (word v) (8 * p), word v (8 * p + 1)) ∷ standing (word v) (drop (i + 1) ps)
    unfolding standing
    from = let s : drop i ps ≡ p ∷ drop (i + 1) ps = rw (e, add-one) (drop-cons ps i 0 h) in ap (standing (word v)) s

    module _ (a : GoodInodes (view (word v)) (word v 1) (standing (word v) (drop i ps))) where
      both : GoodInode (view (word v)) (word v 1) (word v (8 * p + 1))
          × GoodInodes (view (word v)) (word v 1) (standing (word v) (drop (i + 1) ps))
      unfolding GoodInodes
      both = rw from at a

      pub here_inode : GoodInode (view (word v)) (word v 1) (word v (8 * p + 1))
      here_inode = both.0

      pub next_inodes : GoodInodes (view (word v)) (word v 1) (standing (word v) (drop (i + 1) ps))
      next_inodes = both.1

    module _ (l : List ℕ) (at : ℕ) (ls x : List ℕ) (b : ℕ) (q : Rest l at ls x b (lines_of v (standing (word v) (drop i ps)))) where
      left : Rest l at ls x b (line_of v p ++ lines_of v (standing (word v) (drop (i + 1) ps)))
      unfolding name_lines
      left = rw (from, name_lines) at q

      pub here_room : at + length ls ≤ 11264 → b + length (line_of v p) ≤ 11264
      here_room r =
          let d = left.end in let f = length-append (line_of v p) (lines_of v (standing (word v) (drop (i + 1) ps))) in omega arith

      pub next_lines : (y : List ℕ) (d : ℕ) → Emitted x b (line_of v p) d y
          → Rest l at ls y d (lines_of v (standing (word v) (drop (i + 1) ps)))
      next_lines y d w = rest_next (line_of v p) _ left w

  pub lines_end : (l : List ℕ) (at : ℕ) (ls x : List ℕ) (b : ℕ) → length ps ≤ i
      → Rest l at ls x b (lines_of v (standing (word v) (drop i ps)))
      → Emitted l at ls b x
  unfolding standing name_lines
  lines_end l at ls x b h q = rest_none (rw (drop_of_length-le ps {i = i} h) at q)
