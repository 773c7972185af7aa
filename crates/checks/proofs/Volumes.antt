-- What the code may read of an accepted volume, and what a table that was turned to a folder tells of its names.
use Rattle.model.proofs.Prelude.{ℕ, ◌<◌, ◌≡◌, refl, sym, ◌∙◌, Bool, true, false, not, List, arith, length, take, ltb-true, not-false, eq-eqb, ne_eqb}
use Rattle.std.specs.Prelude.{Option, unwrap_or}
use Rattle.model.specs.Words.{word}
use Rattle.model.specs.Journal.{view}
use Rattle.model.specs.State.{inode_of}
use Rattle.model.specs.Calls.{leads_to}
use Rattle.model.proofs.Tests.{and_left, by_eq}
use Rattle.directory.specs.Places.{standing, Filled}
use Rattle.directory.proofs.Table.{standing_length}
use Rattle.names.specs.Inodes.{below, valid_in}
use Rattle.names.specs.Listed.{names_in, Good, Lists, Turned}
use Rattle.names.specs.declared.FolderNames.{FolderNames}
use Rattle.names.proofs.Listing.{good_reads}
use Rattle.lookup.specs.Found.{found_inode}
use Rattle.checks.specs.Names.{leads_in}

pub good_low : (v : List ℕ) → Good v → (k : ℕ) → k < word v 1 → k < 256
good_low v g k l = let r = (good_reads v g).inodes in omega arith

pub lists_long : (v t : List ℕ) (d n : ℕ) → Lists v d n t → length t ≡ 224
lists_long v t d n l = l.filled.long

-- q is what `is_valid` answered of inode d
pub valid_below : (v : List ℕ) (N d : ℕ) (q : Bool) → N ≡ word v 1 → q ≡ valid_in (view (word v)) N d → not q ≡ false → d < word v 1
unfolding valid_in below
valid_below v N d q e a h =
    let k : valid_in (view (word v)) N d ≡ true = sym a ∙ not-false q h in
    rw (← e) (ltb-true d N (and_left _ _ k))

-- A table that was turned to folder d.
module _ (v : List ℕ) (d : ℕ) (r : FolderNames) (t : List ℕ) (w : Turned v d r t) where
  pub turned_filled : Filled (word v) (length v) r.count t
  turned_filled = w.lists.filled

  pub turned_self : Turned v r.folder r t
  turned_self = record { folder = refl; lists = of_folder_lem r.folder w.folder }
    where
      of_folder_lem : (e : ℕ) → e ≡ d → Lists v e r.count t
      of_folder_lem e q = rw q w.lists

  pub turned_count : length (names_in v d) ≡ r.count
  turned_count = rw (← w.lists.names) (standing_length (word v) (length v) t r.count turned_filled)

  pub count_turned : r.count ≡ length (names_in v d)
  count_turned = sym turned_count

  pub turned_leads : (n : List ℕ) (k : ℕ) → k ≡ inode_of (standing (word v) (take r.count t)) n → k ≡ leads_in v d n
  unfolding leads_to
  turned_leads n k e = rw (← w.lists.names) e

  -- m is what `find_name` answered, and k what `unwrap_or` made of it
  pub turned_found : (n : List ℕ) (m : Option ℕ) (k : ℕ) → m ≡ found_inode (standing (word v) (take r.count t)) n → k ≡ unwrap_or m 0
      → k ≡ leads_in v d n
  turned_found n m k e f =
      let L = inode_of (standing (word v) (take r.count t)) n in
      turned_leads n k (by_eq L 0 (λ h. rw (f, e, eq-eqb L 0 h) (sym h)) (λ h. rw (f, e, ne_eqb L 0 h)))
