-- What reading a folder's names found, n names with the table t, as far as the judge asks for it.
use Rattle.model.proofs.Prelude.{ℕ, ◌≤◌, ◌≡◌, refl, sym, ◌∙◌, true, ◌&&◌, List, arith, leb, length, lt-ltb, ltb-true}
use Rattle.model.specs.Lists.{all}
use Rattle.model.specs.Words.{Mem}
use Rattle.model.specs.Layout.{is_directory, most_names}
use Rattle.model.specs.Log.{entries}
use Rattle.model.specs.State.{inodes, names_of}
use Rattle.model.specs.Accept.{log_ok}
use Rattle.model.proofs.Tests.{and_left, and_right, ands}
use Rattle.model.proofs.Lists.{all_imp}
use Rattle.model.proofs.Frame.Placed.{named}
use Rattle.inode_log.specs.Ready.{Ready}
use Rattle.directory.specs.Places.{Filled}
use Rattle.directory.specs.Folds.{Folds}
use Rattle.std.specs.Prelude.{Some}
use Rattle.names.specs.Inodes.{Readable, below, inodes_from}
use Rattle.names.proofs.Inodes.{leads_below, inodes_of}

pub readable : (m : Mem) (L P N : ℕ) → Ready m L P N → Readable m L N
readable m L P N r =
    let a = r.bytes in
    let b = r.room in
    let c = r.eight in
    record { journal = r.journal; dequeue = r.dequeue; enqueue = r.enqueue; bytes = omega arith; inodes = r.inodes }

module _ (m u : Mem) (L P N d n : ℕ) (t : List ℕ)
    (f : Folds m L (log_ok u P N d && leb (length (names_of u P N d)) most_names) (names_of u P N d) (Some n) t) where
  pub log_good : log_ok u P N d ≡ true
  log_good = and_left (log_ok u P N d) (leb (length (names_of u P N d)) most_names) (sym f.good)

  pub names_few : leb (length (names_of u P N d)) most_names ≡ true
  names_few = and_right (log_ok u P N d) (leb (length (names_of u P N d)) most_names) (sym f.good)

  pub good_filled : Filled m L n t
  good_filled = f.filled n refl

  -- where the names lead
  pub names_lead : inodes_from m t 0 n ≡ inodes (names_of u P N d)
  names_lead = rw (← (f.names n refl)) (sym (inodes_of m L n t good_filled))

  -- names lead to inodes of the table
  module _ (dir : is_directory u d ≡ true) where
    pub names_below : all (below N) (inodes_from m t 0 n) ≡ true
    unfolding log_ok names_of
    names_below =
        let parts = rw dir at log_good in
        sym (leads_below m L n t good_filled N) ∙ rw (f.names n refl) (named N (entries u P N d) (search ands))

    pub names_small : N ≤ 256 → all (below 256) (inodes_from m t 0 n) ≡ true
    unfolding below
    names_small w =
        all_imp (below N) (below 256) (inodes_from m t 0 n)
        (λ k h. let l = ltb-true k N h in lt-ltb k 256 (omega arith)) names_below
