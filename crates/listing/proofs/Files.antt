-- The names of inode 0 of an accepted volume v: they are few and good, and each leads to a valid inode.
use Rattle.model.proofs.Prelude.{ℕ, ◌≤◌, ◌<◌, ◌≡◌, refl, true, List, [], ◌∷◌, length, lt-ltb}
use Rattle.model.specs.Lists.{has}
use Rattle.model.specs.Words.{Mem, word}
use Rattle.model.specs.Layout.{root}
use Rattle.model.specs.Journal.{view}
use Rattle.model.specs.State.{Names, names_of, inodes}
use Rattle.model.specs.Accept.{is_valid, folders_of}
use Rattle.model.proofs.Lists.{has_head, has_tail}
use Rattle.model.proofs.Frame.View.{log_ok_lem, root_valid}
use Rattle.model.proofs.State.FoldersOk.{folders_fine}
use Rattle.model.proofs.State.NameEntries.{GoodNames, names_good}
use Rattle.names.specs.Listed.{names_in, Good}
use Rattle.names.proofs.Listing.{good_view, some_inodes}
use Rattle.totals.proofs.Beneath.{child}
use Rattle.listing.specs.Lines.{GoodInode, GoodInodes}

inodes_of : (u : Mem) (N : ℕ) (ns : Names) → ((k : ℕ) → has k (inodes ns) ≡ true → GoodInode u N k) → GoodInodes u N ns
unfolding GoodInodes
inodes_of u N [] h = tt
inodes_of u N (p ∷ ps) h =
    (h p.1 (has_head p.1 (inodes ps)), inodes_of u N ps (λ k e. h k (has_tail k p.1 (inodes ps) e)))

module _ (v : List ℕ) (g : Good v) where
  abbrev u : Mem
  u = view (word v)

  some : 0 < word v 1
  some = some_inodes v (word v 0) (word v 1) g.volume refl refl

  root_good : is_valid u root ≡ true
  root_good = root_valid u (word v 0) (word v 1) (good_view v g) some

  root_names : names_of u (word v 0) (word v 1) root ≡ names_in v root
  unfolding folders_of
  root_names = rw (lt-ltb 0 (word v 1) some, root_good)

  pub good_names : GoodNames (word v 1) (names_in v root)
  good_names =
      rw (← root_names) (names_good u (word v 0) (word v 1) root refl (log_ok_lem u (word v 0) (word v 1) (good_view v g) root some root_good))

  pub few_names : length (names_in v root) ≤ 224
  few_names = (folders_fine u (word v 0) (word v 1) (good_view v g)).short root

  pub names_inodes : GoodInodes (view (word v)) (word v 1) (names_in v root)
  names_inodes = inodes_of u (word v 1) (names_in v root) (λ k h. let c = child v g root k h in record { below = c.1; valid = c.2 })
