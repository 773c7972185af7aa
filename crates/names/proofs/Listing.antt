-- The names of one folder of an accepted volume, as the table of places has them.
use Rattle.model.proofs.Prelude.{ℕ, ◌≤◌, ◌<◌, ◌≡◌, refl, sym, ◌∙◌, Bool, true, false, not, ◌&&◌, List, arith, leb, ltb, length, not-true, not-false, ltb-true}
use Rattle.model.specs.Lists.{all, is_some}
use Rattle.model.specs.Words.{Mem, word}
use Rattle.model.specs.Layout.{is_directory, most_names}
use Rattle.model.specs.Journal.{view, journal_ok}
use Rattle.model.specs.Log.{log_pages}
use Rattle.model.specs.State.{names_of}
use Rattle.model.specs.Accept.{is_valid, folders_of, log_ok, folder_ok, view_ok, accepted}
use Rattle.model.specs.Public.{is_volume}
use Rattle.model.proofs.Tests.{and_left, and_right, ands}
use Rattle.model.proofs.Crash.Journal.{journal_parts}
use Rattle.model.proofs.Crash.Landing.{Sizes, sizes_parts, Volume, volume_parts}
use Rattle.model.proofs.Frame.View.{view_fine, log_ok_lem}
use Rattle.inode_log.specs.Ready.{Ready}
use Rattle.directory.specs.Places.{standing}
use Rattle.directory.specs.Folds.{Folds}
use Rattle.std.specs.Prelude.{Option, Some, IsSome}
use Rattle.names.specs.Inodes.{Readable, folder_in}
use Rattle.names.specs.Listed.{Good, Turned}
use Rattle.names.specs.declared.FolderNames.{FolderNames}
use Rattle.names.proofs.Judged.{readable}

-- a volume has page 0
pub volume_long : (v : List ℕ) → is_volume (length v) (word v) ≡ true → 512 ≤ length v
volume_long v h =
    let p = volume_parts (length v) (word v) h in
    let s = sizes_parts (word v 0) (word v 1) p.sizes in omega arith

-- Below, v is a volume, and the code read its sizes P and N.
module _ (v : List ℕ) (P N : ℕ) (is_volume_lem : is_volume (length v) (word v) ≡ true) (pages : P ≡ word v 0) (inodes : N ≡ word v 1) where
  parts : Volume (length v) (word v)
  parts = volume_parts (length v) (word v) is_volume_lem

  pub volume_sizes : Sizes P N
  volume_sizes = rw (pages, inodes) (sizes_parts (word v 0) (word v 1) parts.sizes)

  pub few_inodes : N ≤ 256
  few_inodes = volume_sizes.most_inodes

  pub some_inodes : 0 < N
  some_inodes = let s = volume_sizes in omega arith

  pub journal_ready : journal_ok (word v) N ≡ true → Ready (word v) (length v) P N
  journal_ready good =
      let q = journal_parts (word v) N good in
      let b = parts.bytes in
      let s = volume_sizes in
      record {
        journal = good;
        dequeue = q.dequeue;
        enqueue = q.enqueue;
        bytes = rw pages (omega arith);
        pages = s.most_pages;
        inodes = s.most_inodes;
        eight = s.whole;
        room = s.room;
      }

-- An accepted volume.
module _ (v : List ℕ) (g : Good v) where
  pub good_long : 16 ≤ length v
  good_long = let l = volume_long v g.volume in omega arith

  pub good_journal : journal_ok (word v) (word v 1) ≡ true
  unfolding accepted
  good_journal = and_left _ _ g.good

  pub good_view : view_ok (view (word v)) (word v 0) (word v 1) ≡ true
  unfolding accepted
  good_view = and_right (journal_ok (word v) (word v 1)) (view_ok (view (word v)) (word v 0) (word v 1)) g.good

  pub good_ready : (P N : ℕ) → P ≡ word v 0 → N ≡ word v 1 → Ready (word v) (length v) P N
  good_ready P N p q = journal_ready v P N g.volume p q (rw q good_journal)

  pub good_readable : (N : ℕ) → N ≡ word v 1 → Readable (word v) (length v) N
  good_readable N q = readable (word v) (length v) (word v 0) N (good_ready (word v 0) N refl q)

  pub good_reads : Readable (word v) (length v) (word v 1)
  good_reads = good_readable (word v 1) refl

  module _ (P N : ℕ) (p : P ≡ word v 0) (q : N ≡ word v 1) where
    -- Inode d; f is what `is_folder` answered.
    module _ (d : ℕ) (f : Bool) (e : f ≡ folder_in (view (word v)) N d) where
      pub no_names : (t : List ℕ) → not f ≡ true → length t ≡ 224 → Turned v d (record { folder = d; count = 0 }) t
      unfolding folder_in folders_of standing all
      no_names t h l =
          let z = sym e ∙ not-true f h in
          record { folder = refl; lists = record { filled = record { few = omega arith; long = l; oks = refl }; names = rw (← q, z) } }

      module _ (h : not f ≡ false) where
        abbrev u : Mem
        u = view (word v)

        is_folder_lem : ltb d N && (is_directory u d && is_valid u d) ≡ true
        unfolding folder_in
        is_folder_lem = sym e ∙ not-false f h

        pub folder_in_lem : d < N
        folder_in_lem = let i = is_folder_lem in ltb-true d N (search ands)

        pub folder_type : is_directory (view (word v)) d ≡ true
        folder_type = let i = is_folder_lem in search ands

        folder_log : log_ok u P N d ≡ true
        folder_log =
            let i = is_folder_lem in
            let w : is_valid u d ≡ true = search ands in
            log_ok_lem u P N (rw (p, q) good_view) d folder_in_lem w

        pub folder_walk : is_some (log_pages (view (word v)) P N d) ≡ true
        unfolding log_ok
        folder_walk = let i = folder_log in search ands

        folder_names : folders_of u P N d ≡ names_of u P N d
        unfolding folders_of
        folder_names = rw is_folder_lem

        few_names : leb (length (names_of u P N d)) most_names ≡ true
        unfolding folder_ok
        few_names = let i = rw folder_names at ((view_fine u P N (rw (p, q) good_view)).folders d folder_in_lem) in search ands

        -- x is what `names_of` answered, and t the table that it left
        pub some_names : (x : Option ℕ) (t : List ℕ)
            → Folds (word v) (length v) (log_ok (view (word v)) P N d && leb (length (names_of (view (word v)) P N d)) most_names)
            (names_of (view (word v)) P N d) x t
            → IsSome x
        some_names x t a = a.good ∙ rw (folder_log, few_names)

        pub the_names : (x : Option ℕ) (n : ℕ) (t : List ℕ)
            → Folds (word v) (length v) (log_ok (view (word v)) P N d && leb (length (names_of (view (word v)) P N d)) most_names)
            (names_of (view (word v)) P N d) x t
            → x ≡ Some n → Turned v d (record { folder = d; count = n }) t
        the_names x n t a e =
            record { folder = refl; lists = record { filled = a.filled n e; names = a.names n e ∙ sym folder_names ∙ rw (p, q) } }

pub turned_long : (v : List ℕ) (d : ℕ) (r : FolderNames) (t : List ℕ) → Turned v d r t → length t ≡ 224
turned_long v d r t h = h.lists.filled.long
