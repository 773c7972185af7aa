-- An accepted volume, judged in the code's order: the journal, every inode and every page, every folder, then the tree.
use Rattle.model.proofs.Prelude.{ℕ, ◌≤◌, ◌<◌, ◌≡◌, refl, sym, ◌∙◌, Bool, true, false, not, List, arith, length, not-true, not-false}
use Rattle.std.specs.Prelude.{Option, Some, None}
use Rattle.std.specs.Bool.{then_some}
use Rattle.std.proofs.lemmas.Option.{none-some, same_Some}
use Rattle.model.specs.Lists.{all, all_below}
use Rattle.model.specs.Words.{Mem, word}
use Rattle.model.specs.Layout.{root}
use Rattle.model.specs.Journal.{view, journal_ok}
use Rattle.model.specs.Accept.{is_valid, is_folder, folders_of, log_ok, folder_ok, named_ok, serves_once, inode_ok, view_ok, accepted}
use Rattle.model.specs.Public.{is_volume}
use Rattle.model.proofs.Tests.{by_bool, no, clash, not_true_false, ands}
use Rattle.model.proofs.Lists.{all_below_at, all_below_by}
use Rattle.inode_log.specs.Ready.{Ready}
use Rattle.tree.specs.Table.{Unsettled, SettlesAll}
use Rattle.names.proofs.Listing.{volume_sizes, few_inodes, some_inodes, journal_ready}
use Rattle.inodes.specs.Judged.{shape_ok, Served, Inspected}
use Rattle.inodes.proofs.Once.{shape_ok_lem, all_judged, served}
use Rattle.survey.specs.Folders.{Walks, Shaped, FoldersJudged}
use Rattle.survey.specs.Surveyed.{Surveyed}
use Rattle.survey.proofs.Noted.{no_folder, noted_start}
use Rattle.survey.proofs.Settled.{unsettled, settled_not, settled_named, settled_table}
use Rattle.survey.proofs.Folders.{walk_long, root_folder}

-- the answer that the volume is not accepted
refused : (v t b c : List ℕ) → accepted (word v) (word v 0) (word v 1) ≡ false → Surveyed v None t b c
refused v t b c a =
    record {
      answer = sym a;
      lists = λ n e. absurd (none-some n e);
      served = λ n e. absurd (none-some n e);
      settled = λ n e. absurd (none-some n e);
    }

-- v is a volume, and the code read its sizes P and N; j is what `journal_ok` answered
module _ (v : List ℕ) (P N : ℕ) (is_volume_lem : is_volume (length v) (word v) ≡ true) (pages : P ≡ word v 0) (inodes : N ≡ word v 1) where
  pub shapes_few : N ≤ 256
  shapes_few = few_inodes v P N is_volume_lem pages inodes

  pub shapes_some : 0 < N
  shapes_some = some_inodes v P N is_volume_lem pages inodes

  module _ (j : Bool) (g : j ≡ journal_ok (word v) N) where
    pub no_journal : (b c : List ℕ) → not j ≡ true → Shaped v false b c
    unfolding accepted
    no_journal b c h = record { walks = λ e. no e; judged = λ e. no e; start = λ e. no e; bad = λ e. rw (← inodes, sym g ∙ not-true j h) }

    module _ (asked : not j ≡ false) where
      good_journal : journal_ok (word v) N ≡ true
      good_journal = sym g ∙ not-false j asked

      pub volume_ready : Ready (word v) (length v) P N
      volume_ready = journal_ready v P N is_volume_lem pages inodes good_journal

      -- what `judge_inodes` answered, r, with the marks b and the tree c
      pub shaped : (r : Bool) (b c : List ℕ) → Inspected (view (word v)) P N r b c → Shaped v r b c
      unfolding accepted view_ok
      shaped r b c x =
          let u = view (word v) in
          let i : Inspected u (word v 0) (word v 1) r b c = rw (pages, inodes) at x in
          let low = (volume_sizes v (word v 0) (word v 1) is_volume_lem refl refl).most_pages in
          let few = few_inodes v (word v 0) (word v 1) is_volume_lem refl refl in
          let pos = some_inodes v (word v 0) (word v 1) is_volume_lem refl refl in
          record {
            walks = λ y.
                let e = sym i.judged.answer ∙ y in
                record { volume = is_volume_lem; journal = rw inodes at good_journal; inodes = search ands };
            judged = λ y. rw y at i.judged;
            start = λ y. noted_start u (word v 0) (word v 1) few pos c (i.states y);
            bad = λ y. not_true_false (accepted (word v) (word v 0) (word v 1))
                (λ ok.
                let a : all_below (word v 1) (inode_ok u (word v 0) (word v 1)) ≡ true = search ands in
                let o : all_below (word v 0) (serves_once u (word v 0) (word v 1)) ≡ true = search ands in
                clash r (all_judged u (word v 0) (word v 1) low a r b i.judged o) y);
          }

-- What `judge_shapes` answered of v, r, with the marks b and the tree c.
module _ (v : List ℕ) (r : Bool) (b c : List ℕ) (i : Shaped v r b c) where
  module _ (h : not r ≡ false) where
    pub walks : Walks v
    walks = i.walks (not-false r h)

    pub walks_long : 16 ≤ length v
    walks_long = walk_long v walks

    -- What `judge_folders` answered, x, with the table t and the tree d; the code read the inode count N.
    module _ (x : Option ℕ) (t d : List ℕ) (f : FoldersJudged v x t d) where
      abbrev u : Mem
      u = view (word v)

      low : word v 0 ≤ 4096
      low = (volume_sizes v (word v 0) (word v 1) walks.volume refl refl).most_pages

      few : word v 1 ≤ 256
      few = few_inodes v (word v 0) (word v 1) walks.volume refl refl

      pos : 0 < word v 1
      pos = some_inodes v (word v 0) (word v 1) walks.volume refl refl

      no_view : (k : List ℕ) → view_ok u (word v 0) (word v 1) ≡ false → Surveyed v None t b k
      unfolding accepted
      no_view k z = refused v t b k (rw (walks.journal, z))

      pub no_folders : (y : Option ℕ) → x ≡ None → y ≡ None → Surveyed v y t b d
      no_folders y n e = rw e (no_view d (f.bad n))

      module _ (N : ℕ) (inodes : N ≡ word v 1) (m : ℕ) (n : x ≡ Some m) where
        logs : (k : ℕ) → k < word v 1 → is_folder u k ≡ true → log_ok u (word v 0) (word v 1) k ≡ true
        logs k l z = (f.good m n k l (omega arith) z).log

        pub tree_asks : Unsettled N d
        tree_asks = rw inodes (unsettled u (word v 0) (word v 1) few pos d (f.noted m n) logs)

        pub tree_few : N ≤ 256
        tree_few = rw inodes few

        pub tree_some : 0 < N
        tree_some = rw inodes pos

        -- What `settle_all` answered, a, with the tree k.
        module _ (a : Bool) (k : List ℕ) (s : SettlesAll N d a k) where
          settles : SettlesAll (word v 1) d a k
          settles = rw inodes at s

          all_good : all_below (word v 1) (inode_ok u (word v 0) (word v 1)) ≡ true
          all_good =
              all_below_by (word v 1) (inode_ok u (word v 0) (word v 1))
              (λ e l. shape_ok_lem u (word v 0) (word v 1) e (all_below_at (word v 1) e (shape_ok u (word v 0) (word v 1)) walks.inodes l)
              (λ z w. logs e l (rw (w, z))))

          all_short : all_below (word v 1) (λ e. folder_ok u (folders_of u (word v 0) (word v 1) e)) ≡ true
          unfolding folder_ok all
          all_short =
              all_below_by (word v 1) (λ e. folder_ok u (folders_of u (word v 0) (word v 1) e))
              (λ e l. by_bool (is_folder u e) (λ z. (f.good m n e l (omega arith) z).names)
              (λ z. rw (no_folder u (word v 0) (word v 1) few pos e z)))

          all_served : Served u (word v 0) (word v 1) true b
          all_served = served u (word v 0) (word v 1) low all_good b (i.judged (not-false r h))

          all_once : all_below (word v 0) (serves_once u (word v 0) (word v 1)) ≡ true
          all_once = let e = sym all_served.answer in search ands

          accepted_after : a ≡ true → view_ok u (word v 0) (word v 1) ≡ true
          unfolding view_ok
          accepted_after y =
              rw (
                all_good,
                all_short,
                all_once,
                all_below_by (word v 1) (named_ok u (word v 1) (folders_of u (word v 0) (word v 1)))
                    (settled_named u (word v 0) (word v 1) few pos d (f.noted m n) logs a k settles y),
              )

          pub found : (y : Option ℕ) → y ≡ then_some a m → Surveyed v y t b k
          unfolding accepted
          found y e =
              by_bool a
              (λ g.
              let w = root_folder v walks in
              let z : is_valid u root ≡ true = search ands in
              rw (e, g) (record {
                answer = sym (rw (walks.journal, accepted_after g));
                lists = λ j q. rw (← (same_Some m j q)) (f.lists m n);
                served = λ _ _. all_served;
                settled = λ _ _. settled_table u (word v 0) (word v 1) few pos d (f.noted m n) logs a k settles g z;
              }))
              (λ g. rw (e, g) (no_view k (settled_not u (word v 0) (word v 1) few pos d (f.noted m n) logs a k settles g)))
