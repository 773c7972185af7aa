-- Folders after any history, and a move: the volume that is left is accepted, so that each folder has its place; and a move leaves the map
-- before it or the map after it, and in each of them one of the two names leads to the inode.
use Rattle.model.proofs.Prelude.{◌≡◌, refl, sym, ◌∙◌, ◌⊎◌, inl, inr, ⊎_elim, ℕ, true, not, List, [], ◌∷◌, Option, none, arith, eqb, eqb-true, eqb-false, eq-eqb, ne_eqb, not-true}
use Rattle.model.specs.Lists.{or_else}
use Rattle.model.specs.Words.{Mem, word}
use Rattle.model.specs.Layout.{root, is_directory}
use Rattle.model.specs.Journal.{view}
use Rattle.model.specs.State.{Names, inodes, inode_of}
use Rattle.model.specs.Tree.{Folders, name_count, parent_of}
use Rattle.model.specs.Accept.{is_valid, folders_of}
use Rattle.model.specs.FileMap.{FileMap, map_of, with_file, with_names, names_in, drop_unnamed, named, unnamed, map_after, rename}
use Rattle.model.specs.Public.{is_accepted}
use Rattle.model.specs.Claim.{Bytes, Event, History, HistoryBytes, answer_to, volume_after, map_in}
use Rattle.model.specs.Promises.{volume_left, folder_in, HasPlace, FoldersNamed, leads_in, MoveAtomic}
use Rattle.model.proofs.Tests.{by_bool, by_eq}
use Rattle.model.proofs.Lists.{count_has}
use Rattle.model.proofs.Tree.{reaches_above, no_loop, parent_is}
use Rattle.model.proofs.State.Names.{inode_of_gone, inode_of_with, inode_of_put}
use Rattle.model.proofs.State.Folders.{Is, parent_folder, leads_to_lem}
use Rattle.model.proofs.State.Maps.{names_before, is_shown}
use Rattle.model.proofs.Reading.{some_inode, fine, folder_is}
use Rattle.model.proofs.Corollaries.{step, bytes_after, either}

-- Each folder has its place.

module _ (v : List ℕ) (a : is_accepted v ≡ true) where
  abbrev u : Mem
  u = view (word v)

  abbrev N : ℕ
  N = word v 1

  abbrev F : Folders
  F = folders_of u (word v 0) N

  names_are_lem : names_in (map_in v) ≡ F
  unfolding map_in
  names_are_lem = names_before u u (word v 0) N

  -- a valid folder is one of the map
  in_map : (k : ℕ) → Is N (is_valid u) (is_directory u) k → folder_in (map_in v) k ≡ true
  unfolding map_in map_of
  in_map k i = rw (is_shown u (word v 0) N k i.0 i.1 i.2)

  has_place : (k : ℕ) → folder_in (map_in v) k ≡ true → (k ≡ root → ⊥) → HasPlace N (map_in v) k
  has_place k h z =
      let i = folder_is v a k h in
      let f = fine v a in
      record {
        one_name = rw names_are_lem (f.once k i.0 (omega arith) i.1 i.2);
        from_root = rw names_are_lem (reaches_above N F (some_inode v a) k i.0 (f.reached k i.0 i.1 i.2));
        parent_folder = rw names_are_lem (in_map (parent_of N F k) (parent_folder N (is_valid u) (is_directory u) F f (some_inode v a) k i z));
      }

  -- no name of a folder leads to that folder
  not_itself : (e : ℕ) (b : List ℕ) → (inode_of (names_in (map_in v) e) b ≡ 0 → ⊥) → inode_of (names_in (map_in v) e) b ≡ e → ⊥
  not_itself e b = rw names_are_lem (λ n q.
      let f = fine v a in
      let h = leads_to_lem N (is_valid u) (is_directory u) F f e b n in
      let i = f.folder e (inode_of (F e) b) h in
      let o = f.once e i.0 (omega (arith, n, q)) i.1 i.2 in
      let p = parent_is N F e e (omega arith) i.0 (count_has e (inodes (F e)) (rw q at h)) in
      n (q ∙ no_loop N F (f.reached e i.0 i.1 i.2) p))

-- what a history leaves is accepted, with as many inodes
record Left (v w : List ℕ) : Type 0 where
  ok : is_accepted w ≡ true
  same : word w 1 ≡ word v 1

left : (es : History) (v : List ℕ) → Bytes v → is_accepted v ≡ true → HistoryBytes es → Left v (volume_left v es)
left [] v b a h = record { ok = a; same = refl }
left (e ∷ es) v b a h =
    let s = step v b a e h.0 in
    let r = left es (volume_after 8 v e) (bytes_after v b e) s.accepted_after h.1 in
    record { ok = r.ok; same = r.same ∙ s.same_inodes }

-- "Every valid folder but inode 0 has exactly one name and is reached from inode 0"
pub folders_named : FoldersNamed
folders_named v b a es h k f z =
    let l = left es v b a h in rw (← l.same) (has_place (volume_left v es) l.ok k f z)

-- A move.

-- the names of a folder after a change of another, and after one of its own
names_else : (M : FileMap) (d : ℕ) (o : Option Names) (x : ℕ) → (x ≡ d → ⊥) → names_in (with_names d o M) x ≡ names_in M x
unfolding names_in with_names
names_else M d o x n = rw (ne_eqb x d n)

names_there : (M : FileMap) (d : ℕ) (o : Option Names) → names_in (with_names d o M) d ≡ or_else o []
unfolding names_in with_names
names_there M d o = rw (eq-eqb d d refl)

-- an inode that goes takes its own names with it, and no others
dropped_names : (N j : ℕ) (M : FileMap) (x : ℕ)
    → (names_in (drop_unnamed N j M) x ≡ names_in M x) ⊎ ((j ≡ 0 → ⊥) × (x ≡ j) × (names_in (drop_unnamed N j M) x ≡ []))
unfolding drop_unnamed names_in with_file
dropped_names N j M x =
    by_eq j 0 (λ z. inl (rw (eq-eqb j 0 z)))
    (λ z. by_bool (eqb (name_count N (names_in M) j) 0)
    (λ t. by_eq x j (λ q. inr (z, q, rw (ne_eqb j 0 z, t, q) (names_there M j none)))
    (λ q. inl (rw (ne_eqb j 0 z, t) (names_else M j none x q))))
    (λ t. inl (rw (ne_eqb j 0 z, t))))

-- Name a of folder d leads to inode i, and name b of folder e does not.
module _ (N : ℕ) (M : FileMap) (d : ℕ) (a : List ℕ) (e : ℕ) (b : List ℕ) (i : ℕ) (is : inode_of (names_in M d) a ≡ i)
    (other : inode_of (names_in M e) b ≡ i → ⊥) where
  taken : inode_of (names_in (unnamed d a M) d) a ≡ 0
  unfolding unnamed
  taken = rw names_there (inode_of_gone (names_in M d) a)

  -- where the old name was it is gone
  moved_from : inode_of (names_in (named e b i (unnamed d a M)) d) a ≡ 0
  unfolding named
  moved_from =
      by_eq d e
      (λ q. rw (q, names_there) (inode_of_with _ b i a (λ p. other (rw (p, sym q) is)) ∙ (rw q at taken)))
      (λ q. rw (names_else _ e _ d q) taken)

  -- and the new one leads to i
  moved_to : inode_of (names_in (named e b i (unnamed d a M)) e) b ≡ i
  unfolding named
  moved_to = rw names_there (inode_of_put _ b i)

  -- what name b of folder e led to
  abbrev j : ℕ
  j = inode_of (names_in M e) b

  abbrev M' : FileMap
  M' = map_after N (rename d a e b) M

  after : M' ≡ drop_unnamed N j (named e b i (unnamed d a M))
  unfolding map_after
  after = rw (is, ne_eqb i j (λ q. other (sym q)))

  one_before : leads_in M d a i ≡ not (leads_in M e b i)
  one_before = rw (eq-eqb _ i is, ne_eqb j i other)

  module _ (some : i ≡ 0 → ⊥) (apart : (j ≡ 0 → ⊥) → j ≡ e → ⊥) where
    gone_from : inode_of (names_in M' d) a ≡ 0
    unfolding inode_of
    gone_from = rw after (⊎_elim (λ q. rw q moved_from) (λ q. rw q.2) (dropped_names N j (named e b i (unnamed d a M)) d))

    come_to : inode_of (names_in M' e) b ≡ i
    come_to =
        rw after (⊎_elim (λ q. rw q moved_to) (λ q. absurd (apart q.0 (sym q.1))) (dropped_names N j (named e b i (unnamed d a M)) e))

    one_after : leads_in M' d a i ≡ not (leads_in M' e b i)
    one_after = rw (gone_from, come_to, eq-eqb i i refl, ne_eqb 0 i (λ q. some (sym q)))

pub move_atomic : MoveAtomic
move_atomic v bytes ok d a e b names l p i stands is other =
    let M = map_in v in
    let c = rename d a e b in
    let s = eqb-true (inode_of (names_in M d) a) i is in
    let o = eqb-false (inode_of (names_in M e) b) i other in
    let x : Event = record { call = c; list = l; power = p } in
    either (λ M'. leads_in M' d a i ≡ not (leads_in M' e b i)) v (volume_after 8 v x) c p (answer_to v x) (step v bytes ok x names).demanded
    (one_before (word v 1) M d a e b i s o)
    (one_after (word v 1) M d a e b i s o (λ z. eqb-false _ 0 (not-true _ stands) (s ∙ z)) (not_itself v ok e b))
