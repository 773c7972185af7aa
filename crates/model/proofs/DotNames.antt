-- No call gives a file or a folder the name "." or "..": a call adds no name but its new one, which it has judged. By induction over the
-- events.
use Rattle.model.proofs.Prelude.{◌≡◌, refl, sym, ◌∙◌, ℕ, ◌*◌, true, ◌&&◌, ◌||◌, not, List, [], ◌∷◌, Option, none, length, eqb, eqb-true, eq-eqb, ne_eqb, not-true, not-false}
use Rattle.model.specs.Lists.{same_list, or_else}
use Rattle.model.specs.Words.{Mem, word}
use Rattle.model.specs.Layout.{root}
use Rattle.model.specs.Stores.{store_list}
use Rattle.model.specs.Entry.{name_ok, is_dot_name, new_name_ok}
use Rattle.model.specs.State.{Names, without, inode_of}
use Rattle.model.specs.Tree.{name_count}
use Rattle.model.specs.FileMap.{FileMap, with_file, with_names, names_in, drop_unnamed, named, unnamed, map_after, Call, create, create_folder, link, unlink, rename}
use Rattle.model.specs.FileMap.{write, set_size, clean, recover}
use Rattle.model.specs.Answer.{Answer, done}
use Rattle.model.specs.Calls.{create_action, link_action, rename_action, action, action_checks, checks, groups}
use Rattle.model.specs.Public.{is_accepted, volume_checks, call_checks, fills}
use Rattle.model.specs.Claim.{Bytes, CallBytes, Event, History, HistoryBytes, answer_to, volume_after, map_in, Demanded}
use Rattle.model.specs.Promises.{volume_left, NoNewDotName}
use Rattle.model.proofs.Tests.{by_bool, by_eq, ands, clash}
use Rattle.model.proofs.Lists.{same_true, same_refl}
use Rattle.model.proofs.State.Names.{inode_of_without, inode_of_gone, inode_of_with}
use Rattle.model.proofs.Crash.History.{Passed, by_refusals}
use Rattle.model.proofs.Corollaries.{step, bytes_after, either}

-- n is a dot name
module _ (n : List ℕ) (dots : is_dot_name n ≡ true) where
  not_given : (b : List ℕ) → new_name_ok b ≡ true → b ≡ n → ⊥
  unfolding new_name_ok
  not_given b h e = let k : not (is_dot_name b) ≡ true = search ands in clash (is_dot_name n) dots (rw e at (not-true (is_dot_name b) k))

  -- taken out or not, a name that leads nowhere leads nowhere
  still_absent : (ns : Names) (a : List ℕ) → inode_of ns n ≡ 0 → inode_of (without a ns) n ≡ 0
  still_absent ns a h =
      by_bool (same_list a n) (λ e. rw (same_true a n e) (inode_of_gone ns n))
      (λ e. inode_of_without ns a n (λ q. clash (same_list a n) (rw q (same_refl n)) e) ∙ h)

  -- A map in whose folder d the name leads nowhere, and what keeps it so.
  module _ (d : ℕ) where
    abbrev NoneIn : FileMap → Type 0
    NoneIn M = inode_of (names_in M d) n ≡ 0

    with_names_lem : (M : FileMap) (e : ℕ) (o : Option Names) → (e ≡ d → inode_of (or_else o []) n ≡ 0) → NoneIn M → NoneIn (with_names e o M)
    unfolding names_in with_names
    with_names_lem M e o f h = by_eq d e (λ q. rw (eq-eqb d e q) (f (sym q))) (λ q. rw (ne_eqb d e q) h)

    with_file_lem : (M : FileMap) (k : ℕ) (o : Option (List ℕ)) → NoneIn M → NoneIn (with_file k o M)
    unfolding names_in with_file
    with_file_lem M k o h = h

    with_named : (M : FileMap) (e : ℕ) (b : List ℕ) (i : ℕ) → new_name_ok b ≡ true → NoneIn M → NoneIn (named e b i M)
    unfolding named
    with_named M e b i g h = with_names_lem M e _ (λ q. inode_of_with (names_in M e) b i n (not_given b g) ∙ rw q h) h

    with_unnamed : (M : FileMap) (e : ℕ) (b : List ℕ) → NoneIn M → NoneIn (unnamed e b M)
    unfolding unnamed
    with_unnamed M e b h = with_names_lem M e _ (λ q. still_absent (names_in M e) b (rw q h)) h

    with_dropped : (M : FileMap) (N k : ℕ) → NoneIn M → NoneIn (drop_unnamed N k M)
    unfolding drop_unnamed inode_of
    with_dropped M N k h =
        by_bool (eqb k root || not (eqb (name_count N (names_in M) k) 0)) (λ e. rw e h)
        (λ e. rw e (with_file_lem (with_names k none M) k none (with_names_lem M k none (λ q. refl) h)))

    -- a call that passed its checks adds no dot name to the map
    absent_after : (c : Call) (m : Mem) (P N : ℕ) → Passed (checks m P N c) → (M : FileMap) → NoneIn M → NoneIn (map_after N c M)
    unfolding checks action action_checks create_action link_action rename_action map_after inode_of
    absent_after (create e a) m P N p M h = with_file_lem _ _ _ (with_named M e a _ (not-false _ p.0) h)
    absent_after (create_folder e a) m P N p M h = with_names_lem _ _ _ (λ q. refl) (with_named M e a _ (not-false _ p.0) h)
    absent_after (link e a f b) m P N p M h =
        let k : name_ok a && new_name_ok b ≡ true = not-false _ p.0 in with_named M f b _ (search ands) h
    absent_after (unlink e a) m P N p M h = with_dropped _ N _ (with_unnamed M e a h)
    absent_after (rename e a f b) m P N p M h =
        let k : name_ok a && new_name_ok b ≡ true = not-false _ p.0 in
        by_bool (eqb (inode_of (names_in M e) a) (inode_of (names_in M f) b)) (λ q. rw q h)
        (λ q. rw q (with_dropped _ N _ (with_named _ f b _ (search ands) (with_unnamed M e a h))))
    absent_after (write k o bs) m P N p M h = by_bool (eqb (length bs) 0) (λ e. rw e h) (λ e. rw e (with_file_lem M k _ h))
    absent_after (set_size k s) m P N p M h = with_file_lem M k _ h
    absent_after (clean k) m P N p M h = h
    absent_after recover m P N p M h = h

    abbrev Absent : List ℕ → Type 0
    Absent v = NoneIn (map_in v)

    -- one event
    absent_next : (v : List ℕ) → Bytes v → is_accepted v ≡ true → (e : Event) → CallBytes e.call → Absent v → Absent (volume_after 8 v e)
    unfolding answer_to fills call_checks volume_checks
    absent_next v b a e k absent =
        let m = word v in
        let v' = volume_after 8 v e in
        let l = store_list (64 * m 0) (groups m (m 0) (m 1) e.call) in
        by_refusals (λ (r : Answer (List ℕ)). Demanded v v' e.call e.power r → Absent v') (λ i d. rw d absent)
        (call_checks (length v) m e.list e.call) (done l)
        (λ p d. either NoneIn v v' e.call e.power (done l) d absent
        (absent_after e.call m (m 0) (m 1) p.1.1.1.1 (map_in v) absent))
        (step v b a e k).demanded

    absent_always : (v : List ℕ) → Bytes v → is_accepted v ≡ true → (es : History) → HistoryBytes es → Absent v → Absent (volume_left v es)
    absent_always v b a [] h absent = absent
    absent_always v b a (e ∷ es) h absent =
        absent_always (volume_after 8 v e) (bytes_after v b e) (step v b a e h.0).accepted_after es h.1
        (absent_next v b a e h.0 absent)

-- "Create, link's new name and rename's new name shall no longer accept them."
pub no_new_dot_name : NoNewDotName
no_new_dot_name v b a es h d n dots absent =
    let z = absent_always n dots d v b a es h (eqb-true _ 0 (not-false _ absent)) in rw (eq-eqb _ 0 z)
