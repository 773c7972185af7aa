-- The two passes together: where the index holds the whole log, the places listed are those of the log's names; a log that adds more
-- different names than the large index is to hold leaves more than 224 of them standing.
use Rattle.model.proofs.Prelude.{ℕ, ◌+◌, ◌*◌, ◌^◌, ◌≤◌, ◌<◌, ◌≡◌, refl, sym, ◌∙◌, ap, true, false, ◌&&◌, List, [], map, arith, leb, length, get_or, replicate, length-map, length-replicate, le-leb, lt-leb, leb-true}
use Rattle.model.specs.Lists.{all, foldl, is_some}
use Rattle.model.specs.Words.{Mem, word}
use Rattle.model.specs.Layout.{is_directory, most_names}
use Rattle.model.specs.Journal.{view}
use Rattle.model.specs.Entry.{entry_at, name_entry_ok}
use Rattle.model.specs.Log.{log_pages}
use Rattle.model.specs.State.{name_step, names_of}
use Rattle.model.specs.Accept.{log_ok}
use Rattle.model.proofs.Tests.{by_bool, no}
use Rattle.model.proofs.Lists.{all_replicate}
use Rattle.model.proofs.Words.{word_lt}
use Rattle.inode_log.specs.Steps.{entries_from}
use Rattle.inode_log.specs.Ready.{Ready}
use Rattle.inode_log.specs.Found.{log_words, LogOf}
use Rattle.inode_log.specs.declared.Log.{Log}
use Rattle.inode_log.proofs.Turns.{words_inside, words_few}
use Rattle.index.specs.Index.{lies_in, Slots}
use Rattle.directory.specs.Fields.{name_at}
use Rattle.directory.specs.Places.{standing}
use Rattle.directory.specs.Standing.{index_of, places_of, Indexes, Listed}
use Rattle.directory.specs.Folds.{Folds, FoundLog, log_names, names_fit, FoldsWith}
use Rattle.directory.specs.declared.Misfit.{Misfit}
use Rattle.directory.specs.declared.Misfit.TheVariants.{Bad, Full}
use Rattle.std.specs.Prelude.{Option, Some, None, Result, Ok, Err, IsErr, IsErrAnd, ⊤}
use Rattle.std.specs.Option.{ok_or}
use Rattle.std.specs.Result.{result_ok}
use Rattle.directory.proofs.Standing.{names_stand, places_good, names_many}

-- the large index is empty at first
pub large_none : ◌≡◌ {A = List ℕ} (replicate 16256 0) (replicate (length (replicate {A = ℕ} 16256 0)) 0)
large_none = ap (λ (n : ℕ). replicate n 0) (sym (length-replicate {A = ℕ} 16256 0))

-- An empty index of M slots.

module _ (m : Mem) (L b M : ℕ) (g : Log) (f : FoundLog m L g) where
  pub none_slots : M ≤ 65536 → b + 1 < M → Slots L (replicate M 0)
  none_slots j i =
      let h = f.some in
      let e = length-replicate {A = ℕ} M 0 in
      record { some = omega arith; few = omega arith; inside = all_replicate (lies_in L) M 0 (le-leb 64 L (omega arith)) }

pub none_long : (b M : ℕ) → b + 1 < M → b + 1 < length (replicate {A = ℕ} M 0)
none_long b M h = let e = length-replicate {A = ℕ} M 0 in omega arith

standing_count : (m : Mem) (ps : List ℕ) → length (standing m ps) ≡ length ps
unfolding standing
standing_count m ps = length-map ps (λ (p : ℕ). (name_at m (8 * p), m (8 * p + 1)))

-- The answers of `fold`: M slots, which are empty at first, and k what the first pass left of them.
module _ (v : List ℕ) (bytes : (i : ℕ) → get_or v i 0 < 256) (L N b M : ℕ) (g : Log) (f : FoundLog (word v) L g) (room : b + 1 < M) (k t : List ℕ) where
  abbrev m : Mem
  m = word v

  abbrev ws : List ℕ
  ws = log_words (word v) g

  done_names : (u : ⊤) → Indexes m L N b ws (replicate M 0) (Ok u) k → (n : ℕ) → Listed (places_of m k ws) (Some n) t
      → Folds m L (names_fit m N g) (log_names m g) (Some n) t
  unfolding names_fit log_names
  done_names u i n y =
      let small : (w : ℕ) → m w < 2 ^ 64 = λ w. word_lt v w bytes in
      let ok = i.good refl in
      let q : k ≡ index_of m (replicate M 0) ws = i.list refl in
      let e = names_stand m small N b M room ws ok f.placed f.apart (rw q at (i.few refl)) in
      let ps = places_of m k ws in
      let s : standing m ps ≡ log_names m g = rw q e in
      let len : length ps ≡ length (log_names m g) = sym (standing_count m ps) ∙ ap length s in
      let c : n ≡ length ps = y.count n refl in
      let d = leb-true (length ps) 224 (sym y.good) in
      record {
        good = y.good ∙ rw (ok, len);
        count = λ x h. let z : n ≡ x = cc in sym z ∙ c ∙ len;
        long = y.long;
        filled =
            λ x h.
            let z : n ≡ x = cc in
            record {
              few = omega arith;
              long = y.long;
              oks =
                  rw (← z, c, y.places refl) (places_good m small N b M room ws ok f.placed f.apart L
                  (words_inside (7 * g.pages) m g.pages g.start g.end L f.inside.steps f.inside.bytes) k);
            };
        names = λ x h. let z : n ≡ x = cc in rw (← z, c, y.places refl) s;
      }

  many_stand : (u : ⊤) → Indexes m L N b ws (replicate M 0) (Ok u) k → Listed (places_of m k ws) None t
      → Folds m L (names_fit m N g) (log_names m g) None t
  unfolding names_fit log_names
  many_stand u i y =
      let small : (w : ℕ) → m w < 2 ^ 64 = λ w. word_lt v w bytes in
      let ok = i.good refl in
      let q : k ≡ index_of m (replicate M 0) ws = i.list refl in
      let e = names_stand m small N b M room ws ok f.placed f.apart (rw q at (i.few refl)) in
      let ps = places_of m k ws in
      let s : standing m ps ≡ log_names m g = rw q e in
      let len : length ps ≡ length (log_names m g) = sym (standing_count m ps) ∙ ap length s in
      record { good = y.good ∙ rw (ok, len); count = λ x h. cc; long = y.long; filled = λ x h. cc; names = λ x h. cc }

  -- o is what listing the names that stand answered
  pub with_whole : (u : ⊤) (o : Option ℕ) (r : Result ℕ Misfit) → Indexes m L N b ws (replicate M 0) (Ok u) k → Listed (places_of m k ws) o t
      → r ≡ ok_or o Bad → FoldsWith m L N b M g r t
  with_whole u (Some n) r i y e =
      record {
        done = λ x h. let z : n ≡ x = cc in rw (← z) (done_names u i n y);
        bad = λ h. cc;
        full = λ h. cc;
        long = y.long;
      }
  with_whole u None r i y e = record { done = λ x h. cc; bad = λ h. many_stand u i y; full = λ h. cc; long = y.long }

  pub with_bad : Indexes m L N b ws (replicate M 0) (Err Bad) k → length t ≡ 224 → FoldsWith m L N b M g (Err Bad) t
  unfolding names_fit
  with_bad i y =
      record {
        done = λ x h. cc;
        bad = λ _. record { good = rw (i.bad refl); count = λ x h. cc; long = y; filled = λ x h. cc; names = λ x h. cc };
        full = λ h. cc;
        long = y;
      }

  pub with_full : Indexes m L N b ws (replicate M 0) (Err Full) k → length t ≡ 224 → FoldsWith m L N b M g (Err Full) t
  with_full i y = record { done = λ x h. cc; bad = λ h. cc; full = λ _. i.full refl; long = y }

  pub with_fault : (r : Result ℕ Misfit) (x : Misfit) → IsErr r × IsErrAnd r (λ y. y ≡ x) → Indexes m L N b ws (replicate M 0) (Err x) k → length t ≡ 224
      → FoldsWith m L N b M g r t
  with_fault (Ok n) x h i y = no h.0
  with_fault (Err e) Bad h i y = rw h.1 (with_bad i y)
  with_fault (Err e) Full h i y = rw h.1 (with_full i y)

-- A log that adds more than 14,448 different names leaves more than 224 standing, or has an entry that no directory's log may hold.
many_names : (v : List ℕ) (L N : ℕ) (g : Log) (t : List ℕ) → ((i : ℕ) → get_or v i 0 < 256) → FoundLog (word v) L g
    → FoldsWith (word v) L N 14448 16256 g (Err Full) t → Folds (word v) L (names_fit (word v) N g) (log_names (word v) g) None t
unfolding names_fit log_names
many_names v L N g t bytes f h =
    record { good = sym fit; count = λ x z. cc; long = h.long; filled = λ x z. cc; names = λ x z. cc }
  where
    fit : names_fit (word v) N g ≡ false
    fit =
        by_bool (all (name_entry_ok N) (map (entry_at (word v)) (log_words (word v) g)))
        (λ ok.
        let n = names_many (word v) (λ i. word_lt v i bytes) N 14448 16256 (omega arith) (log_words (word v) g) ok f.placed f.apart
        (h.full refl) in
        let a = words_few (7 * g.pages) (word v) g.start g.end in
        let c = f.inside.few in
        rw (ok, lt-leb (length (foldl name_step [] (map (entry_at (word v)) (log_words (word v) g)))) 224 (omega arith)))
        (λ ok. rw ok)

-- what the large index answers; o is the answer as an Option
pub large_is : (v : List ℕ) (L N : ℕ) (g : Log) (t : List ℕ) (r : Result ℕ Misfit) (o : Option ℕ) → ((i : ℕ) → get_or v i 0 < 256) → FoundLog (word v) L g
    → FoldsWith (word v) L N 14448 16256 g r t → o ≡ result_ok r → Folds (word v) L (names_fit (word v) N g) (log_names (word v) g) o t
large_is v L N g t (Ok n) o bytes f h e = rw e (h.done n refl)
large_is v L N g t (Err Bad) o bytes f h e = rw e (h.bad refl)
large_is v L N g t (Err Full) o bytes f h e = rw e (many_names v L N g t bytes f h)

-- what the small index answers where it is not full
pub small_done : (u : Mem) (L N b M : ℕ) (g : Log) (t : List ℕ) (n : ℕ) → FoldsWith u L N b M g (Ok n) t → Folds u L (names_fit u N g) (log_names u g) (Some n) t
small_done u L N b M g t n h = h.done n refl

pub small_bad : (u : Mem) (L N b M : ℕ) (g : Log) (t : List ℕ) (e : Misfit) → FoldsWith u L N b M g (Err e) t → e ≡ Bad
    → Folds u L (names_fit u N g) (log_names u g) None t
small_bad u L N b M g t e h i = h.bad (ap Err i)

-- The names of a directory by its inode.

pub inode_in_lem : (m : Mem) (L P N d : ℕ) → Ready m L P N → d < N → 64 * d + 576 ≤ L
inode_in_lem m L P N d r h = let a = r.bytes in let b = r.room in omega arith

module _ (m : Mem) (L P N d : ℕ) (ready : Ready m L P N) (g : Log) (l : LogOf m L P N d g) where
  pub log_found : FoundLog m L g
  log_found =
      let a = ready.bytes in
      let b = ready.room in
      record { inside = l.inside; apart = l.apart; placed = l.placed; some = omega arith }

  pub names_found : (x : Option ℕ) (t : List ℕ) → is_directory (view m) d ≡ true → is_some (log_pages (view m) P N d) ≡ true
      → Folds m L (names_fit m N g) (log_names m g) x t
      → Folds m L (log_ok (view m) P N d && leb (length (names_of (view m) P N d)) most_names) (names_of (view m) P N d) x t
  unfolding log_ok names_of names_fit log_names entries_from
  names_found x t dir s f = rw (s, dir) (rw l.entries_are at f)
