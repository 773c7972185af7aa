-- For callers: what an append comes to is what a call's action comes to, where entries, data and words to commit are the call's.
use Rattle.model.proofs.Prelude.{ℕ, ◌+◌, ◌*◌, ◌/◌, ◌%◌, ◌≤◌, ◌<◌, ◌≡◌, ◌∙◌, ap, fun_ext, Bool, true, false, not, List, [], ◌∷◌, ◌++◌, some, arith, zero-add, sub-zero, and-false, eqb, length, drop, eq-eqb, ne_eqb, lt-ltb, le-ltb}
use Rattle.std.specs.Prelude.{Ok}
use Rattle.model.specs.Lists.{index_of}
use Rattle.model.specs.Words.{word}
use Rattle.model.specs.Layout.{valid_word, head_word, tail_word, type_word}
use Rattle.model.specs.Accept.{is_valid, free}
use Rattle.model.specs.Stores.{Stores, one_word, no_words, both, only_if}
use Rattle.model.specs.Answer.{done}
use Rattle.model.specs.Calls as calls
use Rattle.model.specs.Calls.{Change, lay_pages, lowest_pages, entries_only, data_pages, appended, old_pages, old_slots, fresh_pages, fresh_log, pages_needed, prepared, new_tail, own_changes, pages_left, all_needed, all_prepared, all_changes, space_checks, action_checks, action_groups}
use Rattle.model.proofs.Tests.{by_lt}
use Rattle.model.proofs.Frame.View.{root_valid}
use Rattle.model.proofs.Calls.DataPages.{pages_few}
use Rattle.model.proofs.Calls.Room.{free_bounds}
use Rattle.inodes.specs.Judged.{Closed}
use Rattle.stores.specs.Emitted.{Emitted}
use Rattle.stores.specs.Added.{element}
use Rattle.stores.proofs.Emitting.{emitted_parts}
use Rattle.answer.specs.Comes.{Comes}
use Rattle.entries.specs.Table.{entries_of}
use Rattle.append.specs.declared.Append.{Append}
use Rattle.append.specs.Appended.{zeroed, also_committed, first_count, asked, second_asked, plain, action_of, outcome, Ready}
use Rattle.append.proofs.Volumes.{closed_fine}

-- one log: it gets all entries
pub one_log : (a : Append) (ws ds : List ℕ) → a.moved ≡ 0 → action_of a ws ds ≡ plain a.keeps (asked a ws ds ∷ []) (zeroed a) (also_committed a)
unfolding action_of second_asked
one_log a ws ds e = rw (eq-eqb a.moved 0 e)

pub all_first : (a : Append) (ws : List ℕ) → a.moved ≡ 0 → first_count a ws ≡ length ws / 8
unfolding first_count
all_first a ws e = rw (e, sub-zero)

pub one_log_ready : (v b : List ℕ) (a : Append) (ws ds l : List ℕ) → Closed v b → a.second ≡ 0 → a.moved ≡ 0 → a.log < word v 1
    → is_valid (word v) a.log ≡ true → a.other < word v 1 → (a.anew ≡ false → 0 < length ws / 8 + length ds / 64) → length ws < 4294967296
    → 64 * (length ds / 64) ≡ length ds → length ds / 64 ≤ 9 → a.file < 4294967296
    → 18 * (length ws / 8 + length ds / 64) + 2 * length ds + 46 ≤ length l → Ready v b a ws ds l
one_log_ready v b a ws ds l c es em h val o entry few whole nine file room =
    let n : 0 < word v 1 = omega arith in
    record {
      volume = c;
      log = h;
      valid = val;
      second = omega arith;
      second_valid = rw es (root_valid (word v) (word v 0) (word v 1) (closed_fine v b c) n);
      other = o;
      moved = omega arith;
      some_entry = λ e. rw (all_first a ws em) (entry e);
      few = few;
      whole = whole;
      nine = nine;
      file = file;
      room = room;
    }

-- entries and no data
pub asked_only : (a : Append) (ws : List ℕ) → a.moved ≡ 0 → a.file ≡ 0 → a.size ≡ 0
    → asked a ws [] ≡ entries_only a.anew a.log (entries_of ws 0 (length ws / 8))
unfolding asked entries_only element
asked_only a ws m e f = rw (all_first a ws m, e, f)

-- an inode that becomes valid, one that is let go, and none
module _ (a : Append) where
  pub zeroed_new : (a.other ≡ 0 → ⊥) → a.valid ≡ 1
      → zeroed a ≡ both (one_word (head_word a.other) 0) (both (one_word (tail_word a.other) 0) (one_word (type_word a.other) a.kind))
  unfolding zeroed only_if
  zeroed_new e f = rw (ne_eqb a.other 0 e, ne_eqb a.valid 0 (omega arith))

  pub zeroed_none : a.valid ≡ 0 → zeroed a ≡ no_words
  unfolding zeroed only_if
  zeroed_none f = fun_ext (λ w. rw (eq-eqb a.valid 0 f, and-false (not (eqb a.other 0))))

  pub also_new : (a.other ≡ 0 → ⊥) → also_committed a ≡ (valid_word a.other, a.valid) ∷ []
  unfolding also_committed
  also_new e = rw (ne_eqb a.other 0 e)

  pub also_nothing : a.other ≡ 0 → also_committed a ≡ []
  unfolding also_committed
  also_nothing e = rw (eq-eqb a.other 0 e)

-- Data whose words are the same.

lay_same : (ps : List ℕ) (c : ℕ) (g h : ℕ → ℕ) → length ps ≤ c → ((j : ℕ) → j < 64 * c → g j ≡ h j) → lay_pages ps g ≡ lay_pages ps h
unfolding lay_pages
lay_same ps c g h l e =
    fun_ext (λ w.
    let j = index_of (w / 64) ps in
    by_lt j (length ps) (λ i. rw (lt-ltb j (length ps) i, e (64 * j + w % 64) (omega arith))) (λ i. rw (le-ltb j (length ps) i)))

module _ (v : List ℕ) (k : ℕ) (b : Bool) (es : List (List ℕ)) (i c z : ℕ) (g h : ℕ → ℕ) (same : (j : ℕ) → j < 64 * c → g j ≡ h j) where
  abbrev with_words : (ℕ → ℕ) → calls.Append
  with_words w = record { log = k; anew = b; entries = es; file = i; count = c; words = w; size = z }

  pub outcome_words : (x : Bool) (s : Stores) (cs : List Change) → outcome v (plain x (with_words g ∷ []) s cs) ≡ outcome v (plain x (with_words h ∷ []) s cs)
  unfolding outcome action_checks action_groups space_checks all_needed all_prepared all_changes data_pages appended old_pages old_slots fresh_pages fresh_log pages_needed prepared new_tail own_changes pages_left
  outcome_words x s cs =
      let u = word v in
      let f = free u (u 0) (u 1) in
      rw (lay_same (lowest_pages f (u 0) c) c g h (pages_few f (u 0) (λ p h. (free_bounds u (u 0) (u 1) p h).1) c) same)

-- words that were put at the start of a list
pub comes_words : {l : List ℕ} {z : ℕ} {xs o : List ℕ} → Emitted l 0 xs z o → z ≤ length l → Comes (done xs) l (Ok z) o
comes_words {l} {z} {xs} p h =
    let e : z ≡ length xs = p.end ∙ zero-add (length xs) in
    record { answer = ap (λ n. done (some n)) e; list = emitted_parts p (omega arith) ∙ ap (λ n. xs ++ drop n l) e }
