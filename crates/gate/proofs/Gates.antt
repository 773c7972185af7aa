-- For callers: where the gate refuses, so does a call with further checks; where it answers a number, the further checks decide.
use Rattle.model.proofs.Prelude.{ℕ, ◌+◌, ◌*◌, ◌≤◌, ◌<◌, ◌≡◌, refl, true, false, List, ◌++◌, arith, length}
use Rattle.std.specs.Prelude.{Ok, Err}
use Rattle.model.specs.Words.{word}
use Rattle.model.specs.Layout.{root}
use Rattle.model.specs.Journal.{dequeue_word, enqueue_word, journal_ok, is_open}
use Rattle.model.specs.Answer as model
use Rattle.model.specs.Answer.{Checks, refused, first_refusal, journal_open}
use Rattle.model.specs.Public.{volume_checks, closed_checks}
use Rattle.model.proofs.Crash.Journal.{journal_parts}
use Rattle.model.proofs.Crash.Landing.{volume_parts, sizes_parts}
use Rattle.inode_log.specs.Ready.{Ready}
use Rattle.names.specs.Inodes.{Readable}
use Rattle.names.specs.Listed.{Good, Turned}
use Rattle.names.proofs.Judged.{readable}
use Rattle.names.proofs.Listing.{volume_long, good_journal, good_ready}
use Rattle.answer.specs.Meaning.{number_of}
use Rattle.answer.specs.declared.Refusal.{Refusal}
use Rattle.answer.proofs.Checked.{checks_after, same_refusal, none_refuses, last_passes}
use Rattle.gate.specs.Gated.{Tables, Gated}

-- cs are the checks that the gate asked of v, and rest the call's own
module _ (v : List ℕ) (cs : Checks) (places marks tree : List ℕ) where
  pub gate_refused : (e : Refusal) → Gated v cs (Err e) places marks tree → {B : Type 0} (rest : Checks) (y : model.Answer B)
      → first_refusal (cs ++ rest) y ≡ refused (number_of e)
  gate_refused e g rest y = rw (checks_after cs rest y) (same_refusal (number_of e) cs _ g.answer (first_refusal rest y))

  pub gate_passed : (n : ℕ) → Gated v cs (Ok n) places marks tree → {B : Type 0} (rest : Checks) (y : model.Answer B)
      → first_refusal (cs ++ rest) y ≡ first_refusal rest y
  gate_passed n g rest y = rw (checks_after cs rest y) (none_refuses cs _ n g.answer (first_refusal rest y))

-- What the code may go on with: the volume is one, its sizes are right and its journal words are positions. cs are the checks that were
-- asked, and n is the number that they came to.
module _ (v : List ℕ) (cs : Checks) (n : ℕ) (places marks tree : List ℕ) (g : Gated v cs (Ok n) places marks tree) where
  tables : Tables v n places marks tree
  tables = g.tables

  pub gate_good : Good v
  gate_good = record { volume = tables.volume; good = tables.good }

  journal_good : journal_ok (word v) (word v 1) ≡ true
  journal_good = good_journal v gate_good

  pub gate_dequeue : word v dequeue_word < 16
  gate_dequeue = (journal_parts (word v) (word v 1) journal_good).dequeue

  pub gate_enqueue : word v enqueue_word < 16
  gate_enqueue = (journal_parts (word v) (word v 1) journal_good).enqueue

  pub gate_long : 512 ≤ length v
  gate_long = volume_long v tables.volume

  -- words 0 and 1 are there
  pub gate_word_1 : 8 * 1 + 8 ≤ length v
  gate_word_1 = let l = gate_long in omega arith

  pub gate_pages : (P : ℕ) → P ≡ word v 0 → P ≤ 4096
  gate_pages P p = rw p (sizes_parts (word v 0) (word v 1) (volume_parts (length v) (word v) tables.volume).sizes).most_pages

  pub gate_ready : (P N : ℕ) → P ≡ word v 0 → N ≡ word v 1 → Ready (word v) (length v) P N
  gate_ready P N p q = good_ready v gate_good P N p q

  pub gate_readable : (N : ℕ) → N ≡ word v 1 → Readable (word v) (length v) N
  gate_readable N q = readable (word v) (length v) (word v 0) N (gate_ready (word v 0) N refl q)

  -- the table of places has the names of inode 0
  pub gate_turned : Turned v root (record { folder = root; count = n }) places
  gate_turned = record { folder = refl; lists = tables.lists }

-- behind all three checks the journal is closed
pub gate_closed : (v : List ℕ) (n : ℕ) (places marks tree : List ℕ) → Gated v (closed_checks (length v) (word v)) (Ok n) places marks tree
    → is_open (word v) ≡ false
unfolding closed_checks
gate_closed v n places marks tree g =
    last_passes (volume_checks (length v) (word v)) (is_open (word v)) journal_open _ n g.answer
