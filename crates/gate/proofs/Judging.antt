-- The judge's answer is the second check and its count that of the directory's names; an open journal is the third check.
use Rattle.model.proofs.Prelude.{ℕ, ◌≤◌, ◌<◌, ◌≡◌, refl, sym, ◌∙◌, Bool, true, false, not, List, [], ◌∷◌, lt-ltb, le-ltb, not-true, not-false, length}
use Rattle.std.specs.Prelude.{Option, Some, None, Result, Ok, Err, IsErrAnd, ok_or}
use Rattle.model.specs.Words.{word}
use Rattle.model.specs.Journal.{is_open}
use Rattle.model.specs.Answer.{done, first_refusal, journal_open}
use Rattle.model.specs.Public.{is_volume, volume_checks, closed_checks}
use Rattle.directory.proofs.Table.{standing_length}
use Rattle.survey.specs.Surveyed.{Surveyed}
use Rattle.answer.specs.declared.Refusal.{Refusal}
use Rattle.answer.specs.declared.Refusal.TheVariants.{ShortMemory, NoVolume, Damaged, JournalOpen}
use Rattle.gate.specs.Gated.{root_names, fill_checks, Gated}
use Rattle.gate.proofs.Gates.{gate_refused, gate_passed}
use Rattle.answer.proofs.Checked.{same_number, passed_on}

-- f is what `is_volume` answered of v
module _ (v : List ℕ) (f : Bool) (a : f ≡ is_volume (length v) (word v)) where
  pub judged_none : (places marks tree : List ℕ) → not f ≡ true → Gated v (volume_checks (length v) (word v)) (Err NoVolume) places marks tree
  unfolding volume_checks
  judged_none places marks tree h =
      record {
        answer = rw (← a, not-true f h);
        tables = record {};
      }

  pub judged_is : not f ≡ false → is_volume (length v) (word v) ≡ true
  judged_is h = sym a ∙ not-false f h

  module _ (h : not f ≡ false) (places marks tree : List ℕ) where
    -- by what `judge` answered
    judged_by : (o : Option ℕ) → Surveyed v o places marks tree → Gated v (volume_checks (length v) (word v)) (ok_or o Damaged) places marks tree
    unfolding volume_checks
    judged_by None s = record { answer = rw (judged_is h, ← s.answer); tables = record {} }
    judged_by (Some n) s =
        let l = s.lists n refl in
        record {
          answer = rw (judged_is h, ← s.answer, ← l.names, standing_length (word v) (length v) places n l.filled);
          tables =
              record { volume = judged_is h; good = sym s.answer; lists = l; served = s.served n refl; settled = s.settled n refl };
        }

    -- and so r, what `ok_or` makes of that
    pub judged_behind : (o : Option ℕ) → Surveyed v o places marks tree → (r : Result ℕ Refusal) → r ≡ ok_or o Damaged
        → Gated v (volume_checks (length v) (word v)) r places marks tree
    judged_behind o s r e = rw e (judged_by o s)

-- g is what `judged` answered and left, o what `is_open` answered
module _ (v places marks tree : List ℕ) where
  pub closed_refused : (e : Refusal) (r : Result ℕ Refusal) → IsErrAnd r (λ d. d ≡ e)
      → Gated v (volume_checks (length v) (word v)) (Err e) places marks tree → Gated v (closed_checks (length v) (word v)) r places marks tree
  unfolding closed_checks
  closed_refused e r p g = rw (passed_on e r p) (record { answer = rw (gate_refused v _ places marks tree e g _ _); tables = record {} })

  module _ (n : ℕ) (g : Gated v (volume_checks (length v) (word v)) (Ok n) places marks tree) (o : Bool) (b : o ≡ is_open (word v)) where
    passed : first_refusal (closed_checks (length v) (word v)) (done (length (root_names v)))
        ≡ first_refusal ((is_open (word v), journal_open) ∷ []) (done (length (root_names v)))
    unfolding closed_checks
    passed = gate_passed v _ places marks tree n g _ _

    pub closed_open : o ≡ true → Gated v (closed_checks (length v) (word v)) (Err JournalOpen) places marks tree
    closed_open y = record { answer = rw (passed, ← b, y); tables = record {} }

    pub closed_is : o ≡ false → Gated v (closed_checks (length v) (word v)) (Ok n) places marks tree
    closed_is y =
        record {
          answer = rw (passed, ← b, y, same_number (volume_checks (length v) (word v)) _ n g.answer);
          tables = g.tables;
        }

-- A list to be filled: l is its length, and g what `closed` answered and left of v.
module _ (v : List ℕ) (l : ℕ) where
  pub short_list : (places marks tree : List ℕ) → l < 4096 → Gated v (fill_checks (length v) (word v) l) (Err ShortMemory) places marks tree
  unfolding fill_checks
  short_list places marks tree h =
      record {
        answer = rw (lt-ltb l 4096 h);
        tables = record {};
      }

  pub long_list : (r : Result ℕ Refusal) (places marks tree : List ℕ) → 4096 ≤ l → Gated v (closed_checks (length v) (word v)) r places marks tree
      → Gated v (fill_checks (length v) (word v) l) r places marks tree
  unfolding fill_checks
  long_list r places marks tree h g = record { answer = rw (le-ltb l 4096 h) g.answer; tables = g.tables }
