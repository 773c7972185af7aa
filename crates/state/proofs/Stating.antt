-- The gate's checks come first; a file of an accepted volume has a log that is good, so that its state is what the log means.
use Rattle.model.proofs.Prelude.{ℕ, ◌<◌, ◌≡◌, sym, ◌∙◌, ap, Bool, true, false, not, ◌||◌, List, leb, eqb, length}
use Rattle.std.specs.Prelude.{Result, Ok, Err, IsErrAnd, IfOk}
use Rattle.model.specs.Words.{word}
use Rattle.model.specs.Layout.{is_directory}
use Rattle.model.specs.Journal.{view}
use Rattle.model.specs.State.{File, file_of}
use Rattle.model.specs.Accept.{is_valid, log_ok}
use Rattle.model.specs.Calls.{none_there, file_checks}
use Rattle.model.specs.Public.{closed_checks, size, size_answer}
use Rattle.model.proofs.Frame.View.{log_ok_lem}
use Rattle.files.specs.State.{file_from}
use Rattle.names.specs.Listed.{Good}
use Rattle.names.proofs.Listing.{good_view}
use Rattle.answer.specs.declared.Refusal.{Refusal}
use Rattle.answer.specs.declared.Refusal.TheVariants.{NotThere, WrongType}
use Rattle.gate.specs.Gated.{Gated}
use Rattle.gate.proofs.Gates.{gate_refused, gate_passed, gate_closed}
use Rattle.answer.proofs.Checked.{passed_on}
use Rattle.state.specs.Stated.{FileThere, FileRead, FileState, Stated}
use Rattle.state.proofs.Sizes.{there_below, there_valid}

-- An inode of an accepted volume, whose sizes the code read; d is what `no_file` answered.
module _ (v : List ℕ) (good : Good v) (k P N : ℕ) (p : P ≡ word v 0) (q : N ≡ word v 1) (d : Bool)
    (a : d ≡ (leb N k || not (is_valid (view (word v)) k)) || eqb k 0) where
  pub state_absent : (t : List ℕ) → d ≡ true → FileRead v k (Err NotThere) t
  unfolding none_there file_checks
  state_absent t y =
      record { answer = rw (← q, ← a, y); there = record {} }

  module _ (y : d ≡ false) where
    is_there : (leb N k || not (is_valid (view (word v)) k)) || eqb k 0 ≡ false
    is_there = sym a ∙ y

    pub file_below : k < N
    file_below = there_below (view (word v)) N k is_there

    pub file_inside : k < word v 1
    file_inside = rw q at file_below

    valid : is_valid (view (word v)) k ≡ true
    valid = there_valid (view (word v)) N k is_there

    pub good_log : log_ok (view (word v)) P N k ≡ true
    good_log = rw (p, q) (log_ok_lem (view (word v)) (word v 0) (word v 1) (good_view v good) k file_inside valid)

    -- b is what `is_directory` answered
    module _ (b : Bool) (i : b ≡ is_directory (view (word v)) k) where
      pub state_folder : (t : List ℕ) → b ≡ true → FileRead v k (Err WrongType) t
      unfolding none_there file_checks
      state_folder t z =
          record { answer = rw (← q, is_there, ← i, z); there = record {} }

      -- s and t are what `judged_file` answered and left
      module _ (z : b ≡ false) (s : ℕ) (t : List ℕ) (f : file_from s t ≡ file_of (view (word v)) P N k) where
        is_size : s ≡ (file_of (view (word v)) P N k).size
        is_size = ap (λ (x : File). x.size) f

        there_is : FileThere v k s t
        there_is = record { below = file_inside; valid = valid; kind = sym i ∙ z; file = rw (← p, ← q) f }

        pub state_there : FileRead v k (Ok s) t
        unfolding none_there file_checks
        state_there =
            record {
              answer = rw (← q, is_there, sym i ∙ z, ← p, is_size);
              there = there_is;
            }

pub kind_file : (t f : Bool) → f ≡ t → f ≡ false → t ≡ false
kind_file t f e h = sym e ∙ h

-- the gate refused, ..
module _ (v places marks tree : List ℕ) (k : ℕ) where
  pub state_refused : (e : Refusal) (r : Result ℕ Refusal) → IsErrAnd r (λ d. d ≡ e)
      → Gated v (closed_checks (length v) (word v)) (Err e) places marks tree → (t : List ℕ) → Stated v k r marks t
  unfolding size_answer size
  state_refused e r p g t = rw (passed_on e r p) (record { answer = rw (gate_refused v _ places marks tree e g _ _); state = record {} })

  -- .. or answered n: a and t are what `judged_state` answered and left
  pub state_is : (n : ℕ) → Gated v (closed_checks (length v) (word v)) (Ok n) places marks tree → (a : Result ℕ Refusal) (t : List ℕ)
      → FileRead v k a t → Stated v k a marks t
  unfolding size_answer size
  state_is n g a t f = record { answer = rw (gate_passed v _ places marks tree n g) f.answer; state = stated a f.there }
    where
      stated : (b : Result ℕ Refusal) → IfOk b (λ s. FileThere v k s t) → IfOk b (λ s. FileState v k s marks t)
      stated (Ok s) x =
          record {
            volume = g.tables.volume;
            good = g.tables.good;
            closed = gate_closed v n places marks tree g;
            below = x.below;
            valid = x.valid;
            kind = x.kind;
            file = x.file;
            served = g.tables.served;
          }
      stated (Err e) x = record {}
