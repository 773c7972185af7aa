-- For the calls that fill a store list, recover apart: the gate's checks come first, then the call's own; the words filled are those of its groups.
use Rattle.model.proofs.Prelude.{ℕ, ◌*◌, ◌≤◌, ◌≡◌, sym, ◌∙◌, true, List, ◌∷◌, ◌++◌, some, lt-ltb, ltb, length}
use Rattle.std.specs.Prelude.{Result, Ok, Err, IsErrAnd}
use Rattle.model.specs.Words.{word}
use Rattle.model.specs.Journal.{is_open, view}
use Rattle.model.specs.Stores.{store_list}
use Rattle.model.specs.FileMap.{Call}
use Rattle.model.specs.Answer.{done, Checks, first_refusal, short_memory}
use Rattle.model.specs.Calls.{checks, groups}
use Rattle.model.specs.Public.{volume_checks, closed_checks, needs_closed, call_checks, fills}
use Rattle.model.proofs.Tests.{by_lt}
use Rattle.model.proofs.Crash.Journal.{closed_view}
use Rattle.inodes.specs.Judged.{Closed}
use Rattle.answer.specs.Comes.{Comes, came_to}
use Rattle.answer.specs.declared.Refusal.{Refusal}
use Rattle.answer.proofs.Checked.{clash, passed_on, last_passes}
use Rattle.answer.proofs.Coming.{comes_refused}
use Rattle.gate.specs.Gated.{fill_checks, Gated}
use Rattle.gate.proofs.Gates.{gate_refused, gate_passed}

-- the words that call c fills on the volume v
abbrev pub filled_words : List ℕ → Call → List ℕ
filled_words v c = store_list (64 * word v 0) (groups (word v) (word v 0) (word v 1) c)

-- the call's own checks
abbrev pub own_checks : List ℕ → Call → Checks
own_checks v c = checks (word v) (word v 0) (word v 1) c

-- the gate's checks and the call's own are all that are asked
all_checks : (v : List ℕ) (l : ℕ) (c : Call) → needs_closed c ≡ true
    → call_checks (length v) (word v) l c ≡ fill_checks (length v) (word v) l ++ own_checks v c
unfolding call_checks fill_checks closed_checks volume_checks
all_checks v l c n = rw n

-- what the call comes to
pub came : (v l : List ℕ) (c : Call) → needs_closed c ≡ true
    → came_to v l c ≡ first_refusal (fill_checks (length v) (word v) (length l) ++ own_checks v c) (done (filled_words v c))
unfolding fills
came v l c n = rw (all_checks v (length l) c n)

-- places, marks and tree are what the gate left; it refused, ..
module _ (v l : List ℕ) (c : Call) (n : needs_closed c ≡ true) (places marks tree : List ℕ) where
  pub fill_refused : (e : Refusal) (r : Result ℕ Refusal) → IsErrAnd r (λ d. d ≡ e)
      → Gated v (fill_checks (length v) (word v) (length l)) (Err e) places marks tree → Comes (came_to v l c) l r l
  fill_refused e r p g =
      rw (passed_on e r p) (comes_refused (came_to v l c) l e (came v l c n ∙ gate_refused v _ places marks tree e g _ _))

  -- .. or it answered a number
  module _ (s : ℕ) (g : Gated v (fill_checks (length v) (word v) (length l)) (Ok s) places marks tree) where
    pub fill_behind : came_to v l c ≡ first_refusal (own_checks v c) (done (filled_words v c))
    fill_behind = came v l c n ∙ gate_passed v _ places marks tree s g _ _

-- Behind the gate the list is long enough, and the volume is accepted and its journal closed.
module _ (v l : List ℕ) (n : ℕ) (places marks tree : List ℕ)
    (g : Gated v (fill_checks (length v) (word v) (length l)) (Ok n) places marks tree) where
  pub fill_long : 4096 ≤ length l
  unfolding fill_checks
  fill_long =
      by_lt (length l) 4096 (λ h. clash short_memory (some n) (sym (rw (lt-ltb (length l) 4096 h) at g.answer))) (λ h. h)

  pub fill_closed : Closed v marks
  unfolding fill_checks closed_checks
  fill_closed =
      record {
        volume = g.tables.volume;
        good = g.tables.good;
        closed = last_passes ((ltb (length l) 4096, 1) ∷ volume_checks (length v) (word v)) (is_open (word v)) 4 _ n g.answer;
        served = g.tables.served;
      }

  pub fill_view : view (word v) ≡ word v
  fill_view = closed_view (word v) fill_closed.closed
