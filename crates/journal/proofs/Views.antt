-- Laws for crates above: the open targets by position, and words that are no targets read as they stand: those past the inode table, and
-- type words.
use Rattle.model.proofs.Prelude.{ℕ, ◌+◌, ◌*◌, ◌%◌, ◌≤◌, ◌<◌, ◌≡◌, refl, true, arith, ltb-true}
use Rattle.model.specs.Lists.{has}
use Rattle.model.specs.Words.{Mem}
use Rattle.model.specs.Layout.{type_word}
use Rattle.model.specs.Journal.{dequeue_word, open_count, open_positions, open_targets, view, target_ok, journal_ok}
use Rattle.model.proofs.Tests.{not_true_false, ands}
use Rattle.model.proofs.Lists.{all_has}
use Rattle.model.proofs.Crash.Journal.{journal_parts, view_other, target_high}
use Rattle.journal.specs.Targets.{targets}

-- the open targets are the targets of the open positions, from the dequeue position on
pub open_targets_lem : (m : Mem) → open_targets m ≡ targets m (open_count m) (m dequeue_word)
unfolding open_targets open_positions targets
open_targets_lem m = refl

-- a word that no target can be reads as it stands
no_target : (m : Mem) (N w : ℕ) → journal_ok m N ≡ true → (target_ok N w ≡ true → ⊥) → view m w ≡ m w
no_target m N w j h =
    view_other m w
    (not_true_false (has w (open_targets m)) (λ e. h (all_has (target_ok N) w (open_targets m) (journal_parts m N j).targets e)))

-- a word past the inode table reads as it stands, since no target lies there
pub view_raw : (m : Mem) (N w : ℕ) → journal_ok m N ≡ true → 64 + 8 * N ≤ w → view m w ≡ m w
view_raw m N w j h = no_target m N w j (λ o. let t = target_high N w o in omega arith)

target_kind : (N t : ℕ) → target_ok N t ≡ true → t % 8 < 3
unfolding target_ok
target_kind N t h = ltb-true (t % 8) 3 (search ands)

-- a type word reads as it stands, since a target is one of the three words before it
pub type_raw : (m : Mem) (N k : ℕ) → journal_ok m N ≡ true → view m (type_word k) ≡ m (type_word k)
type_raw m N k j = no_target m N (type_word k) j (λ o. let t = target_kind N (type_word k) o in omega arith)
