-- The targets of a run of positions, wherever it starts: what the loops over positions speak of.
-- `open_targets` of the model is the run of all open entries (proofs/Views.antt, `open_targets_lem`).
use Rattle.std.specs.Prelude.{ℕ, List, map}
use Rattle.model.specs.Words.{Mem}
use Rattle.model.specs.Journal.{positions, target_word}

-- the targets of n positions from i on
unfoldable pub targets : Mem → ℕ → ℕ → List ℕ
targets m n i = map (λ (j : ℕ). m (target_word j)) (positions n i)
