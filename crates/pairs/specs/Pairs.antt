-- One pair of a store list: what `pairs_ok` and `carried` of the model say of each.
use Rattle.std.specs.Prelude.{ℕ, Bool, cond, List, ltb, eqb}
use Rattle.model.specs.Words.{put_word}
use Rattle.model.specs.Stores.{fence}

-- whether the pair i, x is a fence or a store into a volume of `words` words
unfoldable pub pair_ok : ℕ → ℕ → ℕ → Bool
pair_ok words i x = cond (eqb i fence) (eqb x 0) (ltb i words)

-- the bytes v after the pair i, x
unfoldable pub pair_stored : List ℕ → ℕ → ℕ → List ℕ
pair_stored v i x = cond (eqb i fence) v (put_word v i x)
