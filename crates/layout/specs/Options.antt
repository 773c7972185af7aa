-- What a search of the code answered, as the definitions write it: their Option and the code's are two types.
use Rattle.std.specs.Prelude.{ℕ, Option, Some, None}
use Rattle.std.proofs.Math.Option as model
use Rattle.std.proofs.Math.Option.{some, none}

abbrev pub to_model : Option ℕ → model.Option ℕ
to_model None = none
to_model (Some n) = some n
