-- The bytes that the entry has for its name are the name's.
use Rattle.model.proofs.Prelude.{ℕ, ◌<◌, get_or, arith}
use Rattle.lookup.proofs.Fields.{named}
use Rattle.lookup.proofs.has_name.Goals as goal

pub returns : goal.returns
returns c =
    let bytes : (i : ℕ) → get_or c.args.v.now i 0 < 256 = λ i. omega (arith, c.type_inv.v i) in
    search (arith, named)
