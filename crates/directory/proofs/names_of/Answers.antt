-- The names are read with the small index, or with the large one where that is full.
use Rattle.model.proofs.Prelude.{ℕ, ◌<◌, get_or, arith}
use Rattle.directory.proofs.Folding.{small_done, small_bad, large_is, names_found, log_found}
use Rattle.directory.proofs.names_of.Goals as goal

pub returns-in-Ok : goal.returns-in-Ok
returns-in-Ok c = let f = small_done _ _ _ _ _ _ _ _ c.in-Ok.ensures in search names_found

pub returns-in-Err-Bad : goal.returns-in-Err-Bad
returns-in-Err-Bad c = let f = small_bad _ _ _ _ _ _ _ _ c.in-Err-Bad.ensures c.in-Err-Bad.field-0-is in search names_found

pub returns-in-Err-Full : goal.returns-in-Err-Full
returns-in-Err-Full c =
    let bytes : (i : ℕ) → get_or c.args.v.now i 0 < 256 = λ i. omega (arith, c.type_inv.v i) in
    search (names_found, large_is, log_found)
