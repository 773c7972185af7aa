-- Each answer is one of the first pass: the whole log is indexed and its names are listed, an entry decides, or the index is full.
use Rattle.model.proofs.Prelude.{ℕ, ◌<◌, get_or, arith}
use Rattle.index.proofs.Kept.{none_taken}
use Rattle.directory.proofs.Folding.{none_slots, none_long, with_whole, with_fault}
use Rattle.directory.proofs.fold.Goals as goal

pub index_names-requires : goal.index_names-requires
index_names-requires g c = (search, search, search none_slots, search none_taken, search none_long)

pub returns-in_err-index_names : goal.returns-in_err-index_names
returns-in_err-index_names g c =
    let bytes : (i : ℕ) → get_or c.args.v.now i 0 < 256 = λ i. omega (arith, c.type_inv.v i) in
    with_fault c.args.v.now bytes _ _ _ _ _ c.requires.0 c.requires.2 _ _ _ _ c.from_residual.ensures c.in_err-index_names.ensures (search)

pub returns : goal.returns
returns g c =
    let bytes : (i : ℕ) → get_or c.args.v.now i 0 < 256 = λ i. omega (arith, c.type_inv.v i) in
    with_whole c.args.v.now bytes _ _ _ _ _ c.requires.0 c.requires.2 _ _ _ _ _ c.in_ok-index_names.ensures c.list_standing.ensures
    c.ok_or.ensures.value
