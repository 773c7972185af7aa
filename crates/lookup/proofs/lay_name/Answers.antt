-- The 32 bytes of the name field are the name and zeros, since the entry's name field is as it should be.
use Rattle.model.proofs.Prelude.{ℕ, ◌<◌, length, get_or, arith}
use Rattle.model.specs.Words.{word}
use Rattle.lookup.proofs.Fields.{length_is, laid_name, field_long}
use Rattle.lookup.proofs.Places.{place_in, place_field}
use Rattle.lookup.proofs.lay_name.Goals as goal

pub copy_from_slice-requires : goal.copy_from_slice-requires
copy_from_slice-requires c = search (arith, field_long, place_in)

pub returns : goal.returns
returns c =
    let v = c.args.v.now in
    let bytes : (i : ℕ) → get_or v i 0 < 256 = λ i. omega (arith, c.type_inv.v i) in
    let inside = place_in (word v) (length v) c.args.place c.requires.0 in
    let field = place_field (word v) (length v) c.args.place c.requires.0 in
    (search length_is, laid_name v bytes c.args.place inside field _ _ _ (omega arith) c.copy_from_slice.ensures.after)
