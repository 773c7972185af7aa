-- The parts, one after the other, are the line.
use Rattle.model.proofs.Prelude.{rules}
use Rattle.listing.proofs.Lines.{first_put}
use Rattle.listing.proofs.put_first.Goals as goal

pub returns : goal.returns
returns c =
    search (
      rules,
      first_put,
      c.put_bytes-a.ensures,
      c.put_field-b.ensures,
      c.put_bytes-c.ensures,
      c.put_field-d.ensures,
      c.put_byte.ensures,
    )
