-- A name filled up with zeros begins with the name.
use Rattle.model.proofs.Prelude.{rules}
use Rattle.listing.proofs.Lines.{name_in_lem, name_length, name_put}
use Rattle.listing.proofs.put_name.Goals as goal

pub slice_bounds-name-end : goal.slice_bounds-name-end
slice_bounds-name-end c = search (rules, name_in_lem)

pub slice_bounds-put_bytes-end : goal.slice_bounds-put_bytes-end
slice_bounds-put_bytes-end c = search (rules, name_length)

pub returns : goal.returns
returns c = search (rules, name_put)
