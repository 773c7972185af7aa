-- A turn puts the entry of the next name.
use Rattle.model.proofs.Prelude.{rules}
use Rattle.lookup.proofs.Places.{here_in, here_field}
use Rattle.entries.proofs.Entries.{filling_none}
use Rattle.entries.proofs.Names.{names_next, names_end}
use Rattle.entries.proofs.clean_names.Goals as goal

pub loop-i-init : goal.loop-i-init
loop-i-init c = search (rules, filling_none)

pub copied_add-requires : goal.copied_add-requires
copied_add-requires c = search (rules, here_in, here_field)

pub loop-i-preserved : goal.loop-i-preserved
loop-i-preserved c = search (rules, names_next)

pub returns : goal.returns
returns c = search (rules, names_end)
