-- The number and the list are those of what the call comes to.
use Rattle.model.proofs.Prelude.{rules}
use Rattle.host_calls.proofs.Returned.{returned, returned_list}
use Rattle.host_calls.proofs.volume_create_folder.Goals as goal

pub returns : goal.returns
returns c = (search (rules, returned), search (rules, returned_list))
