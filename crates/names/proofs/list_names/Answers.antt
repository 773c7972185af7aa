-- An inode that is no folder has no names; of a folder of an accepted volume the names are good.
use Rattle.model.proofs.Prelude.{rules}
use Rattle.names.proofs.Listing.{good_long, good_ready, good_readable, no_names, folder_in_lem, folder_type, folder_walk, some_names, the_names}
use Rattle.names.proofs.list_names.Goals as goal

pub of-sizes-requires : goal.of-sizes-requires
of-sizes-requires c = search good_long

pub is_folder-requires : goal.is_folder-requires
is_folder-requires c = (search (rules, good_readable), search)

pub returns-then-not-is_folder : goal.returns-then-not-is_folder
returns-then-not-is_folder c = search no_names

pub names_of-requires : goal.names_of-requires
names_of-requires c = (search good_ready, search folder_in_lem, search folder_type, search folder_walk, search)

pub unwrap-count-requires : goal.unwrap-count-requires
unwrap-count-requires c = search some_names

pub returns : goal.returns
returns c = search the_names
