-- The directory is no file; another inode is one exactly if it is valid.
use Rattle.state.proofs.Sizes.{file_none}
use Rattle.state.proofs.no_file.Goals as goal

pub returns-else-inode-eq0 : goal.returns-else-inode-eq0
returns-else-inode-eq0 c = search file_none
