-- Inode 0 is a folder; of another the type word decides.
use Rattle.names.proofs.Inodes.{directory_is}
use Rattle.names.proofs.is_directory.Goals as goal

pub returns-else-k-eq-ROOT : goal.returns-else-k-eq-ROOT
returns-else-k-eq-ROOT c = search directory_is
