-- Each answer is one case of the definition, by the valid word and the type.
use Rattle.model.proofs.Prelude.{arith, rules}
use Rattle.inodes.proofs.Cases.{inode_free, inode_bad, type_file, inode_file, inode_folder, inode_strange}
use Rattle.inodes.proofs.judge_inode.Goals as goal

pub file_state-requires : goal.file_state-requires
file_state-requires c = search (rules, type_file)

pub returns-in-0 : goal.returns-in-0
returns-in-0 c = inode_free _ _ _ _ _ _ c.requires.1 c.valid_word.ensures c.viewed.ensures _ c.in-0.is

pub returns-in-Ok-File : goal.returns-in-Ok-File
returns-in-Ok-File c =
    inode_file _ _ _ _ _ _ c.requires.1 c.valid_word.ensures c.viewed.ensures c.in-1.is _ _ (c.requires.0).journal c.type_word.ensures
    c.word_at.ensures _ c.in-Ok-File.ensures _ _ _ c.in-Ok-File.field-0-is c.file_state.ensures

pub returns-in-Ok-Folder : goal.returns-in-Ok-Folder
returns-in-Ok-Folder c =
    inode_folder _ _ _ _ _ _ c.requires.1 c.valid_word.ensures c.viewed.ensures c.in-1.is _ _ (c.requires.0).journal c.type_word.ensures
    c.word_at.ensures _ c.in-Ok-Folder.ensures _ _ _ c.in-Ok-Folder.field-0-is c.folder_state.ensures

pub returns-in-Err : goal.returns-in-Err
returns-in-Err c =
    inode_strange _ _ _ _ _ _ c.requires.1 c.valid_word.ensures c.viewed.ensures c.in-1.is _ _ (c.requires.0).journal c.type_word.ensures
    c.word_at.ensures _ c.in-Err.ensures.1

pub returns-in_default : goal.returns-in_default
returns-in_default c =
    inode_bad _ _ _ _ _ _ c.requires.1 c.valid_word.ensures c.viewed.ensures _ (omega arith) (omega arith)
