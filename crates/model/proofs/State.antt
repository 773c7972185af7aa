-- What a log's entries come to: the bytes of files, lists of names, folders, and the file map.
pub mod Bytes
pub mod Stretches
pub mod Gaps
pub mod Append
pub mod Mapped
pub mod Write
pub mod Resize
pub mod Clean
pub mod Names
pub mod NameEntries
pub mod Folders
pub mod FoldersOk
pub mod Maps
pub mod Totals
