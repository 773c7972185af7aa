-- Inodes is about where names lead, Listed about the table of one folder's names.
pub mod Inodes
pub mod Listed
