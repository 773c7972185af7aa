-- Entries has the laws of entries in a table, for crates above too; Names and Stretches have the cases of this crate's functions.
pub mod Entries
mod Names
mod Stretches
