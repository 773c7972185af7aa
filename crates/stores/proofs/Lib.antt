-- For crates above: Emitting has the laws of words put into a list, Listed those of a group's text, Groups those of stores added to a group.
-- Texts and Runs have the cases of this crate's functions.
pub mod Emitting
pub mod Listed
mod Texts
pub mod Groups
mod Runs
