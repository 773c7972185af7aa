-- Runs, Entries, Folding, States, Sizes and Ends have the cases of this crate's functions.
pub mod Runs
mod Entries
mod Folding
mod States
mod Sizes
mod Ends
