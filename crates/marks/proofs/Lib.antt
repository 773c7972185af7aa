-- Counts has the laws for crates above; Turns has the cases of this crate's loop.
pub mod Counts
mod Turns
