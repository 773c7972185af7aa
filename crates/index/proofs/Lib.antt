-- Kept has the laws for crates above; Looks the cases of this crate's functions.
pub mod Kept
mod Looks
