pub mod Appends
pub mod Kept
