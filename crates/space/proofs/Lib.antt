-- Free, Few, Runs and Taken have laws for crates above; Lowest has further cases of this crate's functions.
pub mod Free
pub mod Few
pub mod Runs
mod Lowest
pub mod Taken
