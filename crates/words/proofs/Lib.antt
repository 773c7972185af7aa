-- Cond has the laws by which crates above go through nested tests, Bytes the words as the library reads and stores them.
pub mod Cond
mod Bytes
