-- For crates above: Chunks has the pairs of a list as the library gives them. Pairs has the cases of the loops over pairs.
pub mod Chunks
mod Pairs
