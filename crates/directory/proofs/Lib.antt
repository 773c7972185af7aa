-- Table has the laws for crates above; Same tells names by their words, Standing what an index tells of a log, Indexing and Listing are the
-- loops over a log, and Folding the two together.
pub mod Table
mod Same
mod Standing
mod Indexing
mod Listing
mod Folding
