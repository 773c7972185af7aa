-- Power cuts: stores, the journal, the landing of a list's words, commits, and a whole history.
pub mod Stores
pub mod Journal
pub mod Landing
pub mod Commit
pub mod History
