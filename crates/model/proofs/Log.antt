-- A log in memory: its chain of pages, its slots, its entries, and how it is written and continued.
pub mod Chain
pub mod Slots
pub mod Decode
pub mod Pages
pub mod Distinct
pub mod Live
pub mod Extend
pub mod Append
