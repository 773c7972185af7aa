-- For crates above: Noting has the laws of names that are noted, Meanings those that carry the table to the tree of folders, Nodes those of
-- the table as nodes and as numbers. Notes has the cases of the functions that note a name, Ways those of the ways up, Settling what
-- `settle_all` leaves, Numbers the laws of the table in an array.
pub mod Noting
pub mod Meanings
pub mod Nodes
mod Notes
mod Ways
mod Settling
mod Numbers
