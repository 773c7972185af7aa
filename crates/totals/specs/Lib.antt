-- The table of a folder's inodes, and what the totals are.
pub mod Totals
