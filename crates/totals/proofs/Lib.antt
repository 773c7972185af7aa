-- Tables has the laws of the table of inodes, Beneath those of the totals, for crates above too.
mod Tables
pub mod Beneath
