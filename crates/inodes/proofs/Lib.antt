-- Once has the laws for crates above; Cases, Inodes and Unmarked have the cases of this crate's functions.
pub mod Once
mod Cases
mod Inodes
mod Unmarked
