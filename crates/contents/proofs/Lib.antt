-- Pages has the law by which crates above show what `read_into` requires of a table; Laying has the laws of values laid into a list,
-- Copying those of bytes copied one by one.
pub mod Pages
pub mod Laying
mod Copying
