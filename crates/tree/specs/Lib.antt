-- The table of the tree: Table as a list of numbers, Way the ways up in it, Noted what it means of folders, Node its states by number,
-- Numbers the table in an array of a caller.
pub mod Table
pub mod Way
pub mod Noted
pub mod Node
pub mod Numbers
