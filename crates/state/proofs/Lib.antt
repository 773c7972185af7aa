-- The cases of the two functions, and for callers: Sizes on what a file's log comes to, Within on what a file's state allows.
pub mod Sizes
mod Stating
pub mod Within
