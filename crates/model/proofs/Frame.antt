-- The frame: a view reads the same where only words change that no reading of it looks at.
pub mod Placed
pub mod Inode
pub mod View
pub mod Dead
