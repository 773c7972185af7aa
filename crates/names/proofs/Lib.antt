-- For crates above: Judged and Listing are about one folder's names, Inodes about where names lead, Lowest about the lowest invalid inode.
pub mod Judged
pub mod Listing
pub mod Inodes
pub mod Lowest
