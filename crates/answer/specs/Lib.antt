pub mod Meaning
pub mod Comes
