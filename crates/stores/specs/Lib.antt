pub mod Emitted
pub mod Added
