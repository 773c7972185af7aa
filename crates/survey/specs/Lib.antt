-- Surveyed is the answer of the whole, Folders what is judged of folders before it.
pub mod Folders
pub mod Surveyed
