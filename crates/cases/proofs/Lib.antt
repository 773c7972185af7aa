pub mod Alike
pub mod Held
pub mod SameWords
pub mod Computed
