-- What each call owes to the crash library: dead words only before the commit, and the map after it.
pub mod DataPages
pub mod Room
pub mod Still
pub mod Changed
pub mod Stored
pub mod Small
pub mod Grown
pub mod Actions
pub mod Names
pub mod Logs
pub mod NameCalls
pub mod Files
pub mod Clean
