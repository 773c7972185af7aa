pub mod Table
pub mod Run
