pub mod Cleanable
