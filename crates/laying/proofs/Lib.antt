-- Slots has the laws of entries laid one by one, Steps those of a log laid step by step.
mod Slots
pub mod Steps
