-- Filling has laws for every function that fills a list with gaps, and Behind those for one that asks for the gaps behind a gap; Found and
-- Judging have the cases of this crate's own functions.
mod Found
mod Judging
pub mod Filling
pub mod Behind
