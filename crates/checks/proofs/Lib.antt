-- Volumes says what an accepted volume gives, Cases has the cases of the functions, and Behind, for callers, what a call comes to behind
-- its first checks.
pub mod Volumes
pub mod Cases
pub mod Behind
