-- Meant and Turns have the laws for crates above, and Viewed one (`inode_in_lem`) beside the cases of `mark_log` and `log_of`. Marking has the
-- walk that marks, Reading and Places what a log's steps meet, Facts the step itself.
pub mod Meant
pub mod Turns
mod Marking
mod Reading
mod Places
pub mod Viewed
mod Facts
