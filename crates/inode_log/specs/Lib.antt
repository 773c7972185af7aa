-- Entries are a log's entries as the code has them, Steps a log read step by step, Ready a volume that was judged so far, Found an inode's
-- log.
pub mod Entries
pub mod Steps
pub mod Ready
pub mod Found
