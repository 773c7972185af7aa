-- Taking has the laws of the pages taken, Parts those of the first group's parts and of the words that commit it, Logs
-- those of one log of an append, Whole those of all together. For callers Volumes has the facts of the volume, and Outcomes the laws of what
-- an append comes to.
mod Taking
mod Parts
pub mod Volumes
mod Logs
mod Whole
pub mod Outcomes
