-- What the gate's answer says of the checks, and what a caller's checks come to behind them.
mod Judging
pub mod Gates
pub mod Lists
