-- Demand 3 and what every panel reached has, proved. Assumes nothing.
pub mod Balance
mod Devices
mod TouchLimits
mod Taken
mod Times
mod Pointer
pub mod Counts
pub mod Reach
mod Trace
mod Agreeing
mod ClearingPass
mod Cleared
pub mod Clearing
mod Opened
pub mod Example
