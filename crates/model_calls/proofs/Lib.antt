pub mod Opened
pub mod Recorded
