pub mod Balance
pub mod Reach
pub mod Clearing
pub mod Example
