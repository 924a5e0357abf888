pub mod Turns
pub mod Averages
