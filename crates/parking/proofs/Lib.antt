pub mod Writes
pub mod Whole
