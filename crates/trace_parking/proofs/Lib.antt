pub mod Parts
pub mod Refused
