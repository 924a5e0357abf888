pub mod Touch
pub mod Crowded
