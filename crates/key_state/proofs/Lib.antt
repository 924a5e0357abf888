pub mod Members
pub mod Idle
pub mod Steps
