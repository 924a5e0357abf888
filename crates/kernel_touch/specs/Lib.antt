pub mod Slots
pub mod Step
