pub mod Questions
pub mod Reached
pub mod Told
pub mod WellFormed
