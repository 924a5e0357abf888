pub mod Types
pub mod Refusals
