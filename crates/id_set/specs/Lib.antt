pub mod Types
pub mod Ids
