pub mod Types
pub mod Hits
