pub mod Types
pub mod View
pub mod Lookup
