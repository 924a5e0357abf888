pub mod Narrow
pub mod Patterns
