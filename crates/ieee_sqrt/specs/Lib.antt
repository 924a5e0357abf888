pub mod Sqrt
pub mod Recurrence
pub mod Patterns
