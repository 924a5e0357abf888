pub mod Types
pub mod Events
