pub mod Types
pub mod Ring
