pub mod Types
pub mod Vec
pub mod History
