pub mod Types
pub mod Post
