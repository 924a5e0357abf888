pub mod Types
pub mod Split
pub mod Shape
pub mod Decode
pub mod Encode
pub mod Feed
pub mod Laws
