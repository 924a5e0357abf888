-- Laws of the root that belong to no one function. Other crates may cite those marked pub.
pub mod Isqrt
pub mod Rooting
pub mod Radicands
mod Special
