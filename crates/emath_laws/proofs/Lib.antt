-- Laws of lengths. Other crates may cite those marked pub.
pub mod Sizes
pub mod Lengths
pub mod Rim
