-- Laws of patterns and of rounding that belong to no one function. Other crates cite them.
pub mod Packed
pub mod Closest
pub mod Decode
pub mod Fields
