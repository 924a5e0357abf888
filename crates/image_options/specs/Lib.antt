pub mod Options
pub mod Sizes
