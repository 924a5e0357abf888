pub mod View
pub mod Sums
