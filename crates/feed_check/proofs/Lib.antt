pub mod Judged
pub mod Found
pub mod Coordinate
