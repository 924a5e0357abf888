pub mod Opened
pub mod AllPass
pub mod Needed
