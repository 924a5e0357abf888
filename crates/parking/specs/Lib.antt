pub mod Parked
pub mod Restored
