-- Form 1's laws.
pub mod Trip
pub mod Whole
pub mod Parkable
pub mod Fresh
