pub mod Trip
pub mod Words
