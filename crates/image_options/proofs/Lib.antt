pub mod Trip
pub mod Arrays
