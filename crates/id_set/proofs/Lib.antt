-- Laws of a set of ids in a buffer. Assumes nothing.
pub mod Insert
pub mod Shift
pub mod Written
