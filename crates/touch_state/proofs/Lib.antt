pub mod Known
pub mod Ids
pub mod Steps
