pub mod Calls
pub mod Words
pub mod Request
pub mod Reply
pub mod Touching
