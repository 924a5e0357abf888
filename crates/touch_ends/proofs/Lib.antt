pub mod Ended
mod Passed
