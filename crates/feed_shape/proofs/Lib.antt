-- What an event that is given on a condition is.
mod Kept
