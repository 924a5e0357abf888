pub mod Listed
pub mod Lookup
pub mod Numbered
pub mod Seen
