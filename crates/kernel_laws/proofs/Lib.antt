-- The theorems of specs/Laws.
pub mod Runs
pub mod Range
pub mod Left
pub mod Bytes
pub mod Goes
pub mod Balanced
pub mod Examples
