pub mod Insertion
pub mod Places
pub mod Removal
pub mod Upsert
pub mod Found
