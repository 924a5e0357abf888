-- The definitions that an evaluated theorem opens; and that devices stay in order. Other crates may cite those marked pub.
pub mod Opened
pub mod Ids
pub mod InOrder
