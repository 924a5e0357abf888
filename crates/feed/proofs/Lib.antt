-- The laws of the feed, and what its readers' proofs rest on.
pub mod Nan
pub mod Lengths
pub mod Words
pub mod Reading
pub mod RoundTrip
pub mod Laws
pub mod Examples
pub mod Steps
