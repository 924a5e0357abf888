-- What the proofs of the functions rest on.
pub mod Run
pub mod Calls
