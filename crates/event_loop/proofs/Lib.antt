pub mod Walk
pub mod Loops
pub mod OfKind
pub mod Rows
