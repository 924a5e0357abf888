pub mod Types
pub mod Kinds
pub mod Numbers
pub mod Bits
pub mod Modifiers
pub mod Sense
pub mod Limits
