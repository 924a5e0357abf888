pub mod Calls
pub mod Slots
pub mod Laws
pub mod Table
