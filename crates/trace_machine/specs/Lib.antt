pub mod Given
pub mod Machine
